use Rattle.type_safety.proofs.Preserving.{preservation}
use Rattle.wasm_reduce.specs.Policies.{grows_next}
use Rattle.wasm_reduce.proofs.laws.policy_steps_keep_types.Goals as goal

pub returns : goal.returns
returns r = λ policy c d typed step. preservation c d typed (grows_next policy c.store c.frames, step)
