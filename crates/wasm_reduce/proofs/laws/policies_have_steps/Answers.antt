use Rattle.wasm_reduce.proofs.Choices.{policy_has_step, failing_has_step}
use Rattle.wasm_reduce.proofs.laws.policies_have_steps.Goals as goal

pub returns : goal.returns
returns c = record { policy = policy_has_step; failing = failing_has_step }
