use Rattle.wasm_sessions.proofs.HostLaws.{invoked_typed}
use Rattle.wasm_sessions.proofs.laws.invocations_keep_types.Goals as goal

pub returns : goal.returns
returns c = λ e values b d t h. invoked_typed b d e values t h
