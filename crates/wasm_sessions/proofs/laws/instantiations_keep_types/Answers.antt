use Rattle.wasm_sessions.proofs.Instantiating.{instantiated_typed}
use Rattle.wasm_sessions.proofs.laws.instantiations_keep_types.Goals as goal

pub returns : goal.returns
returns c = λ m externs valid b d t h. instantiated_typed b d m externs valid t h
