use Rattle.wasm_sessions.proofs.Embedding.{actions_preserve, sessions_typed}
use Rattle.wasm_sessions.proofs.laws.sessions_are_typed.Goals as goal

pub returns : goal.returns
returns c = record { actions = actions_preserve; moments = sessions_typed }
