use Rattle.wasm_reduce.proofs.Determined.{determined}
use Rattle.wasm_reduce.proofs.laws.steps_are_determined.Goals as goal

pub returns : goal.returns
returns c = determined
