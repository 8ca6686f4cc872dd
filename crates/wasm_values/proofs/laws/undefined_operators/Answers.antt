use Rattle.wasm_values.proofs.UndefinedLaws.{undefined-is}
use Rattle.wasm_values.proofs.laws.undefined_operators.Goals as goal

pub returns : goal.returns
returns c n op a b = undefined-is n op a b
