use Rattle.wasm_values.proofs.RangeLaws.{num_unary-lt, num_binary-lt}
use Rattle.wasm_values.proofs.laws.numbers_in_range.Goals as goal

pub returns-clause-one : goal.returns-clause-one
returns-clause-one c op a = num_unary-lt op a

pub returns-clause-two : goal.returns-clause-two
returns-clause-two c op a b = num_binary-lt op a b
