use Rattle.wasm_store.proofs.TypeLaws.{types-eq, eq-types}
use Rattle.wasm_store.proofs.laws.same_types_are_equal.Goals as goal

pub returns : goal.returns
returns c = λ a b. (types-eq a b, eq-types a b)
