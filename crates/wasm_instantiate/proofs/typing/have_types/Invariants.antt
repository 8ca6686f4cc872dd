use Rattle.std.proofs.Common.{◌≡◌, take, All}
use Rattle.wasm_typing.specs.Valid.{ValInRange}
use Rattle.type_safety.specs.Shapes.{types}
use Rattle.wasm_instantiate.proofs.typing.have_types.Given as goal

abbrev pub invariant-loop-k : goal.invariant-loop-k
invariant-loop-k l = (types (take l.k l.values) ≡ take l.k l.wanted) × All ValInRange (take l.k l.values)
