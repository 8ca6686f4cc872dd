use Rattle.std.proofs.Common.{◌≡◌, ◌++◌, take}
use Rattle.wasm_values.specs.Types.{zeros_of}
use Rattle.wasm_values.proofs.types.add_zeros.Given as goal

abbrev pub invariant-loop-ty : goal.invariant-loop-ty
invariant-loop-ty l = l.locals ≡ l.initial.locals ++ zeros_of (take l.ty-index l.types)
