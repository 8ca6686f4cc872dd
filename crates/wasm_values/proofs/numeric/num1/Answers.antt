use Rattle.std.proofs.Common.{inl, refl}
use Rattle.wasm_values.proofs.RangeLaws.{unary-lt}
use Rattle.wasm_values.proofs.numeric.num1.Goals as goal

pub narrow-requires : goal.narrow-requires
narrow-requires c = rw c.one.ensures (unary-lt 32 c.in-W32-I32.op c.from.result (inl refl))
