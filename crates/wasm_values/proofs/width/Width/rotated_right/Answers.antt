use Rattle.std.proofs.Common.{arith}
use Rattle.wasm_values.proofs.RotationLemmas.{rotated-right}
use Rattle.wasm_values.proofs.width.Width.rotated_right.Goals as goal

pub returns : goal.returns
returns g c = rw c.shifted_left.ensures (rotated-right g.row.BITS c.args.a c.args.count c.requires.operand (omega arith))
