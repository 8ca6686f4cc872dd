use Rattle.std.proofs.Common.{◌≡◌, ◌∷◌, reverse, ap, ◌∙◌}
use Rattle.wasm_values.specs.Operators.{value_of, operand_type}
use Rattle.wasm_reduce.proofs.operands.compute_two.Goals as goal

pub top-a-requires : goal.top-a-requires
top-a-requires c =
    let r = c.requires.there in
    let left : reverse c.pop-b.new.operands ≡ value_of (operand_type c.args.op) r.0 ∷ r.2 = cc (c.pop-b.ensures, r.3) in
    (value_of (operand_type c.args.op) r.0, r.2, ap reverse c.as_slice.ensures ∙ left)
