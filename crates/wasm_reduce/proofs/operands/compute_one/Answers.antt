use Rattle.std.proofs.Common.{reverse, ap, ◌∙◌}
use Rattle.wasm_values.specs.Operators.{value_of, operand_type}
use Rattle.wasm_reduce.proofs.operands.compute_one.Goals as goal

pub top-a-requires : goal.top-a-requires
top-a-requires c =
    let r = c.requires.there in
    (value_of (operand_type c.args.op) r.0, r.1, ap (λ l. reverse l) c.as_slice.ensures ∙ r.2)
