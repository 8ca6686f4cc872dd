use Rattle.std.proofs.Common.{◌∙◌}
use Rattle.wasm_values.proofs.WidthLemmas.{width-within}
use Rattle.wasm_values.proofs.CountLemmas.{leading-within, leading-is}
use Rattle.wasm_values.proofs.width.Width.leading_zeros.Goals as goal

pub overflow_sub-a : goal.overflow_sub-a
overflow_sub-a g c = leading-within 64 g.row.BITS c.args.a (width-within g.row.BITS c.requires.width) c.requires.operand

pub returns : goal.returns
returns g c = c.from.ensures ∙ leading-is 64 g.row.BITS c.args.a (width-within g.row.BITS c.requires.width) c.requires.operand
