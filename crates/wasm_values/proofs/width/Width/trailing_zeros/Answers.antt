use Rattle.std.proofs.Common.{◌∙◌}
use Rattle.wasm_values.proofs.WidthLemmas.{width-within}
use Rattle.wasm_values.proofs.CountLemmas.{trailing-is}
use Rattle.wasm_values.proofs.width.Width.trailing_zeros.Goals as goal

pub returns : goal.returns
returns g c =
    c.from.ensures ∙ c.min.ensures ∙ trailing-is 64 g.row.BITS c.args.a (width-within g.row.BITS c.requires.width)
