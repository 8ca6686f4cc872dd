use Rattle.std.proofs.Common.{◌∙◌}
use Rattle.wasm_values.proofs.CountLemmas.{ones-is}
use Rattle.wasm_values.proofs.width.Width.ones.Goals as goal

pub returns : goal.returns
returns g c = c.from.ensures ∙ ones-is g.row.BITS c.args.a c.requires
