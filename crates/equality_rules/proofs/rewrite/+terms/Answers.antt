use Rattle.std.proofs.Common.{◌∙◌, sym}
use Rattle.equality_rules.proofs.Becomes.{became, stayed}
use Rattle.equality_rules.proofs.rewrite.+terms.Goals as goal

pub becomes-returns-then-is_exchanged : goal.becomes-returns-then-is_exchanged
becomes-returns-then-is_exchanged t c = became _ _ _ _ (sym c.is_exchanged.ensures ∙ c.if-is_exchanged.true)

pub becomes-returns-else-is_exchanged : goal.becomes-returns-else-is_exchanged
becomes-returns-else-is_exchanged t c =
    c.cell_becomes.ensures ∙ stayed _ _ c.args.table.now _ c.cell.result.now _ c.cell.ensures.layer (sym c.is_exchanged.ensures ∙ c.if-is_exchanged.false)
