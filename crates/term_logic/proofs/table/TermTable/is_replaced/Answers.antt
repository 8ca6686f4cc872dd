use Rattle.term_trees.proofs.Sameness.{same-is}
use Rattle.term_logic.proofs.table.TermTable.is_replaced.Goals as goal

pub returns-clause-same : goal.returns-clause-same
returns-clause-same c = rw c.test_term.ensures (same-is _ _)
