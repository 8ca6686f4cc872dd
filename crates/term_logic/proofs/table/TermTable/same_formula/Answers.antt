use Rattle.term_trees.proofs.Sameness.{same_formula-is}
use Rattle.term_logic.proofs.table.TermTable.same_formula.Goals as goal

pub returns-clause-same : goal.returns-clause-same
returns-clause-same c = rw c.test_formulas.ensures (same_formula-is _ _)
