use Rattle.term_logic.proofs.FormulaNodes.{id_nodes}
use Rattle.term_logic.proofs.table.TermTable.+formula_nodes.Given as goal

abbrev pub decreases-formula_nodes : goal.decreases-formula_nodes
decreases-formula_nodes l = id_nodes l.f.now
