use Rattle.term_logic.proofs.FormulaNodes.{id_nodes}
use Rattle.term_logic.proofs.table.TermTable.+id_formula_in_scope.Given as goal

abbrev pub decreases-id_formula_in_scope : goal.decreases-id_formula_in_scope
decreases-id_formula_in_scope g l = id_nodes l.f.now
