use Rattle.term_logic.proofs.FormulaNodes.{id_nodes}
use Rattle.term_logic.proofs.table.TermTable.+replaced_id_formula_nodes.Given as goal

abbrev pub decreases-replaced_id_formula_nodes : goal.decreases-replaced_id_formula_nodes
decreases-replaced_id_formula_nodes l = id_nodes l.f.now
