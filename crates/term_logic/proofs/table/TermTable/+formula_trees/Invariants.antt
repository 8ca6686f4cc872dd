use Rattle.std.proofs.Common.{◌+◌, ◌*◌}
use Rattle.term_logic.proofs.FormulaNodes.{id_nodes}
use Rattle.term_logic.proofs.table.TermTable.+formula_trees.Given as goal

abbrev pub decreases-boxed_formula_tree : goal.decreases-boxed_formula_tree
decreases-boxed_formula_tree l = 2 * id_nodes l.f.now + 1

abbrev pub decreases-formula_tree : goal.decreases-formula_tree
decreases-formula_tree l = 2 * id_nodes l.f.now
