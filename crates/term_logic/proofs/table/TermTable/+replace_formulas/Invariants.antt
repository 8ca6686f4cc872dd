use Rattle.std.proofs.Common.{◌+◌, ◌*◌}
use Rattle.term_trees.specs.Formulas.{formula_nodes}
use Rattle.term_logic.proofs.table.TermTable.+replace_formulas.Given as goal

abbrev pub decreases-put_boxed_formula : goal.decreases-put_boxed_formula
decreases-put_boxed_formula l = 3 * formula_nodes l.f.now + 1

abbrev pub decreases-put_two_replaced_formulas : goal.decreases-put_two_replaced_formulas
decreases-put_two_replaced_formulas l = 3 * (formula_nodes l.f.now + formula_nodes l.g.now) + 2

abbrev pub decreases-put_replaced_formula : goal.decreases-put_replaced_formula
decreases-put_replaced_formula l = 3 * formula_nodes l.f.now
