use Rattle.std.proofs.Common.{◌+◌, ◌*◌}
use Rattle.term_trees.specs.Formulas.{formula_nodes}
use Rattle.notes_print.proofs.formulas.+formulas.Given as goal

abbrev pub decreases-print_formula : goal.decreases-print_formula
decreases-print_formula l = 4 * formula_nodes l.f.now

abbrev pub decreases-more_formula : goal.decreases-more_formula
decreases-more_formula l = 4 * formula_nodes l.f.now + 1

abbrev pub decreases-more_formulas : goal.decreases-more_formulas
decreases-more_formulas l = 4 * (formula_nodes l.f.now + formula_nodes l.g.now) + 2

abbrev pub decreases-print_not : goal.decreases-print_not
decreases-print_not l = 4 * formula_nodes l.f.now + 2

abbrev pub decreases-print_over_formulas : goal.decreases-print_over_formulas
decreases-print_over_formulas l = 4 * (formula_nodes l.f.now + formula_nodes l.g.now) + 3
