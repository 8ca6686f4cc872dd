use Rattle.std.proofs.Common.{◌+◌, ◌*◌}
use Rattle.term_trees.specs.Formulas.{formula_nodes}
use Rattle.term_trees.proofs.term.Formula.+copied_formula.Given as goal

abbrev pub decreases-boxed_formula : goal.decreases-boxed_formula
decreases-boxed_formula l = 3 * formula_nodes l.self.now + 1

abbrev pub decreases-boxed_formulas : goal.decreases-boxed_formulas
decreases-boxed_formulas l = 3 * (formula_nodes l.f.now + formula_nodes l.g.now) + 2

abbrev pub decreases-copy : goal.decreases-copy
decreases-copy l = 3 * formula_nodes l.self.now
