use Rattle.std.proofs.Common.{◌+◌, ◌*◌}
use Rattle.term_trees.specs.Formulas.{formula_nodes}
use Rattle.outline_setting.proofs.formulas.+formulas.Given as goal

abbrev pub decreases-same_formulas : goal.decreases-same_formulas
decreases-same_formulas l = 2 * (formula_nodes l.f.now + formula_nodes l.g.now) + 1

abbrev pub decreases-same_formula : goal.decreases-same_formula
decreases-same_formula l = 2 * formula_nodes l.f.now
