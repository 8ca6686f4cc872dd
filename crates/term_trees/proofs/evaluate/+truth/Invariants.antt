use Rattle.std.proofs.Common.{◌+◌, ◌*◌}
use Rattle.term_trees.specs.Formulas.{formula_nodes}
use Rattle.term_trees.proofs.evaluate.+truth.Given as goal

abbrev pub decreases-two_truths : goal.decreases-two_truths
decreases-two_truths l = 2 * (formula_nodes l.f.now + formula_nodes l.g.now) + 1

abbrev pub decreases-ground_truth : goal.decreases-ground_truth
decreases-ground_truth l = 2 * formula_nodes l.f.now
