use Rattle.std.proofs.Common.{◌+◌, ◌*◌}
use Rattle.term_trees.specs.Terms.{node_count}
use Rattle.term_trees.proofs.evaluate.+ground.Given as goal

abbrev pub decreases-two_values : goal.decreases-two_values
decreases-two_values l = 2 * (node_count l.a.now + node_count l.b.now) + 1

abbrev pub decreases-ground_value : goal.decreases-ground_value
decreases-ground_value l = 2 * node_count l.t.now
