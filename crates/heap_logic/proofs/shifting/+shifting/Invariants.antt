use Rattle.std.proofs.Common.{◌+◌, ◌*◌}
use Rattle.term_trees.specs.Terms.{node_count}
use Rattle.heap_logic.proofs.shifting.+shifting.Given as goal

abbrev pub decreases-are_shifted : goal.decreases-are_shifted
decreases-are_shifted l = 2 * (node_count l.a.now + node_count l.b.now) + 1

abbrev pub decreases-is_counted : goal.decreases-is_counted
decreases-is_counted l = 2 * node_count l.a.now + 1

abbrev pub decreases-is_shifted_term : goal.decreases-is_shifted_term
decreases-is_shifted_term l = 2 * node_count l.t.now
