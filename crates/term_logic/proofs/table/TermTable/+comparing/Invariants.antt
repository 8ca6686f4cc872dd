use Rattle.std.proofs.Common.{◌+◌, ◌*◌}
use Rattle.term_trees.specs.Terms.{node_count}
use Rattle.term_logic.proofs.table.TermTable.+comparing.Given as goal

abbrev pub decreases-test_parts : goal.decreases-test_parts
decreases-test_parts l = 2 * (node_count l.a.now + node_count l.b.now) + 1

abbrev pub decreases-test_counted : goal.decreases-test_counted
decreases-test_counted l = 2 * node_count l.a.now + 1

abbrev pub decreases-test_term : goal.decreases-test_term
decreases-test_term l = 2 * node_count l.t.now
