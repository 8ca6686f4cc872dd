use Rattle.std.proofs.Common.{◌+◌, ◌*◌, max}
use Rattle.term_logic.proofs.table.TermTable.+trees.Given as goal

abbrev pub decreases-boxed_tree : goal.decreases-boxed_tree
decreases-boxed_tree l = 3 * l.id + 1

abbrev pub decreases-boxed_trees : goal.decreases-boxed_trees
decreases-boxed_trees l = 3 * max l.a l.b + 2

abbrev pub decreases-tree : goal.decreases-tree
decreases-tree l = 3 * l.id
