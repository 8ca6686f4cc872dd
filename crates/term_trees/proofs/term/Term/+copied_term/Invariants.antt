use Rattle.std.proofs.Common.{◌+◌, ◌*◌}
use Rattle.term_trees.specs.Terms.{node_count}
use Rattle.term_trees.proofs.term.Term.+copied_term.Given as goal

abbrev pub decreases-boxed_term : goal.decreases-boxed_term
decreases-boxed_term l = 3 * node_count l.self.now + 1

abbrev pub decreases-boxed_terms : goal.decreases-boxed_terms
decreases-boxed_terms l = 3 * (node_count l.a.now + node_count l.b.now) + 2

abbrev pub decreases-copy : goal.decreases-copy
decreases-copy l = 3 * node_count l.self.now
