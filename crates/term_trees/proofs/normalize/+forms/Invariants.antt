use Rattle.std.proofs.Common.{◌+◌, ◌*◌}
use Rattle.term_trees.specs.Terms.{node_count}
use Rattle.term_trees.proofs.normalize.+forms.Given as goal

abbrev pub decreases-two_forms : goal.decreases-two_forms
decreases-two_forms l = 2 * (node_count l.a.now + node_count l.b.now) + 1

abbrev pub decreases-form_of : goal.decreases-form_of
decreases-form_of l = 2 * node_count l.t.now
