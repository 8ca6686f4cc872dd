use Rattle.std.proofs.Common.{◌+◌, ◌*◌}
use Rattle.term_trees.specs.Terms.{node_count}
use Rattle.notes_print.proofs.terms.+terms.Given as goal

abbrev pub decreases-print_term : goal.decreases-print_term
decreases-print_term l = 4 * node_count l.t.now

abbrev pub decreases-more_term : goal.decreases-more_term
decreases-more_term l = 4 * node_count l.a.now + 1

abbrev pub decreases-more_terms : goal.decreases-more_terms
decreases-more_terms l = 4 * (node_count l.a.now + node_count l.b.now) + 2

abbrev pub decreases-print_over_two : goal.decreases-print_over_two
decreases-print_over_two l = 4 * (node_count l.a.now + node_count l.b.now) + 3

abbrev pub decreases-print_op_one : goal.decreases-print_op_one
decreases-print_op_one l = 4 * node_count l.a.now + 2

abbrev pub decreases-print_op_two : goal.decreases-print_op_two
decreases-print_op_two l = 4 * (node_count l.a.now + node_count l.b.now) + 3

abbrev pub decreases-more_width : goal.decreases-more_width
decreases-more_width l = 4 * node_count l.a.now + 2

abbrev pub decreases-print_width : goal.decreases-print_width
decreases-print_width l = 4 * node_count l.a.now + 3

abbrev pub decreases-more_widths : goal.decreases-more_widths
decreases-more_widths l = 4 * node_count l.a.now + 2

abbrev pub decreases-print_widths : goal.decreases-print_widths
decreases-print_widths l = 4 * node_count l.a.now + 3
