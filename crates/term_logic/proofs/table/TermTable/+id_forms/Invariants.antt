use Rattle.std.proofs.Common.{◌+◌, ◌*◌, max}
use Rattle.term_logic.proofs.table.TermTable.+id_forms.Given as goal

abbrev pub decreases-two_forms : goal.decreases-two_forms
decreases-two_forms l = 2 * (max l.a l.b + 1)

abbrev pub decreases-form_of : goal.decreases-form_of
decreases-form_of l = 2 * l.id + 1
