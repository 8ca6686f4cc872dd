use Rattle.std.proofs.Common.{◌+◌, ◌*◌, max}
use Rattle.term_logic.proofs.table.TermTable.+replace_ids.Given as goal

abbrev pub decreases-put_two_replaced_ids : goal.decreases-put_two_replaced_ids
decreases-put_two_replaced_ids l = 2 * max l.a l.b + 2

abbrev pub decreases-put_replaced_id : goal.decreases-put_replaced_id
decreases-put_replaced_id l = 2 * l.id + 1
