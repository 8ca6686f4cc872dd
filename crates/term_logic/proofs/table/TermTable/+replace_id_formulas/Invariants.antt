use Rattle.std.proofs.Common.{◌+◌, ◌*◌}
use Rattle.term_logic.proofs.FormulaNodes.{id_nodes}
use Rattle.term_logic.proofs.table.TermTable.+replace_id_formulas.Given as goal

abbrev pub decreases-put_boxed_id_formula : goal.decreases-put_boxed_id_formula
decreases-put_boxed_id_formula l = 3 * id_nodes l.f.now + 1

abbrev pub decreases-put_two_id_formulas : goal.decreases-put_two_id_formulas
decreases-put_two_id_formulas l = 3 * (id_nodes l.f.now + id_nodes l.g.now) + 2

abbrev pub decreases-put_replaced_id_formula : goal.decreases-put_replaced_id_formula
decreases-put_replaced_id_formula l = 3 * id_nodes l.f.now
