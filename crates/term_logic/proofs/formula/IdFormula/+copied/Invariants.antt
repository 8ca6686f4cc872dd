use Rattle.std.proofs.Common.{◌+◌, ◌*◌}
use Rattle.term_logic.proofs.FormulaNodes.{id_nodes}
use Rattle.term_logic.proofs.formula.IdFormula.+copied.Given as goal

abbrev pub decreases-boxed_copy : goal.decreases-boxed_copy
decreases-boxed_copy l = 3 * id_nodes l.self.now + 1

abbrev pub decreases-boxed_copies : goal.decreases-boxed_copies
decreases-boxed_copies l = 3 * (id_nodes l.f.now + id_nodes l.g.now) + 2

abbrev pub decreases-copy : goal.decreases-copy
decreases-copy l = 3 * id_nodes l.self.now
