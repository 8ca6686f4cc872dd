use Rattle.std.proofs.Common.{◌+◌, ◌*◌}
use Rattle.term_logic.proofs.FormulaNodes.{id_nodes}
use Rattle.symbolic_state.proofs.placing.+placing.Given as goal

abbrev pub decreases-put_boxed : goal.decreases-put_boxed
decreases-put_boxed l = 3 * id_nodes l.f.now + 1

abbrev pub decreases-put_formulas : goal.decreases-put_formulas
decreases-put_formulas l = 3 * (id_nodes l.f.now + id_nodes l.g.now) + 2

abbrev pub decreases-put_formula : goal.decreases-put_formula
decreases-put_formula l = 3 * id_nodes l.f.now
