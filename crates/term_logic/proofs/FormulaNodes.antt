-- How many nodes a formula over a table has: a measure of recursions.
use Rattle.std.proofs.Common.{ℕ, ◌+◌}
use Rattle.term_logic.specs.declared.formula.IdFormula.{IdFormula, fold-IdFormula}
use Rattle.term_logic.specs.declared.formula.IdFormula.TheOpen.{IdFormula-F, True, False, Eq, Le, Lt, Not, And, Or, Imp}

abbrev pub id_nodes_here : IdFormula-F ℕ → ℕ
id_nodes_here True = 1
id_nodes_here False = 1
id_nodes_here (Eq a b) = 1
id_nodes_here (Le a b) = 1
id_nodes_here (Lt a b) = 1
id_nodes_here (Not f) = 1 + f
id_nodes_here (And f g) = 1 + f + g
id_nodes_here (Or f g) = 1 + f + g
id_nodes_here (Imp f g) = 1 + f + g

abbrev pub id_nodes : IdFormula → ℕ
id_nodes f = fold-IdFormula ℕ id_nodes_here f
