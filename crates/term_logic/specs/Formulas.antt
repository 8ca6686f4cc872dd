-- The formula that one over a table stands for.
use Rattle.std.specs.Prelude.{ℕ, ◌+◌, max, List}
use Rattle.term_trees.specs.declared.term.Term.{Term}
use Rattle.term_trees.specs.declared.term.Formula.{Formula, roll-Formula}
use Rattle.term_trees.specs.declared.term.Formula.TheOpen.{Formula-F}
use Rattle.term_trees.specs.declared.term.Formula.TheOpen as layer
use Rattle.term_logic.specs.declared.formula.IdFormula.{IdFormula, fold-IdFormula}
use Rattle.term_logic.specs.declared.formula.IdFormula.TheOpen.{IdFormula-F, True, False, Eq, Le, Lt, Not, And, Or, Imp}
use Rattle.term_logic.specs.Table.{tree_at}

-- the least number above all positions of one layer
abbrev pub bound_here : IdFormula-F ℕ → ℕ
bound_here True = 0
bound_here False = 0
bound_here (Eq a b) = max (a + 1) (b + 1)
bound_here (Le a b) = max (a + 1) (b + 1)
bound_here (Lt a b) = max (a + 1) (b + 1)
bound_here (Not f) = f
bound_here (And f g) = max f g
bound_here (Or f g) = max f g
bound_here (Imp f g) = max f g

-- The least number above all positions that the formula names: it is over a table where that is at most the length.
abbrev pub formula_bound : IdFormula → ℕ
formula_bound f = fold-IdFormula ℕ bound_here f

-- one layer of the formula, from the formulas of its parts
abbrev pub formula_layer : List Term → IdFormula-F Formula → Formula-F Formula
formula_layer ts True = layer.True
formula_layer ts False = layer.False
formula_layer ts (Eq a b) = layer.Eq (tree_at ts a) (tree_at ts b)
formula_layer ts (Le a b) = layer.Le (tree_at ts a) (tree_at ts b)
formula_layer ts (Lt a b) = layer.Lt (tree_at ts a) (tree_at ts b)
formula_layer ts (Not f) = layer.Not f
formula_layer ts (And f g) = layer.And f g
formula_layer ts (Or f g) = layer.Or f g
formula_layer ts (Imp f g) = layer.Imp f g

-- The formula that one over a table stands for: each position is replaced by its tree.
abbrev pub formula_of : List Term → IdFormula → Formula
formula_of ts f = fold-IdFormula Formula (λ l. roll-Formula (formula_layer ts l)) f
