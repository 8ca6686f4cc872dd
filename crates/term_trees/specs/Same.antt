-- Whether two trees are equal, as a truth value that computes.
use Rattle.std.specs.Prelude.{ℕ, Bool, false, ◌&&◌, ◌==◌, Option}
use Rattle.std.specs.Option.{option_map_or}
use Rattle.std.specs.Ordering.{int_eq}
use Rattle.wasm_values.specs.contracts.number.NumOpPartialEq.TheImpl as operator
use Rattle.term_trees.specs.contracts.term.PlacePartialEq.TheImpl as place
use Rattle.term_trees.specs.declared.term.Term.{Term, fold-Term}
use Rattle.term_trees.specs.declared.term.Term.TheOpen.{Term-F, Num, Var, Own, At, Add, Sub, Mul, One, Two, Low, Sext, Sgn}
use Rattle.term_trees.specs.declared.term.Formula.{Formula, fold-Formula}
use Rattle.term_trees.specs.declared.term.Formula.TheOpen as layer
use Rattle.term_trees.specs.declared.term.Formula.TheOpen.{Formula-F}
use Rattle.term_trees.specs.Views.{num_of, var_of, own_of, place_of, sum_of, difference_of, product_of, one_of, two_of, low_of, sext_of, sgn_of, is_true, is_false, eq_of, le_of, lt_of, not_of, and_of, or_of, imp_of}

-- there is a value, and it passes the test
abbrev pub passes : {X : Type 0} → Option X → (X → Bool) → Bool
passes o test = option_map_or test o false

-- whether one layer is that of the tree, from whether its parts are given trees
abbrev pub same_here : Term-F (Term → Bool) → Term → Bool
same_here (Num n) t = passes (num_of t) (λ m. int_eq n m)
same_here (Var k) t = passes (var_of t) (λ j. k == j)
same_here (Own k) t = passes (own_of t) (λ j. k == j)
same_here (At p) t = passes (place_of t) (λ q. (place.ghosts).eq p q)
same_here (Add a b) t = passes (sum_of t) (λ p. a p.0 && b p.1)
same_here (Sub a b) t = passes (difference_of t) (λ p. a p.0 && b p.1)
same_here (Mul a b) t = passes (product_of t) (λ p. a p.0 && b p.1)
same_here (One op a) t = passes (one_of t) (λ p. (operator.ghosts).eq op p.0 && a p.1)
same_here (Two op a b) t = passes (two_of t) (λ p. (operator.ghosts).eq op p.0 && (a p.1 && b p.2))
same_here (Low k a) t = passes (low_of t) (λ p. k == p.0 && a p.1)
same_here (Sext k n a) t = passes (sext_of t) (λ p. k == p.0 && (n == p.1 && a p.2))
same_here (Sgn n a) t = passes (sgn_of t) (λ p. n == p.0 && a p.1)

-- Whether two terms are the same tree.
abbrev pub same : Term → Term → Bool
same t u = fold-Term (Term → Bool) same_here t u

-- whether there are two trees, and they are these
abbrev pub same_parts : Term → Term → Option (Term × Term) → Bool
same_parts a b o = passes o (λ p. same a p.0 && same b p.1)

-- whether there is a number with a tree, and they are these
abbrev pub same_counted : ℕ → Term → Option (ℕ × Term) → Bool
same_counted k a o = passes o (λ p. k == p.0 && same a p.1)

-- whether one layer is that of the formula, from whether its parts are given formulas
abbrev pub same_formula_here : Formula-F (Formula → Bool) → Formula → Bool
same_formula_here layer.True f = is_true f
same_formula_here layer.False f = is_false f
same_formula_here (layer.Eq a b) f = passes (eq_of f) (λ p. same a p.0 && same b p.1)
same_formula_here (layer.Le a b) f = passes (le_of f) (λ p. same a p.0 && same b p.1)
same_formula_here (layer.Lt a b) f = passes (lt_of f) (λ p. same a p.0 && same b p.1)
same_formula_here (layer.Not g) f = passes (not_of f) (λ h. g h)
same_formula_here (layer.And g h) f = passes (and_of f) (λ p. g p.0 && h p.1)
same_formula_here (layer.Or g h) f = passes (or_of f) (λ p. g p.0 && h p.1)
same_formula_here (layer.Imp g h) f = passes (imp_of f) (λ p. g p.0 && h p.1)

-- Whether two formulas are the same tree.
abbrev pub same_formula : Formula → Formula → Bool
same_formula f g = fold-Formula (Formula → Bool) same_formula_here f g
