-- Terms and formulas with trees in place of their leaves.
use Rattle.std.specs.Prelude.{◌≡◌, ℕ, pos, slice_index_or, Option, None, unwrap_or}
use Rattle.std.specs.Option.{option_map_or}
use Rattle.term_trees.specs.declared.term.Place.{Place}
use Rattle.term_trees.specs.declared.term.Term.{Term, fold-Term}
use Rattle.term_trees.specs.declared.term.Term.TheVariants as term
use Rattle.term_trees.specs.declared.term.Term.TheOpen.{Term-F, Num, Var, Own, At, Add, Sub, Mul, One, Two, Low, Sext, Sgn}
use Rattle.term_trees.specs.declared.term.Formula.{Formula, fold-Formula}
use Rattle.term_trees.specs.declared.term.Formula.TheVariants as formula
use Rattle.term_trees.specs.declared.term.Formula.TheOpen as layer
use Rattle.term_trees.specs.declared.term.Formula.TheOpen.{Formula-F}
use Rattle.term_trees.specs.Meaning.{Numbers, value}

-- The trees that leaves are replaced by: one for each variable, own variable and place that has one. Every other leaf
-- stays.
pub record Leaves : Type 0 where
  pub variable : ℕ → Option Term
  pub own : ℕ → Option Term
  pub place : Place → Option Term

-- No leaf has a tree in its place.
abbrev pub no_leaves : Leaves
no_leaves = record {
  variable = λ k. None;
  own = λ k. None;
  place = λ p. None;
}

-- one layer, its parts with their leaves replaced: where it is a leaf, it is replaced itself
abbrev pub replaced_here : Leaves → Term-F Term → Term
replaced_here l (Num n) = term.Num n
replaced_here l (Var k) = unwrap_or (l.variable k) (term.Var k)
replaced_here l (Own k) = unwrap_or (l.own k) (term.Own k)
replaced_here l (At p) = unwrap_or (l.place p) (term.At p)
replaced_here l (Add a b) = term.Add a b
replaced_here l (Sub a b) = term.Sub a b
replaced_here l (Mul a b) = term.Mul a b
replaced_here l (One op a) = term.One op a
replaced_here l (Two op a b) = term.Two op a b
replaced_here l (Low k a) = term.Low k a
replaced_here l (Sext k n a) = term.Sext k n a
replaced_here l (Sgn n a) = term.Sgn n a

-- The term with its leaves replaced.
abbrev pub replaced : Leaves → Term → Term
replaced l t = fold-Term Term (replaced_here l) t

-- one layer of a formula, its parts with their leaves replaced
abbrev pub replaced_formula_here : Leaves → Formula-F Formula → Formula
replaced_formula_here l layer.True = formula.True
replaced_formula_here l layer.False = formula.False
replaced_formula_here l (layer.Eq a b) = formula.Eq (replaced l a) (replaced l b)
replaced_formula_here l (layer.Le a b) = formula.Le (replaced l a) (replaced l b)
replaced_formula_here l (layer.Lt a b) = formula.Lt (replaced l a) (replaced l b)
replaced_formula_here l (layer.Not f) = formula.Not f
replaced_formula_here l (layer.And f g) = formula.And f g
replaced_formula_here l (layer.Or f g) = formula.Or f g
replaced_formula_here l (layer.Imp f g) = formula.Imp f g

-- The formula with its leaves replaced.
abbrev pub replaced_formula : Leaves → Formula → Formula
replaced_formula l f = fold-Formula Formula (replaced_formula_here l) f

-- The numbers m give each leaf the value that what stands in its place has under the numbers n.
pub record Stands (l : Leaves) (n m : Numbers) : Type 0 where
  pub variables : (k : ℕ) → slice_index_or m.variables k (pos 0) ≡ option_map_or (value n) (l.variable k) (slice_index_or n.variables k (pos 0))
  pub own : (k : ℕ) → slice_index_or m.own k (pos 0) ≡ option_map_or (value n) (l.own k) (slice_index_or n.own k (pos 0))
  pub places : (p : Place) → m.places p ≡ option_map_or (value n) (l.place p) (n.places p)
