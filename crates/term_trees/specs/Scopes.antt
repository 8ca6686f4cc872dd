-- Which leaves may stand in terms and formulas, and numbers that agree on them.
use Rattle.std.specs.Prelude.{◌≡◌, ℕ, pos, Bool, true, ◌&&◌, is_some, nat_lt, slice_index_or, IsTrue}
use Rattle.std.specs.List.{list_any}
use Rattle.term_trees.specs.contracts.term.PlacePartialEq.TheImpl as place_eq
use Rattle.term_trees.specs.declared.term.Place.{Place}
use Rattle.term_trees.specs.declared.term.Term.{Term, fold-Term}
use Rattle.term_trees.specs.declared.term.Term.TheOpen.{Term-F, Num, Var, Own, At, Add, Sub, Mul, One, Two, Low, Sext, Sgn}
use Rattle.term_trees.specs.declared.term.Formula.{Formula, fold-Formula}
use Rattle.term_trees.specs.declared.term.Formula.TheOpen as layer
use Rattle.term_trees.specs.declared.term.Formula.TheOpen.{Formula-F}
use Rattle.term_trees.specs.declared.scope.Bounds.{Bounds}
use Rattle.term_trees.specs.Leaves.{Leaves}
use Rattle.term_trees.specs.Meaning.{Numbers}

-- Which variables, own variables and places there are.
pub record Scope : Type 0 where
  pub variable : ℕ → Bool
  pub own : ℕ → Bool
  pub place : Place → Bool

-- whether a leaf is among those that there are, and whether the parts of any other layer are so
abbrev pub in_scope_here : Scope → Term-F Bool → Bool
in_scope_here s (Num n) = true
in_scope_here s (Var k) = s.variable k
in_scope_here s (Own k) = s.own k
in_scope_here s (At p) = s.place p
in_scope_here s (Add a b) = a && b
in_scope_here s (Sub a b) = a && b
in_scope_here s (Mul a b) = a && b
in_scope_here s (One op a) = a
in_scope_here s (Two op a b) = a && b
in_scope_here s (Low k a) = a
in_scope_here s (Sext k n a) = a
in_scope_here s (Sgn n a) = a

-- Whether the leaves of a term are among those that there are.
abbrev pub in_scope : Scope → Term → Bool
in_scope s t = fold-Term Bool (in_scope_here s) t

-- whether the terms of one layer are so, and its parts
abbrev pub formula_in_scope_here : Scope → Formula-F Bool → Bool
formula_in_scope_here s layer.True = true
formula_in_scope_here s layer.False = true
formula_in_scope_here s (layer.Eq a b) = in_scope s a && in_scope s b
formula_in_scope_here s (layer.Le a b) = in_scope s a && in_scope s b
formula_in_scope_here s (layer.Lt a b) = in_scope s a && in_scope s b
formula_in_scope_here s (layer.Not f) = f
formula_in_scope_here s (layer.And f g) = f && g
formula_in_scope_here s (layer.Or f g) = f && g
formula_in_scope_here s (layer.Imp f g) = f && g

-- Whether the leaves of a formula are among those that there are.
abbrev pub formula_in_scope : Scope → Formula → Bool
formula_in_scope s f = fold-Formula Bool (formula_in_scope_here s) f

-- The first variables, the first own variables, and these places.
abbrev pub bounded_scope : Bounds → Scope
bounded_scope b = record {
  variable = λ k. nat_lt k b.variables;
  own = λ k. nat_lt k b.own;
  place = λ p. list_any (λ q. (place_eq.ghosts).eq q p) b.places.now;
}

-- The leaves that have a tree in their place.
abbrev pub given : Leaves → Scope
given l = record {
  variable = λ k. is_some (l.variable k);
  own = λ k. is_some (l.own k);
  place = λ p. is_some (l.place p);
}

-- The numbers agree on the leaves that there are.
pub record Agree (s : Scope) (n m : Numbers) : Type 0 where
  pub variables : (k : ℕ) → IsTrue (s.variable k) → slice_index_or n.variables k (pos 0) ≡ slice_index_or m.variables k (pos 0)
  pub own : (k : ℕ) → IsTrue (s.own k) → slice_index_or n.own k (pos 0) ≡ slice_index_or m.own k (pos 0)
  pub places : (p : Place) → IsTrue (s.place p) → n.places p ≡ m.places p
