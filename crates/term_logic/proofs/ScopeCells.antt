-- The leaves of the tree of a cell, by those of its parts.
use Rattle.std.proofs.Common.{◌≡◌, ℕ, ℤ, Bool, true, ◌&&◌, List}
use Rattle.wasm_values.specs.declared.number.NumOp.{NumOp}
use Rattle.term_trees.specs.declared.term.Place.{Place}
use Rattle.term_trees.specs.declared.term.Term.{Term, map-Term}
use Rattle.term_trees.specs.Scopes.{Scope, in_scope_here}
use Rattle.term_logic.specs.declared.table.TermCell.{TermCell}
use Rattle.term_logic.specs.declared.table.TermCell.TheVariants.{Num, Var, Own, At, Add, Sub, Mul, One, Two, Low, Sext, Sgn}
use Rattle.term_logic.specs.Table.{cell_layer, tree_at, tree_here}
use Rattle.term_logic.specs.words.Scopes.{scope_of}
use Rattle.term_logic.proofs.Trees.{fold-tree_here}

module _ (s : Scope) (ts : List Term) where
  cell-scope : (c : TermCell) → scope_of s (tree_here ts c) ≡ in_scope_here s (map-Term ℕ Bool (λ i. scope_of s (tree_at ts i)) (cell_layer c))
  unfolding scope_of
  cell-scope c = fold-tree_here Bool (in_scope_here s) ts c

  pub scope-num : (n : ℤ) → scope_of s (tree_here ts (Num n)) ≡ true
  scope-num n = cell-scope (Num n)

  pub scope-var : (k : ℕ) → scope_of s (tree_here ts (Var k)) ≡ s.variable k
  scope-var k = cell-scope (Var k)

  pub scope-own : (k : ℕ) → scope_of s (tree_here ts (Own k)) ≡ s.own k
  scope-own k = cell-scope (Own k)

  pub scope-at : (p : Place) → scope_of s (tree_here ts (At p)) ≡ s.place p
  scope-at p = cell-scope (At p)

  pub scope-add : (a b : ℕ) → scope_of s (tree_here ts (Add a b)) ≡ (scope_of s (tree_at ts a) && scope_of s (tree_at ts b))
  scope-add a b = cell-scope (Add a b)

  pub scope-sub : (a b : ℕ) → scope_of s (tree_here ts (Sub a b)) ≡ (scope_of s (tree_at ts a) && scope_of s (tree_at ts b))
  scope-sub a b = cell-scope (Sub a b)

  pub scope-mul : (a b : ℕ) → scope_of s (tree_here ts (Mul a b)) ≡ (scope_of s (tree_at ts a) && scope_of s (tree_at ts b))
  scope-mul a b = cell-scope (Mul a b)

  pub scope-one : (op : NumOp) (a : ℕ) → scope_of s (tree_here ts (One op a)) ≡ scope_of s (tree_at ts a)
  scope-one op a = cell-scope (One op a)

  pub scope-two : (op : NumOp) (a b : ℕ) → scope_of s (tree_here ts (Two op a b)) ≡ (scope_of s (tree_at ts a) && scope_of s (tree_at ts b))
  scope-two op a b = cell-scope (Two op a b)

  pub scope-low : (k a : ℕ) → scope_of s (tree_here ts (Low k a)) ≡ scope_of s (tree_at ts a)
  scope-low k a = cell-scope (Low k a)

  pub scope-sext : (k n a : ℕ) → scope_of s (tree_here ts (Sext k n a)) ≡ scope_of s (tree_at ts a)
  scope-sext k n a = cell-scope (Sext k n a)

  pub scope-sgn : (n a : ℕ) → scope_of s (tree_here ts (Sgn n a)) ≡ scope_of s (tree_at ts a)
  scope-sgn n a = cell-scope (Sgn n a)

pub ruleset cell_scopes = (scope-num, scope-var, scope-own, scope-at, scope-add, scope-sub, scope-mul, scope-one, scope-two, scope-low, scope-sext, scope-sgn)
