-- The linear form of the tree of a cell, by those of its parts.
use Rattle.std.proofs.Common.{◌≡◌, ℕ, ℤ, pos, List, [], ◌∷◌, Some, sym, ap, subst, ◌∙◌}
use Rattle.std.specs.Prelude.{option_map, option_and_then}
use Rattle.wasm_values.specs.declared.number.NumOp.{NumOp}
use Rattle.term_trees.specs.declared.term.Place.{Place}
use Rattle.term_trees.specs.declared.term.Term.{Term}
use Rattle.term_logic.specs.declared.table.TermCell.TheVariants.{Num, Var, Own, At, Add, Sub, Mul, One, Two, Low, Sext, Sgn}
use Rattle.term_trees.specs.declared.linear.Way.TheVariants.{Sum, Difference}
use Rattle.term_trees.specs.Ground.{both}
use Rattle.term_logic.specs.Table.{tree_at, tree_here}
use Rattle.term_trees.specs.Linear.{limited, joined, joined_product, linear_parts}
use Rattle.term_trees.proofs.LinearForms.{linear-num, linear-add, linear-sub, linear-mul, linear-var, linear-own, linear-at, linear-one, linear-two, linear-low, linear-sext, linear-sgn}
use Rattle.term_logic.proofs.Trees.{tree_here_num, tree_here_var, tree_here_own, tree_here_at, tree_here_add, tree_here_sub, tree_here_mul, tree_here_one, tree_here_two, tree_here_low, tree_here_sext, tree_here_sgn}

module _ (ts : List Term) where
  pub cell-num : (n : ℤ) → linear_parts (tree_here ts (Num n)) ≡ option_map (λ c. (c, [])) (limited n)
  cell-num n = ap linear_parts (tree_here_num ts n) ∙ linear-num n

  pub cell-add : (a b : ℕ) → linear_parts (tree_here ts (Add a b)) ≡ option_and_then (λ p. joined Sum p.0 p.1) (both (linear_parts (tree_at ts a)) (linear_parts (tree_at ts b)))
  cell-add a b = ap linear_parts (tree_here_add ts a b) ∙ linear-add (tree_at ts a) (tree_at ts b)

  pub cell-sub : (a b : ℕ) → linear_parts (tree_here ts (Sub a b)) ≡ option_and_then (λ p. joined Difference p.0 p.1) (both (linear_parts (tree_at ts a)) (linear_parts (tree_at ts b)))
  cell-sub a b = ap linear_parts (tree_here_sub ts a b) ∙ linear-sub (tree_at ts a) (tree_at ts b)

  pub cell-mul : (a b : ℕ) → linear_parts (tree_here ts (Mul a b)) ≡ option_and_then (λ p. joined_product (tree_here ts (Mul a b)) p.0 p.1) (both (linear_parts (tree_at ts a)) (linear_parts (tree_at ts b)))
  cell-mul a b = subst (λ t. linear_parts t ≡ option_and_then (λ p. joined_product t p.0 p.1) (both (linear_parts (tree_at ts a)) (linear_parts (tree_at ts b)))) (sym (tree_here_mul ts a b)) (linear-mul (tree_at ts a) (tree_at ts b))

  abbrev Atom : Term → Type 0
  Atom t = linear_parts t ≡ Some (pos 0, (t, pos 1) ∷ [])

  pub cell-var : (k : ℕ) → Atom (tree_here ts (Var k))
  cell-var k = subst Atom (sym (tree_here_var ts k)) (linear-var k)

  pub cell-own : (k : ℕ) → Atom (tree_here ts (Own k))
  cell-own k = subst Atom (sym (tree_here_own ts k)) (linear-own k)

  pub cell-at : (p : Place) → Atom (tree_here ts (At p))
  cell-at p = subst Atom (sym (tree_here_at ts p)) (linear-at p)

  pub cell-one : (op : NumOp) (a : ℕ) → Atom (tree_here ts (One op a))
  cell-one op a = subst Atom (sym (tree_here_one ts op a)) (linear-one op (tree_at ts a))

  pub cell-two : (op : NumOp) (a b : ℕ) → Atom (tree_here ts (Two op a b))
  cell-two op a b = subst Atom (sym (tree_here_two ts op a b)) (linear-two op (tree_at ts a) (tree_at ts b))

  pub cell-low : (k a : ℕ) → Atom (tree_here ts (Low k a))
  cell-low k a = subst Atom (sym (tree_here_low ts k a)) (linear-low k (tree_at ts a))

  pub cell-sext : (k n a : ℕ) → Atom (tree_here ts (Sext k n a))
  cell-sext k n a = subst Atom (sym (tree_here_sext ts k n a)) (linear-sext k n (tree_at ts a))

  pub cell-sgn : (n a : ℕ) → Atom (tree_here ts (Sgn n a))
  cell-sgn n a = subst Atom (sym (tree_here_sgn ts n a)) (linear-sgn n (tree_at ts a))

pub ruleset cell_forms = (cell-num, cell-add, cell-sub, cell-mul, cell-var, cell-own, cell-at, cell-one, cell-two, cell-low, cell-sext, cell-sgn)
