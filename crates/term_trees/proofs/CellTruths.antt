-- The numbers for `(index)` and `(item)` as leaves.
use Rattle.std.proofs.Common.{◌≡◌, ℕ, ◌^◌, ℤ, pos, ◌+ℤ◌, ◌-ℤ◌, ◌*ℤ◌, true, false, not, ◌&&◌, ◌||◌, Option, Some, None, refl, sym, ap, ◌∙◌}
use Rattle.std.specs.Prelude.{option_map, option_and_then, unwrap_or, int_lt, int_le}
use Rattle.std.specs.Ordering.{int_eq}
use Rattle.wasm_values.specs.declared.number.NumOp.{NumOp}
use Rattle.wasm_values.specs.Operators.{num_width, num_unary, num_binary, signed, sign_extended}
use Rattle.term_trees.specs.declared.term.Place.{Place}
use Rattle.term_trees.specs.declared.term.Place.TheVariants.{Local, Stack, Global, Pages, Arg, Result, Index, Item}
use Rattle.term_trees.specs.declared.term.Term.{Term, roll-Term, map-Term, fold-roll-Term}
use Rattle.term_trees.specs.declared.term.Term.TheOpen.{Term-F, Num, Var, Own, At, Add, Sub, Mul, One, Two, Low, Sext, Sgn}
use Rattle.term_trees.specs.declared.term.Term.TheVariants as term
use Rattle.term_trees.specs.declared.term.Formula.{Formula, roll-Formula, map-Formula, fold-roll-Formula}
use Rattle.term_trees.specs.declared.term.Formula.TheOpen.{Formula-F}
use Rattle.term_trees.specs.declared.term.Formula.TheOpen as layer
use Rattle.term_trees.specs.declared.term.Formula.TheVariants as form
use Rattle.term_trees.specs.declared.evaluate.CellNumbers.{CellNumbers}
use Rattle.term_trees.specs.Ground.{bounded, both, ground_value, ground_truth}
use Rattle.term_trees.specs.Leaves.{Leaves, no_leaves, replaced_here, replaced, replaced_formula_here, replaced_formula}
use Rattle.term_trees.specs.Meaning.{modulo}
use Rattle.term_trees.specs.Rows.{row_place, row_leaves}
use Rattle.term_trees.specs.words.Cells.{number_for, cell_leaves, value_at, truth_at}
use Rattle.term_trees.proofs.Grounded.{ground-num, ground-var, ground-own, ground-at, ground-add, ground-sub, ground-mul, ground-one, ground-two, ground-low, ground-sext, ground-sgn}
use Rattle.term_trees.proofs.GroundTruth.{truth-true, truth-false, truth-eq, truth-le, truth-lt, truth-not, truth-and, truth-or, truth-imp}

abbrev no_cell : CellNumbers
no_cell = record { index = None; item = None }

abbrev this_cell : ℤ → ℤ → CellNumbers
this_cell i v = record { index = Some i; item = Some v }

place_none : (p : Place) → option_map (λ n. term.Num n) (number_for no_cell p) ≡ None
place_none (Local k) = refl
place_none (Stack k) = refl
place_none (Global k) = refl
place_none Pages = refl
place_none (Arg k) = refl
place_none Result = refl
place_none Index = refl
place_none Item = refl

-- without numbers no leaf is replaced
pub leaves-none : cell_leaves no_cell ≡ no_leaves
leaves-none = λ j. record { variable = λ k. None; own = λ k. None; place = λ p. place_none p j }

place_numbers : (i v : ℤ) (p : Place) → option_map (λ n. term.Num n) (number_for (this_cell i v) p) ≡ row_place (term.Num i) (term.Num v) p
place_numbers i v (Local k) = refl
place_numbers i v (Stack k) = refl
place_numbers i v (Global k) = refl
place_numbers i v Pages = refl
place_numbers i v (Arg k) = refl
place_numbers i v Result = refl
place_numbers i v Index = refl
place_numbers i v Item = refl

-- with both numbers those of a row are
pub leaves-numbers : (i v : ℤ) → cell_leaves (this_cell i v) ≡ row_leaves (term.Num i) (term.Num v)
leaves-numbers i v = λ j. record { variable = λ k. None; own = λ k. None; place = λ p. place_numbers i v p j }

-- ---- the ground value of a term with numbers for its places, by its outermost form

module _ (c : CellNumbers) where
  abbrev given : Leaves
  given = cell_leaves c

  of-roll : (k : Term-F Term) (t : Term) → roll-Term k ≡ t → replaced given t ≡ replaced_here given (map-Term Term Term (replaced given) k)
  of-roll k t is = ap (replaced given) (sym is) ∙ fold-roll-Term Term (replaced_here given) k

  pub cell-num : (n : ℤ) → value_at c (term.Num n) ≡ bounded n
  unfolding value_at
  cell-num n = ap ground_value (of-roll (Num n) _ (term.rolls-Num n)) ∙ ground-num n

  pub cell-var : (k : ℕ) → value_at c (term.Var k) ≡ None
  unfolding value_at
  cell-var k = ap ground_value (of-roll (Var k) _ (term.rolls-Var k)) ∙ ground-var k

  pub cell-own : (k : ℕ) → value_at c (term.Own k) ≡ None
  unfolding value_at
  cell-own k = ap ground_value (of-roll (Own k) _ (term.rolls-Own k)) ∙ ground-own k

  number : (p : Place) (o : Option ℤ) → ground_value (unwrap_or (option_map (λ n. term.Num n) o) (term.At p)) ≡ option_and_then bounded o
  number p None = ground-at p
  number p (Some n) = ground-num n

  pub cell-at : (p : Place) → value_at c (term.At p) ≡ option_and_then bounded (number_for c p)
  unfolding value_at
  cell-at p = ap ground_value (of-roll (At p) _ (term.rolls-At p)) ∙ number p (number_for c p)

  pub cell-add : (a b : Term) → value_at c (term.Add a b) ≡ option_and_then (λ p. bounded (p.0 +ℤ p.1)) (both (value_at c a) (value_at c b))
  unfolding value_at
  cell-add a b = ap ground_value (of-roll (Add a b) _ (term.rolls-Add a b)) ∙ ground-add _ _

  pub cell-sub : (a b : Term) → value_at c (term.Sub a b) ≡ option_and_then (λ p. bounded (p.0 -ℤ p.1)) (both (value_at c a) (value_at c b))
  unfolding value_at
  cell-sub a b = ap ground_value (of-roll (Sub a b) _ (term.rolls-Sub a b)) ∙ ground-sub _ _

  pub cell-mul : (a b : Term) → value_at c (term.Mul a b) ≡ option_and_then (λ p. bounded (p.0 *ℤ p.1)) (both (value_at c a) (value_at c b))
  unfolding value_at
  cell-mul a b = ap ground_value (of-roll (Mul a b) _ (term.rolls-Mul a b)) ∙ ground-mul _ _

  pub cell-one : (op : NumOp) (a : Term) → value_at c (term.One op a) ≡ option_and_then (λ x. bounded (pos (num_unary op (modulo x (2 ^ num_width op))))) (value_at c a)
  unfolding value_at
  cell-one op a = ap ground_value (of-roll (One op a) _ (term.rolls-One op a)) ∙ ground-one op _

  pub cell-two : (op : NumOp) (a b : Term) → value_at c (term.Two op a b) ≡ option_and_then (λ p. bounded (pos (unwrap_or (num_binary op (modulo p.0 (2 ^ num_width op)) (modulo p.1 (2 ^ num_width op))) 0))) (both (value_at c a) (value_at c b))
  unfolding value_at
  cell-two op a b = ap ground_value (of-roll (Two op a b) _ (term.rolls-Two op a b)) ∙ ground-two op _ _

  pub cell-low : (k : ℕ) (a : Term) → value_at c (term.Low k a) ≡ option_and_then (λ x. bounded (pos (modulo x (2 ^ k)))) (value_at c a)
  unfolding value_at
  cell-low k a = ap ground_value (of-roll (Low k a) _ (term.rolls-Low k a)) ∙ ground-low k _

  pub cell-sext : (k n : ℕ) (a : Term) → value_at c (term.Sext k n a) ≡ option_and_then (λ x. bounded (pos (sign_extended k n (modulo x (2 ^ k))))) (value_at c a)
  unfolding value_at
  cell-sext k n a = ap ground_value (of-roll (Sext k n a) _ (term.rolls-Sext k n a)) ∙ ground-sext k n _

  pub cell-sgn : (n : ℕ) (a : Term) → value_at c (term.Sgn n a) ≡ option_and_then (λ x. bounded (signed n (modulo x (2 ^ n)))) (value_at c a)
  unfolding value_at
  cell-sgn n a = ap ground_value (of-roll (Sgn n a) _ (term.rolls-Sgn n a)) ∙ ground-sgn n _

  -- what the code shows of a signed reading, and of an operator of two operands
  pub cell-sgn_at : (t : Term) (n : ℕ) (a b : Term) (x r : ℤ) (o : Option ℤ) → t ≡ term.Sgn n a → b ≡ a → Some x ≡ value_at c b
      → r ≡ signed n (modulo x (2 ^ n)) → o ≡ bounded r → o ≡ value_at c t
  cell-sgn_at t n a b x r o is same got computed given_by =
      given_by ∙ ap bounded computed
      ∙ ap (option_and_then (λ x. bounded (signed n (modulo x (2 ^ n))))) (got ∙ ap (value_at c) same)
      ∙ sym (ap (value_at c) is ∙ cell-sgn n a)

  pub cell-two_at : (t : Term) (op : NumOp) (a b u v : Term) (x y r : ℤ) (o : Option ℤ) → t ≡ term.Two op a b → u ≡ a → v ≡ b → Some (x, y) ≡ both (value_at c u) (value_at c v)
      → r ≡ pos (unwrap_or (num_binary op (modulo x (2 ^ num_width op)) (modulo y (2 ^ num_width op))) 0) → o ≡ bounded r → o ≡ value_at c t
  cell-two_at t op a b u v x y r o is first second got computed given_by =
      given_by ∙ ap bounded computed
      ∙ ap (option_and_then (λ p. bounded (pos (unwrap_or (num_binary op (modulo p.0 (2 ^ num_width op)) (modulo p.1 (2 ^ num_width op))) 0)))) (got ∙ (λ j. both (value_at c (first j)) (value_at c (second j))))
      ∙ sym (ap (value_at c) is ∙ cell-two op a b)

  -- ---- the same of a formula

  form-roll : (k : Formula-F Formula) (f : Formula) → roll-Formula k ≡ f → replaced_formula given f ≡ replaced_formula_here given (map-Formula Formula Formula (replaced_formula given) k)
  form-roll k f is = ap (replaced_formula given) (sym is) ∙ fold-roll-Formula Formula (replaced_formula_here given) k

  pub cell-true : truth_at c form.True ≡ Some true
  unfolding truth_at
  cell-true = ap ground_truth (form-roll layer.True _ form.rolls-True) ∙ truth-true

  pub cell-false : truth_at c form.False ≡ Some false
  unfolding truth_at
  cell-false = ap ground_truth (form-roll layer.False _ form.rolls-False) ∙ truth-false

  pub cell-eq : (a b : Term) → truth_at c (form.Eq a b) ≡ option_map (λ p. int_eq p.0 p.1) (both (value_at c a) (value_at c b))
  unfolding truth_at value_at
  cell-eq a b = ap ground_truth (form-roll (layer.Eq a b) _ (form.rolls-Eq a b)) ∙ truth-eq _ _

  pub cell-le : (a b : Term) → truth_at c (form.Le a b) ≡ option_map (λ p. int_le p.0 p.1) (both (value_at c a) (value_at c b))
  unfolding truth_at value_at
  cell-le a b = ap ground_truth (form-roll (layer.Le a b) _ (form.rolls-Le a b)) ∙ truth-le _ _

  pub cell-lt : (a b : Term) → truth_at c (form.Lt a b) ≡ option_map (λ p. int_lt p.0 p.1) (both (value_at c a) (value_at c b))
  unfolding truth_at value_at
  cell-lt a b = ap ground_truth (form-roll (layer.Lt a b) _ (form.rolls-Lt a b)) ∙ truth-lt _ _

  pub cell-not : (f : Formula) → truth_at c (form.Not f) ≡ option_map (λ b. not b) (truth_at c f)
  unfolding truth_at
  cell-not f = ap ground_truth (form-roll (layer.Not f) _ (form.rolls-Not f)) ∙ truth-not _

  pub cell-and : (f g : Formula) → truth_at c (form.And f g) ≡ option_map (λ p. p.0 && p.1) (both (truth_at c f) (truth_at c g))
  unfolding truth_at
  cell-and f g = ap ground_truth (form-roll (layer.And f g) _ (form.rolls-And f g)) ∙ truth-and _ _

  pub cell-or : (f g : Formula) → truth_at c (form.Or f g) ≡ option_map (λ p. p.0 || p.1) (both (truth_at c f) (truth_at c g))
  unfolding truth_at
  cell-or f g = ap ground_truth (form-roll (layer.Or f g) _ (form.rolls-Or f g)) ∙ truth-or _ _

  pub cell-imp : (f g : Formula) → truth_at c (form.Imp f g) ≡ option_map (λ p. not p.0 || p.1) (both (truth_at c f) (truth_at c g))
  unfolding truth_at
  cell-imp f g = ap ground_truth (form-roll (layer.Imp f g) _ (form.rolls-Imp f g)) ∙ truth-imp _ _

pub ruleset cell_values = (cell-num, cell-var, cell-own, cell-at, cell-add, cell-sub, cell-mul, cell-one, cell-two, cell-low, cell-sext, cell-sgn)

pub ruleset cell_truths = (cell-true, cell-false, cell-eq, cell-le, cell-lt, cell-not, cell-and, cell-or, cell-imp)
