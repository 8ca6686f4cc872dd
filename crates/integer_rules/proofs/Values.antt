-- The values of terms and the truth of formulas, by their outermost forms.
use Rattle.std.proofs.Common.{◌≡◌, ℕ, ◌^◌, ℤ, pos, ◌+ℤ◌, ◌-ℤ◌, ◌*ℤ◌, ◌≤ℤ◌, ◌<ℤ◌, int_lt, int_le, Bool, true, false, not, ◌&&◌, ◌||◌, T, IsTrue, refl, sym, ap, subst, ◌∙◌, true≢false}
use Rattle.std.specs.Prelude.{unwrap_or}
use Rattle.std.specs.Ordering.{int_eq}
use Rattle.std.specs.Int.Signed.{le_z_yes, lt_z_yes}
use Rattle.std.proofs.lemmas.Float.{T_from_true}
use Rattle.std.proofs.lemmas.Bool.Decides.{Decides-int_eq}
use Rattle.wasm_values.specs.declared.number.ValType.{ValType}
use Rattle.wasm_values.specs.declared.number.ValType.TheVariants.{I32, I64}
use Rattle.wasm_values.specs.declared.number.IntOp.{IntOp}
use Rattle.wasm_values.specs.declared.number.NumOp.{NumOp}
use Rattle.wasm_values.specs.declared.number.NumOp.TheVariants.{W32, W64}
use Rattle.wasm_values.specs.Operators.{num_width, num_unary, num_binary, unary, signed, sign_extended, width_of, truth}
use Rattle.term_trees.specs.declared.term.Term.{Term, fold-roll-Term}
use Rattle.term_trees.specs.declared.term.Term.TheOpen as layer
use Rattle.term_trees.specs.declared.term.Term.TheVariants as term
use Rattle.term_trees.specs.declared.term.Formula.{Formula, fold-roll-Formula}
use Rattle.term_trees.specs.declared.term.Formula.TheOpen as open_form
use Rattle.term_trees.specs.declared.term.Formula.TheVariants as formula
use Rattle.term_trees.specs.Meaning.{Numbers, modulo, value_here, value, holds_here, holds}
use Rattle.integer_rules.specs.Rows.{operator, at_least, at_most, choice}
use Rattle.integer_rules.proofs.Operations.{given}

-- ---- tests

true_from : (b : Bool) → T b → b ≡ true
true_from true t = refl
true_from false t = absurd t

pub both_true : (a b : Bool) → a ≡ true → b ≡ true → (a && b) ≡ true
both_true true b e f = f
both_true false b e f = e

pub left_true : (a b : Bool) → a ≡ true → (a || b) ≡ true
left_true true b e = refl
left_true false b e = absurd (true≢false (sym e))

pub right_true : (a b : Bool) → b ≡ true → (a || b) ≡ true
right_true true b e = refl
right_true false b e = e

module _ (n : Numbers) where
  -- ---- values

  pub value-num : (k : ℤ) → value n (term.Num k) ≡ k
  value-num k = ap (value n) (sym (term.rolls-Num k)) ∙ fold-roll-Term ℤ (value_here n) (layer.Num k)

  pub value-add : (a b : Term) → value n (term.Add a b) ≡ value n a +ℤ value n b
  value-add a b = ap (value n) (sym (term.rolls-Add a b)) ∙ fold-roll-Term ℤ (value_here n) (layer.Add a b)

  pub value-sub : (a b : Term) → value n (term.Sub a b) ≡ value n a -ℤ value n b
  value-sub a b = ap (value n) (sym (term.rolls-Sub a b)) ∙ fold-roll-Term ℤ (value_here n) (layer.Sub a b)

  pub value-mul : (a b : Term) → value n (term.Mul a b) ≡ value n a *ℤ value n b
  value-mul a b = ap (value n) (sym (term.rolls-Mul a b)) ∙ fold-roll-Term ℤ (value_here n) (layer.Mul a b)

  pub value-one : (o : NumOp) (a : Term) → value n (term.One o a) ≡ pos (num_unary o (modulo (value n a) (2 ^ num_width o)))
  value-one o a = ap (value n) (sym (term.rolls-One o a)) ∙ fold-roll-Term ℤ (value_here n) (layer.One o a)

  pub value-two : (o : NumOp) (a b : Term) → value n (term.Two o a b) ≡ pos (unwrap_or (num_binary o (modulo (value n a) (2 ^ num_width o)) (modulo (value n b) (2 ^ num_width o))) 0)
  value-two o a b = ap (value n) (sym (term.rolls-Two o a b)) ∙ fold-roll-Term ℤ (value_here n) (layer.Two o a b)

  pub value-low : (k : ℕ) (a : Term) → value n (term.Low k a) ≡ pos (modulo (value n a) (2 ^ k))
  value-low k a = ap (value n) (sym (term.rolls-Low k a)) ∙ fold-roll-Term ℤ (value_here n) (layer.Low k a)

  pub value-sext : (k m : ℕ) (a : Term) → value n (term.Sext k m a) ≡ pos (sign_extended k m (modulo (value n a) (2 ^ k)))
  value-sext k m a = ap (value n) (sym (term.rolls-Sext k m a)) ∙ fold-roll-Term ℤ (value_here n) (layer.Sext k m a)

  pub value-sgn : (k : ℕ) (a : Term) → value n (term.Sgn k a) ≡ signed k (modulo (value n a) (2 ^ k))
  value-sgn k a = ap (value n) (sym (term.rolls-Sgn k a)) ∙ fold-roll-Term ℤ (value_here n) (layer.Sgn k a)

  -- an operator at a width
  pub value-operator : (v : ValType) (o : IntOp) (a b : Term) → value n (term.Two (operator v o) a b) ≡ given (width_of v) o (value n a) (value n b)
  value-operator I32 o a b = value-two (W32 o) a b
  value-operator I64 o a b = value-two (W64 o) a b

  pub value-operator_one : (v : ValType) (o : IntOp) (a : Term) → value n (term.One (operator v o) a) ≡ pos (unary (width_of v) o (modulo (value n a) (2 ^ width_of v)))
  value-operator_one I32 o a = value-one (W32 o) a
  value-operator_one I64 o a = value-one (W64 o) a

  -- ---- formulas

  pub holds-eq : (a b : Term) → holds n (formula.Eq a b) ≡ int_eq (value n a) (value n b)
  holds-eq a b = ap (holds n) (sym (formula.rolls-Eq a b)) ∙ fold-roll-Formula Bool (holds_here n) (open_form.Eq a b)

  pub holds-le : (a b : Term) → holds n (formula.Le a b) ≡ int_le (value n a) (value n b)
  holds-le a b = ap (holds n) (sym (formula.rolls-Le a b)) ∙ fold-roll-Formula Bool (holds_here n) (open_form.Le a b)

  pub holds-lt : (a b : Term) → holds n (formula.Lt a b) ≡ int_lt (value n a) (value n b)
  holds-lt a b = ap (holds n) (sym (formula.rolls-Lt a b)) ∙ fold-roll-Formula Bool (holds_here n) (open_form.Lt a b)

  pub holds-not : (f : Formula) → holds n (formula.Not f) ≡ not (holds n f)
  holds-not f = ap (holds n) (sym (formula.rolls-Not f)) ∙ fold-roll-Formula Bool (holds_here n) (open_form.Not f)

  pub holds-and : (f g : Formula) → holds n (formula.And f g) ≡ (holds n f && holds n g)
  holds-and f g = ap (holds n) (sym (formula.rolls-And f g)) ∙ fold-roll-Formula Bool (holds_here n) (open_form.And f g)

  pub holds-or : (f g : Formula) → holds n (formula.Or f g) ≡ (holds n f || holds n g)
  holds-or f g = ap (holds n) (sym (formula.rolls-Or f g)) ∙ fold-roll-Formula Bool (holds_here n) (open_form.Or f g)

  -- ---- what true formulas say, and what makes them true

  pub equal : (a b : Term) → value n a ≡ value n b → IsTrue (holds n (formula.Eq a b))
  equal a b e = holds-eq a b ∙ (Decides-int_eq (value n a) (value n b)).1 e

  pub ordered : (a b : Term) → IsTrue (holds n (formula.Le a b)) → value n a ≤ℤ value n b
  ordered a b h = le_z_yes (T_from_true (int_le (value n a) (value n b)) (sym (holds-le a b) ∙ h))

  pub in_order : (a b : Term) → value n a ≤ℤ value n b → IsTrue (holds n (formula.Le a b))
  in_order a b h = holds-le a b ∙ true_from (int_le (value n a) (value n b)) h.le

  pub below : (a b : Term) → IsTrue (holds n (formula.Lt a b)) → value n a <ℤ value n b
  below a b h = lt_z_yes (T_from_true (int_lt (value n a) (value n b)) (sym (holds-lt a b) ∙ h))

  pub is_below : (a b : Term) → value n a <ℤ value n b → IsTrue (holds n (formula.Lt a b))
  is_below a b h = holds-lt a b ∙ true_from (int_lt (value n a) (value n b)) h.lt

  pub least : (k : ℤ) (a : Term) → IsTrue (holds n (at_least k a)) → k ≤ℤ value n a
  least k a h = subst (λ z. z ≤ℤ value n a) (value-num k) (ordered (term.Num k) a h)

  pub most : (a : Term) (k : ℤ) → IsTrue (holds n (at_most a k)) → value n a ≤ℤ k
  most a k h = subst (λ z. value n a ≤ℤ z) (value-num k) (ordered a (term.Num k) h)

  pub is_least : (k : ℤ) (a : Term) → k ≤ℤ value n a → IsTrue (holds n (at_least k a))
  is_least k a h = in_order (term.Num k) a (subst (λ z. z ≤ℤ value n a) (sym (value-num k)) h)

  pub is_most : (a : Term) (k : ℤ) → value n a ≤ℤ k → IsTrue (holds n (at_most a k))
  is_most a k h = in_order a (term.Num k) (subst (λ z. value n a ≤ℤ z) (sym (value-num k)) h)

  pub conjoined : (f g : Formula) → IsTrue (holds n f) → IsTrue (holds n g) → IsTrue (holds n (formula.And f g))
  conjoined f g p q = holds-and f g ∙ both_true (holds n f) (holds n g) p q

  pub first_case : (f g : Formula) → IsTrue (holds n f) → IsTrue (holds n (formula.Or f g))
  first_case f g p = holds-or f g ∙ left_true (holds n f) (holds n g) p

  pub second_case : (f g : Formula) → IsTrue (holds n g) → IsTrue (holds n (formula.Or f g))
  second_case f g q = holds-or f g ∙ right_true (holds n f) (holds n g) q

  -- a test that is 1 exactly where a formula is true makes the choice true
  pub chosen : (t : Term) (f : Formula) (b : Bool) → value n t ≡ pos (truth b) → holds n f ≡ b → IsTrue (holds n (choice t f))
  chosen t f true is holds = first_case _ _ (conjoined _ _ (equal t (term.Num (pos 1)) (is ∙ sym (value-num (pos 1)))) holds)
  chosen t f false is fails = second_case _ _ (conjoined _ _ (equal t (term.Num (pos 0)) (is ∙ sym (value-num (pos 0)))) (holds-not f ∙ ap not fails))
