-- Each row of the rules is an instance of its rule.
use Rattle.std.proofs.Common.{◌≡◌, ℕ, ◌-◌, ◌^◌, ◌<◌, ◌≤◌, ℤ, pos, Bool, true, ◌&&◌, ◌||◌, IsTrue, List, [], ◌∷◌, Option, Some, refl, ap, ◌∙◌, arith}
use Rattle.std.specs.Option.{option_map, option_and_then}
use Rattle.wasm_values.specs.declared.number.ValType.{ValType}
use Rattle.wasm_values.specs.declared.number.ValType.TheVariants.{I32, I64}
use Rattle.wasm_values.specs.declared.number.IntOp.{IntOp}
use Rattle.wasm_values.specs.declared.number.IntOp.TheVariants as op
use Rattle.wasm_values.specs.declared.number.NumOp.{NumOp}
use Rattle.wasm_values.specs.Operators.{width_of}
use Rattle.term_trees.specs.declared.term.Term.{Term}
use Rattle.term_trees.specs.declared.term.Term.TheVariants as term
use Rattle.term_trees.specs.declared.term.Formula.{Formula}
use Rattle.term_trees.specs.declared.term.Formula.TheVariants as formula
use Rattle.term_trees.specs.Same.{passes, same_formula}
use Rattle.term_trees.specs.Terms.{is_low_width, is_sext_pair}
use Rattle.term_trees.specs.Views.{num_here, num_of, one_here, one_of, two_here, low_here, low_of, sext_here, sext_of, sgn_here, sgn_of, eq_here, eq_of, le_here, le_of, lt_here, lt_of, and_here, and_of, or_here, or_of}
use Rattle.term_trees.proofs.Sameness.{same_formula-refl}
use Rattle.integer_rules.specs.declared.rule.IntegerRule.TheVariants as rule
use Rattle.integer_rules.specs.Rows.{Row, operator, at_least, at_most, choice, range_row, add_row, addwrap_row, sub_row, subwrap_row, mul_row, divu_row, divs_row, unsigned_claim, signed_claim, test_row, zero_row, tests_row, sgn_row, shift_as, shift_row, mask_row, changed, changed_row, low_row, sext_row}
use Rattle.integer_rules.specs.Fits.{sized, applied, left_of, right_of, first_of, last_of, equated, test_in, remainder_in, width_with, is_among, limit_of, same_formulas, fits_row, fits_zero, fits_compared, fits_some_mask, fits_changed, fits_low, fits_sext, fits}
use Rattle.integer_rules.specs.Truth.{Takes}
use Rattle.integer_rules.proofs.Ranges.{passes_at}
use Rattle.integer_rules.proofs.Values.{both_true, left_true, right_true}

-- ---- rows fit themselves

same_formulas-refl : (fs : List Formula) → same_formulas fs fs ≡ true
same_formulas-refl [] = refl
same_formulas-refl (f ∷ fs) = both_true (same_formula f f) (same_formulas fs fs) (same_formula-refl f) (same_formulas-refl fs)

itself : (r : Row) → fits_row r r.premises r.conclusion ≡ true
itself r = both_true (same_formula r.conclusion r.conclusion) (same_formulas r.premises r.premises) (same_formula-refl r.conclusion) (same_formulas-refl r.premises)

-- a test of what is read off passes where it passes at what there is
found : {X : Type 0} (o : Option X) (x : X) (test : X → Bool) → o ≡ Some x → test x ≡ true → passes o test ≡ true
found o x test is h = ap (λ p. passes p test) is ∙ h

-- ---- views of trees of a known form

eq_of-eq : (a b : Term) → eq_of (formula.Eq a b) ≡ Some (a, b)
eq_of-eq a b = ap eq_here (formula.outs-Eq a b)

le_of-le : (a b : Term) → le_of (formula.Le a b) ≡ Some (a, b)
le_of-le a b = ap le_here (formula.outs-Le a b)

lt_of-lt : (a b : Term) → lt_of (formula.Lt a b) ≡ Some (a, b)
lt_of-lt a b = ap lt_here (formula.outs-Lt a b)

and_of-and : (f g : Formula) → and_of (formula.And f g) ≡ Some (f, g)
and_of-and f g = ap and_here (formula.outs-And f g)

or_of-or : (f g : Formula) → or_of (formula.Or f g) ≡ Some (f, g)
or_of-or f g = ap or_here (formula.outs-Or f g)

applied-operator : (v : ValType) (o : IntOp) (a b : Term) → applied (term.Two (operator v o) a b) ≡ Some (v, o, a, b)
applied-operator I32 o a b = ap (λ t. option_and_then (λ p. option_map (λ o. (o.0, o.1, p.1, p.2)) (sized p.0)) t) (ap two_here (term.outs-Two (operator I32 o) a b))
applied-operator I64 o a b = ap (λ t. option_and_then (λ p. option_map (λ o. (o.0, o.1, p.1, p.2)) (sized p.0)) t) (ap two_here (term.outs-Two (operator I64 o) a b))

left_of-eq : (a b : Term) → left_of (formula.Eq a b) ≡ Some a
left_of-eq a b = ap (option_map (λ p. p.0)) (eq_of-eq a b)

right_of-eq : (a b : Term) → right_of (formula.Eq a b) ≡ Some b
right_of-eq a b = ap (option_map (λ p. p.1)) (eq_of-eq a b)

equated-eq : (v : ValType) (o : IntOp) (a b t : Term) → equated (formula.Eq (term.Two (operator v o) a b) t) ≡ Some (v, o, a, b)
equated-eq v o a b t = ap (option_and_then applied) (left_of-eq (term.Two (operator v o) a b) t) ∙ applied-operator v o a b

first_of-and : (f g : Formula) → first_of (formula.And f g) ≡ Some f
first_of-and f g = ap (option_map (λ p. p.0)) (and_of-and f g)

last_of-split : (f g h : Formula) → last_of (formula.Or f (formula.And g h)) ≡ Some h
last_of-split f g h =
    ap (λ o. option_map (λ p. p.1) (option_and_then (λ p. and_of p.1) o)) (or_of-or f (formula.And g h))
    ∙ ap (option_map (λ p. p.1)) (and_of-and g h)

test_in-choice : (t : Term) (f : Formula) → test_in (choice t f) ≡ Some t
test_in-choice t f =
    let one = formula.Eq t (term.Num (pos 1)) in
    let rest = formula.And (formula.Eq t (term.Num (pos 0))) (formula.Not f) in
    ap (λ o. option_and_then left_of (option_map (λ p. p.0) (option_and_then (λ p. and_of p.0) o))) (or_of-or (formula.And one f) rest)
    ∙ ap (λ o. option_and_then left_of (option_map (λ p. p.0) o)) (and_of-and one f)
    ∙ left_of-eq t (term.Num (pos 1))

remainder_in-bounds : (f g : Formula) (r b : Term) → remainder_in (formula.And f (formula.And g (formula.Lt r b))) ≡ Some r
remainder_in-bounds f g r b =
    ap (λ o. option_map (λ p. p.0) (option_and_then lt_of (option_map (λ p. p.1) (option_and_then (λ p. and_of p.1) o)))) (and_of-and f (formula.And g (formula.Lt r b)))
    ∙ ap (λ o. option_map (λ p. p.0) (option_and_then lt_of (option_map (λ p. p.1) o))) (and_of-and g (formula.Lt r b))
    ∙ ap (option_map (λ p. p.0)) (lt_of-lt r b)

num_of-num : (k : ℤ) → num_of (term.Num k) ≡ Some k
num_of-num k = ap num_here (term.outs-Num k)

one_of-one : (o : NumOp) (a : Term) → one_of (term.One o a) ≡ Some (o, a)
one_of-one o a = ap one_here (term.outs-One o a)

-- ---- each rule

pub takes_range : (t : Term) (m : ℤ) → limit_of t ≡ Some m → Takes rule.Range (range_row t m)
unfolding fits
takes_range t m limit =
    let r = range_row t m in
    found (option_and_then le_of (first_of r.conclusion)) (term.Num (pos 0), t) (λ p. passes (limit_of p.1) (λ m. fits_row (range_row p.1 m) r.premises r.conclusion))
    (ap (option_and_then le_of) (first_of-and (at_least (pos 0) t) (at_most t m)) ∙ le_of-le (term.Num (pos 0)) t)
    (found (limit_of t) m (λ m. fits_row (range_row t m) r.premises r.conclusion) limit (itself r))

module _ (v : ValType) (a b : Term) where
  pub takes_add : Takes rule.Add (add_row v a b)
  unfolding fits
  takes_add = let r = add_row v a b in found (equated r.conclusion) (v, op.Add, a, b) (λ x. fits_row (add_row x.0 x.2 x.3) r.premises r.conclusion) (equated-eq v op.Add a b _) (itself r)

  pub takes_addwrap : Takes rule.Addwrap (addwrap_row v a b)
  unfolding fits
  takes_addwrap = let r = addwrap_row v a b in found (equated r.conclusion) (v, op.Add, a, b) (λ x. fits_row (addwrap_row x.0 x.2 x.3) r.premises r.conclusion) (equated-eq v op.Add a b _) (itself r)

  pub takes_sub : Takes rule.Sub (sub_row v a b)
  unfolding fits
  takes_sub = let r = sub_row v a b in found (equated r.conclusion) (v, op.Sub, a, b) (λ x. fits_row (sub_row x.0 x.2 x.3) r.premises r.conclusion) (equated-eq v op.Sub a b _) (itself r)

  pub takes_subwrap : Takes rule.Subwrap (subwrap_row v a b)
  unfolding fits
  takes_subwrap = let r = subwrap_row v a b in found (equated r.conclusion) (v, op.Sub, a, b) (λ x. fits_row (subwrap_row x.0 x.2 x.3) r.premises r.conclusion) (equated-eq v op.Sub a b _) (itself r)

  pub takes_mul : Takes rule.Mul (mul_row v a b)
  unfolding fits
  takes_mul = let r = mul_row v a b in found (equated r.conclusion) (v, op.Mul, a, b) (λ x. fits_row (mul_row x.0 x.2 x.3) r.premises r.conclusion) (equated-eq v op.Mul a b _) (itself r)

  pub takes_divu : Takes rule.Divu (divu_row v a b)
  unfolding fits
  takes_divu =
      let r = divu_row v a b in
      let rest = term.Two (operator v op.RemU) a b in
      found (option_and_then applied (remainder_in r.conclusion)) (v, op.RemU, a, b) (λ x. fits_row (divu_row x.0 x.2 x.3) r.premises r.conclusion)
      (ap (option_and_then applied) (remainder_in-bounds _ (at_least (pos 0) rest) rest b) ∙ applied-operator v op.RemU a b) (itself r)

  pub takes_divs : Takes rule.Divs (divs_row v a b)
  unfolding fits
  takes_divs =
      let r = divs_row v a b in
      found (option_and_then equated (first_of r.conclusion)) (v, op.DivS, a, b) (λ x. fits_row (divs_row x.0 x.2 x.3) r.premises r.conclusion)
      (ap (option_and_then equated) (first_of-and _ _) ∙ equated-eq v op.DivS a b _) (itself r)

  pub takes_test : (o : IntOp) (f : Formula) → unsigned_claim o a b ≡ Some f → Takes rule.Test (test_row v o a b f)
  unfolding fits
  takes_test o f claim =
      let r = test_row v o a b f in
      let t = term.Two (operator v o) a b in
      found (test_in r.conclusion) t (λ t. fits_zero t r.premises r.conclusion || fits_compared t r.premises r.conclusion) (test_in-choice t f)
      (right_true (fits_zero t r.premises r.conclusion) (fits_compared t r.premises r.conclusion)
      (found (applied t) (v, o, a, b) (λ x. passes (unsigned_claim x.1 x.2 x.3) (λ f. fits_row (test_row x.0 x.1 x.2 x.3 f) r.premises r.conclusion)) (applied-operator v o a b)
      (found (unsigned_claim o a b) f (λ f. fits_row (test_row v o a b f) r.premises r.conclusion) claim (itself r))))

  pub takes_tests : (o : IntOp) (f : Formula) → signed_claim o (term.Sgn (width_of v) a) (term.Sgn (width_of v) b) ≡ Some f → Takes rule.Tests (tests_row v o a b f)
  unfolding fits
  takes_tests o f claim =
      let r = tests_row v o a b f in
      let t = term.Two (operator v o) a b in
      found (option_and_then applied (test_in r.conclusion)) (v, o, a, b) (λ x. passes (signed_claim x.1 (term.Sgn (width_of x.0) x.2) (term.Sgn (width_of x.0) x.3)) (λ f. fits_row (tests_row x.0 x.1 x.2 x.3 f) r.premises r.conclusion))
      (ap (option_and_then applied) (test_in-choice t f) ∙ applied-operator v o a b)
      (found (signed_claim o (term.Sgn (width_of v) a) (term.Sgn (width_of v) b)) f (λ f. fits_row (tests_row v o a b f) r.premises r.conclusion) claim (itself r))

module _ (v : ValType) (a : Term) where
  sized-operator : (o : IntOp) → sized (operator v o) ≡ Some (v, o)
  sized-operator o = elim v as (λ v. sized (operator v o) ≡ Some (v, o)) [ I32 ↦ refl | I64 ↦ refl ]

  pub takes_zero : Takes rule.Test (zero_row v a)
  unfolding fits
  takes_zero =
      let r = zero_row v a in
      let t = term.One (operator v op.Eqz) a in
      found (test_in r.conclusion) t (λ t. fits_zero t r.premises r.conclusion || fits_compared t r.premises r.conclusion) (test_in-choice t _)
      (left_true (fits_zero t r.premises r.conclusion) (fits_compared t r.premises r.conclusion)
      (found (one_of t) (operator v op.Eqz, a) (λ x. passes (sized x.0) (λ o. fits_row (zero_row o.0 x.1) r.premises r.conclusion)) (one_of-one (operator v op.Eqz) a)
      (found (sized (operator v op.Eqz)) (v, op.Eqz) (λ o. fits_row (zero_row o.0 a) r.premises r.conclusion) (sized-operator op.Eqz) (itself r))))

  width_with-width : width_with (width_of v) ≡ Some v
  width_with-width = elim v as (λ v. width_with (width_of v) ≡ Some v) [ I32 ↦ refl | I64 ↦ refl ]

  pub takes_sgn : Takes rule.Sgn (sgn_row v a)
  unfolding fits
  takes_sgn =
      let r = sgn_row v a in
      let s = term.Sgn (width_of v) a in
      found (option_and_then sgn_of (option_and_then left_of (last_of r.conclusion))) (width_of v, a) (λ x. passes (width_with x.0) (λ v. fits_row (sgn_row v x.1) r.premises r.conclusion))
      (ap (λ o. option_and_then sgn_of (option_and_then left_of o)) (last_of-split _ _ _) ∙ ap (option_and_then sgn_of) (left_of-eq s _) ∙ ap sgn_here (term.outs-Sgn (width_of v) a))
      (found (width_with (width_of v)) v (λ v. fits_row (sgn_row v a) r.premises r.conclusion) width_with-width (itself r))

  pub takes_shift : (o other : IntOp) (k : ℤ) → shift_as o ≡ Some other → IsTrue (is_among v k) → Takes rule.Shift (shift_row v o other a k)
  unfolding fits
  takes_shift o other k is among =
      let r = shift_row v o other a k in
      found (equated r.conclusion) (v, o, a, term.Num k) (λ x. passes (shift_as x.1) (λ s. passes (num_of x.3) (λ k. is_among x.0 k && fits_row (shift_row x.0 x.1 s x.2 k) r.premises r.conclusion))) (equated-eq v o a (term.Num k) _)
      (found (shift_as o) other (λ s. passes (num_of (term.Num k)) (λ k. is_among v k && fits_row (shift_row v o s a k) r.premises r.conclusion)) is
      (found (num_of (term.Num k)) k (λ k. is_among v k && fits_row (shift_row v o other a k) r.premises r.conclusion) (num_of-num k)
      (both_true (is_among v k) (fits_row r r.premises r.conclusion) among (itself r))))

  pub takes_mask : (k : ℕ) → 1 ≤ k → k < width_of v → Takes rule.Mask (mask_row v a k)
  unfolding fits fits_some_mask
  takes_mask k low high =
      let r = mask_row v a k in
      let divisor = term.Num (pos (2 ^ k)) in
      found (option_and_then applied (right_of r.conclusion)) (v, op.RemU, a, divisor) (λ x. fits_some_mask x.0 x.2 r.premises r.conclusion)
      (ap (option_and_then applied) (right_of-eq _ _) ∙ applied-operator v op.RemU a divisor)
      (passes_at (λ j. fits_row (mask_row v a j) r.premises r.conclusion) 1 (width_of v - 1) k low (omega arith) (itself r))

pub takes_changed : (o : NumOp) (a t : Term) → changed o a ≡ Some t → Takes rule.Widen (changed_row o a t)
unfolding fits
takes_changed o a t is =
    let r = changed_row o a t in
    left_true (fits_changed r.premises r.conclusion) (fits_low r.premises r.conclusion || fits_sext r.premises r.conclusion)
    (found (option_and_then one_of (left_of r.conclusion)) (o, a) (λ x. passes (changed x.0 x.1) (λ t. fits_row (changed_row x.0 x.1 t) r.premises r.conclusion))
    (ap (option_and_then one_of) (left_of-eq (term.One o a) t) ∙ one_of-one o a)
    (found (changed o a) t (λ t. fits_row (changed_row o a t) r.premises r.conclusion) is (itself r)))

pub takes_low : (k : ℕ) (a : Term) → IsTrue (is_low_width k) → Takes rule.Widen (low_row k a)
unfolding fits
takes_low k a width =
    let r = low_row k a in
    right_true (fits_changed r.premises r.conclusion) (fits_low r.premises r.conclusion || fits_sext r.premises r.conclusion)
    (left_true (fits_low r.premises r.conclusion) (fits_sext r.premises r.conclusion)
    (found (option_and_then low_of (left_of r.conclusion)) (k, a) (λ x. is_low_width x.0 && fits_row (low_row x.0 x.1) r.premises r.conclusion)
    (ap (option_and_then low_of) (left_of-eq (term.Low k a) a) ∙ ap low_here (term.outs-Low k a))
    (both_true (is_low_width k) (fits_row r r.premises r.conclusion) width (itself r))))

pub takes_sext : (k w : ℕ) (a : Term) → IsTrue (is_sext_pair k w) → Takes rule.Widen (sext_row k w a)
unfolding fits
takes_sext k w a widths =
    let r = sext_row k w a in
    let s = term.Sext k w a in
    right_true (fits_changed r.premises r.conclusion) (fits_low r.premises r.conclusion || fits_sext r.premises r.conclusion)
    (right_true (fits_low r.premises r.conclusion) (fits_sext r.premises r.conclusion)
    (found (option_and_then sext_of (option_and_then left_of (last_of r.conclusion))) (k, w, a) (λ x. is_sext_pair x.0 x.1 && fits_row (sext_row x.0 x.1 x.2) r.premises r.conclusion)
    (ap (λ o. option_and_then sext_of (option_and_then left_of o)) (last_of-split _ _ _) ∙ ap (option_and_then sext_of) (left_of-eq s _) ∙ ap sext_here (term.outs-Sext k w a))
    (both_true (is_sext_pair k w) (fits_row r r.premises r.conclusion) widths (itself r))))
