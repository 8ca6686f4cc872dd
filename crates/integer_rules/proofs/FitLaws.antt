-- Each rule keeps truth, in the order of the rules.
use Rattle.std.proofs.Common.{◌≡◌, ◌-◌, Bool, true, ◌&&◌, ◌||◌, IsTrue, List, [], ◌∷◌, Option, Some, None, refl, sym, ap₂, subst, true≢false, arith}
use Rattle.std.specs.Option.{option_and_then}
use Rattle.std.specs.List.{All}
use Rattle.wasm_values.specs.Operators.{width_of}
use Rattle.term_trees.specs.declared.term.Term.{Term}
use Rattle.term_trees.specs.declared.term.Formula.{Formula}
use Rattle.term_trees.specs.Meaning.{Numbers, holds}
use Rattle.term_trees.specs.Same.{passes}
use Rattle.term_trees.specs.Terms.{is_low_width, is_sext_pair}
use Rattle.term_trees.specs.Views.{num_of, one_of, low_of, sext_of, sgn_of, le_of}
use Rattle.term_trees.specs.declared.term.Term.TheVariants as term
use Rattle.term_trees.proofs.Sameness.{same_formula-exact}
use Rattle.term_trees.proofs.Truths.{both}
use Rattle.integer_rules.specs.declared.rule.IntegerRule.{IntegerRule}
use Rattle.integer_rules.specs.declared.rule.IntegerRule.TheVariants as rule
use Rattle.integer_rules.specs.Rows.{Row, range_row, add_row, addwrap_row, sub_row, subwrap_row, mul_row, divu_row, divs_row, unsigned_claim, signed_claim, test_row, zero_row, tests_row, sgn_row, shift_as, shift_row, mask_row, changed, changed_row, low_row, sext_row}
use Rattle.integer_rules.specs.Fits.{sized, applied, left_of, right_of, first_of, last_of, equated, test_in, remainder_in, width_with, is_among, limit_of, same_formulas, fits_row, fits_range, fits_add, fits_addwrap, fits_sub, fits_subwrap, fits_mul, fits_divu, fits_divs, fits_zero, fits_compared, fits_test, fits_tests, fits_sgn, fits_shift, fits_some_mask, fits_mask, fits_changed, fits_low, fits_sext, fits_widen, fits}
use Rattle.integer_rules.specs.Truth.{KeepsTruth}
use Rattle.integer_rules.proofs.Ranges.{either, passing}
use Rattle.integer_rules.proofs.RowLaws.{RowHolds, bits_positive, sound_range, sound_add, sound_addwrap, sound_sub, sound_subwrap, sound_mul, sound_divu, sound_divs, sound_test, sound_zero, sound_tests, sound_sgn, sound_shift, sound_mask, sound_changed, sound_low, sound_sext}

-- what a test that passed shows
passed : {X : Type 0} (o : Option X) (test : X → Bool) (Q : Type 0) → IsTrue (passes o test) → ((x : X) → o ≡ Some x → IsTrue (test x) → Q) → Q
passed None test Q h then = absurd (true≢false (sym h))
passed (Some x) test Q h then = then x refl h

same_formulas-exact : (fs gs : List Formula) → same_formulas fs gs ≡ true → fs ≡ gs
same_formulas-exact [] [] h = refl
same_formulas-exact (f ∷ fs) (g ∷ gs) h = let p = both _ _ h in ap₂ (λ x xs. x ∷ xs) (same_formula-exact f g p.0) (same_formulas-exact fs gs p.1)
same_formulas-exact _ _ h = absurd (true≢false (sym h))

module _ (n : Numbers) (premises : List Formula) (c : Formula) (hold : All (λ f. IsTrue (holds n f)) premises) where
  abbrev Holds : Type 0
  Holds = IsTrue (holds n c)

  -- premises and a conclusion that are those of a row
  by_row : (r : Row) → RowHolds n r → fits_row r premises c ≡ true → Holds
  by_row r sound h =
      let p = both _ _ h in
      subst (λ f. IsTrue (holds n f)) (same_formula-exact r.conclusion c p.0)
      (sound (subst (λ fs. All (λ f. IsTrue (holds n f)) fs) (sym (same_formulas-exact r.premises premises p.1)) hold))

  -- premises and a conclusion that are those of a row that is read off
  by_rows : {X : Type 0} (o : Option X) (row : X → Row) → ((x : X) → o ≡ Some x → RowHolds n (row x)) → IsTrue (passes o (λ x. fits_row (row x) premises c)) → Holds
  by_rows o row sound h = passed o (λ x. fits_row (row x) premises c) Holds h (λ x is fit. by_row (row x) (sound x is) fit)

  keeps_range : IsTrue (fits_range premises c) → Holds
  keeps_range h =
      passed (option_and_then le_of (first_of c)) (λ p. passes (limit_of p.1) (λ m. fits_row (range_row p.1 m) premises c)) Holds h
      (λ p is test. by_rows (limit_of p.1) (range_row p.1) (sound_range n p.1) test)

  keeps_add : IsTrue (fits_add premises c) → Holds
  keeps_add h = by_rows (equated c) (λ x. add_row x.0 x.2 x.3) (λ x is. sound_add n x.0 x.2 x.3) h

  keeps_addwrap : IsTrue (fits_addwrap premises c) → Holds
  keeps_addwrap h = by_rows (equated c) (λ x. addwrap_row x.0 x.2 x.3) (λ x is. sound_addwrap n x.0 x.2 x.3) h

  keeps_sub : IsTrue (fits_sub premises c) → Holds
  keeps_sub h = by_rows (equated c) (λ x. sub_row x.0 x.2 x.3) (λ x is. sound_sub n x.0 x.2 x.3) h

  keeps_subwrap : IsTrue (fits_subwrap premises c) → Holds
  keeps_subwrap h = by_rows (equated c) (λ x. subwrap_row x.0 x.2 x.3) (λ x is. sound_subwrap n x.0 x.2 x.3) h

  keeps_mul : IsTrue (fits_mul premises c) → Holds
  keeps_mul h = by_rows (equated c) (λ x. mul_row x.0 x.2 x.3) (λ x is. sound_mul n x.0 x.2 x.3) h

  keeps_divu : IsTrue (fits_divu premises c) → Holds
  keeps_divu h = by_rows (option_and_then applied (remainder_in c)) (λ x. divu_row x.0 x.2 x.3) (λ x is. sound_divu n x.0 x.2 x.3) h

  keeps_divs : IsTrue (fits_divs premises c) → Holds
  keeps_divs h = by_rows (option_and_then equated (first_of c)) (λ x. divs_row x.0 x.2 x.3) (λ x is. sound_divs n x.0 x.2 x.3) h

  keeps_zero : (t : Term) → IsTrue (fits_zero t premises c) → Holds
  keeps_zero t h =
      passed (one_of t) (λ x. passes (sized x.0) (λ o. fits_row (zero_row o.0 x.1) premises c)) Holds h
      (λ x is test. by_rows (sized x.0) (λ o. zero_row o.0 x.1) (λ o width. sound_zero n o.0 x.1) test)

  keeps_compared : (t : Term) → IsTrue (fits_compared t premises c) → Holds
  keeps_compared t h =
      passed (applied t) (λ x. passes (unsigned_claim x.1 x.2 x.3) (λ f. fits_row (test_row x.0 x.1 x.2 x.3 f) premises c)) Holds h
      (λ x is test. by_rows (unsigned_claim x.1 x.2 x.3) (test_row x.0 x.1 x.2 x.3) (sound_test n x.0 x.2 x.3 x.1) test)

  keeps_test : IsTrue (fits_test premises c) → Holds
  keeps_test h =
      passed (test_in c) (λ t. fits_zero t premises c || fits_compared t premises c) Holds h
      (λ t is test. either (fits_zero t premises c) (fits_compared t premises c) Holds test (keeps_zero t) (keeps_compared t))

  keeps_tests : IsTrue (fits_tests premises c) → Holds
  keeps_tests h =
      passed (option_and_then applied (test_in c)) (λ x. passes (signed_claim x.1 (term.Sgn (width_of x.0) x.2) (term.Sgn (width_of x.0) x.3)) (λ f. fits_row (tests_row x.0 x.1 x.2 x.3 f) premises c)) Holds h
      (λ x is test. by_rows (signed_claim x.1 (term.Sgn (width_of x.0) x.2) (term.Sgn (width_of x.0) x.3)) (tests_row x.0 x.1 x.2 x.3) (sound_tests n x.0 x.2 x.3 x.1) test)

  keeps_sgn : IsTrue (fits_sgn premises c) → Holds
  keeps_sgn h =
      passed (option_and_then sgn_of (option_and_then left_of (last_of c))) (λ x. passes (width_with x.0) (λ v. fits_row (sgn_row v x.1) premises c)) Holds h
      (λ x is test. by_rows (width_with x.0) (λ v. sgn_row v x.1) (λ v width. sound_sgn n v x.1) test)

  keeps_shift : IsTrue (fits_shift premises c) → Holds
  keeps_shift h =
      passed (equated c) (λ x. passes (shift_as x.1) (λ r. passes (num_of x.3) (λ k. is_among x.0 k && fits_row (shift_row x.0 x.1 r x.2 k) premises c))) Holds h (λ x is test.
      passed (shift_as x.1) (λ r. passes (num_of x.3) (λ k. is_among x.0 k && fits_row (shift_row x.0 x.1 r x.2 k) premises c)) Holds test (λ r other test.
      passed (num_of x.3) (λ k. is_among x.0 k && fits_row (shift_row x.0 x.1 r x.2 k) premises c) Holds test (λ k number test.
      let p = both (is_among x.0 k) (fits_row (shift_row x.0 x.1 r x.2 k) premises c) test in
      by_row (shift_row x.0 x.1 r x.2 k) (sound_shift n x.0 x.2 x.1 r k other p.0) p.1)))

  keeps_mask : IsTrue (fits_mask premises c) → Holds
  unfolding fits_some_mask
  keeps_mask h =
      passed (option_and_then applied (right_of c)) (λ x. fits_some_mask x.0 x.2 premises c) Holds h (λ x is test.
      passing (λ k. fits_row (mask_row x.0 x.2 k) premises c) Holds 1 (width_of x.0 - 1) test
      (λ k low high fit. by_row (mask_row x.0 x.2 k) (sound_mask n x.0 x.2 k (omega (arith, bits_positive x.0))) fit))

  keeps_changed : IsTrue (fits_changed premises c) → Holds
  keeps_changed h =
      passed (option_and_then one_of (left_of c)) (λ x. passes (changed x.0 x.1) (λ t. fits_row (changed_row x.0 x.1 t) premises c)) Holds h
      (λ x is test. by_rows (changed x.0 x.1) (changed_row x.0 x.1) (sound_changed n x.0 x.1) test)

  keeps_low : IsTrue (fits_low premises c) → Holds
  keeps_low h =
      passed (option_and_then low_of (left_of c)) (λ x. is_low_width x.0 && fits_row (low_row x.0 x.1) premises c) Holds h
      (λ x is test. by_row (low_row x.0 x.1) (sound_low n x.0 x.1) (both (is_low_width x.0) (fits_row (low_row x.0 x.1) premises c) test).1)

  keeps_sext : IsTrue (fits_sext premises c) → Holds
  keeps_sext h =
      passed (option_and_then sext_of (option_and_then left_of (last_of c))) (λ x. is_sext_pair x.0 x.1 && fits_row (sext_row x.0 x.1 x.2) premises c) Holds h (λ x is test.
      let p = both (is_sext_pair x.0 x.1) (fits_row (sext_row x.0 x.1 x.2) premises c) test in
      by_row (sext_row x.0 x.1 x.2) (sound_sext n x.0 x.1 x.2 p.0) p.1)

  keeps_widen : IsTrue (fits_widen premises c) → Holds
  keeps_widen h =
      either (fits_changed premises c) (fits_low premises c || fits_sext premises c) Holds h keeps_changed
      (λ rest. either (fits_low premises c) (fits_sext premises c) Holds rest keeps_low keeps_sext)

pub keeps : (r : IntegerRule) → KeepsTruth r
unfolding fits
keeps rule.Range n premises c h hold = keeps_range n premises c hold h
keeps rule.Add n premises c h hold = keeps_add n premises c hold h
keeps rule.Addwrap n premises c h hold = keeps_addwrap n premises c hold h
keeps rule.Sub n premises c h hold = keeps_sub n premises c hold h
keeps rule.Subwrap n premises c h hold = keeps_subwrap n premises c hold h
keeps rule.Mul n premises c h hold = keeps_mul n premises c hold h
keeps rule.Divu n premises c h hold = keeps_divu n premises c hold h
keeps rule.Divs n premises c h hold = keeps_divs n premises c hold h
keeps rule.Test n premises c h hold = keeps_test n premises c hold h
keeps rule.Tests n premises c h hold = keeps_tests n premises c hold h
keeps rule.Sgn n premises c h hold = keeps_sgn n premises c hold h
keeps rule.Shift n premises c h hold = keeps_shift n premises c hold h
keeps rule.Mask n premises c h hold = keeps_mask n premises c hold h
keeps rule.Widen n premises c h hold = keeps_widen n premises c hold h
