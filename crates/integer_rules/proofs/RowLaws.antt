-- Each row keeps truth: first a range, then the rows at two terms, those at one, and the changes of width.
use Rattle.std.proofs.Common.{◌≡◌, ℕ, ◌-◌, ◌^◌, ◌<◌, ◌≤◌, ℤ, pos, ◌+ℤ◌, ◌-ℤ◌, ◌*ℤ◌, ◌≤ℤ◌, ◌<ℤ◌, int_lt, int_le, Bool, true, false, not, IsTrue, [], ◌∷◌, Some, None, refl, sym, ap, ap₂, subst, ◌∙◌, ⊎_elim, arith}
use Rattle.std.specs.List.{All}
use Rattle.std.specs.Ordering.{int_eq}
use Rattle.std.proofs.lemmas.List.Elements.{All-head, All-tail}
use Rattle.wasm_values.specs.declared.number.ValType.{ValType}
use Rattle.wasm_values.specs.declared.number.ValType.TheVariants.{I32, I64}
use Rattle.wasm_values.specs.declared.number.IntOp.{IntOp}
use Rattle.wasm_values.specs.declared.number.IntOp.TheVariants as op
use Rattle.wasm_values.specs.declared.number.NumOp.{NumOp}
use Rattle.wasm_values.specs.declared.number.NumOp.TheVariants.{W32, W64, Wrap, ExtendS, ExtendU}
use Rattle.wasm_values.specs.Operators.{width_of, signed, truth, sign_extended}
use Rattle.term_trees.specs.declared.term.Term.{Term, Term-F, out-Term, map-Term, fold_out-Term}
use Rattle.term_trees.specs.declared.term.Term.TheOpen as layer
use Rattle.term_trees.specs.declared.term.Term.TheVariants as term
use Rattle.term_trees.specs.declared.term.Formula.{Formula}
use Rattle.term_trees.specs.declared.term.Formula.TheVariants as formula
use Rattle.term_trees.specs.Meaning.{Numbers, modulo, value_here, value, holds}
use Rattle.term_trees.specs.Terms.{is_low_width, is_sext_pair}
use Rattle.term_trees.proofs.Truths.{both}
use Rattle.std.specs.Prelude.{if◌then◌else◌}
use Rattle.std.specs.Int.Signed.{le_z_yes}
use Rattle.std.proofs.lemmas.Float.{T_from_true}
use Rattle.std.proofs.lemmas.Int.{ints}
use Rattle.std.proofs.lemmas.Nat.{pow_pos}
use Rattle.std.proofs.lemmas.Option.{same_Some}
use Rattle.integer_rules.specs.Rows.{Row, operator, greatest, modulus, half, greatest_signed, add_row, addwrap_row, sub_row, subwrap_row, mul_row, divu_row, divs_row, unsigned_claim, signed_claim, test_row, zero_row, tests_row, sgn_row, range_row, shift_as, shift_row, mask_row, changed, changed_row, low_row, sext_row}
use Rattle.integer_rules.specs.Fits.{limit_here, limit_of, is_among}
use Rattle.integer_rules.proofs.Operations.{given, add_given, addwrap_given, sub_given, subwrap_given, mul_given, divu_law, divs_law, eq_given, ne_given, lt_given, gt_given, le_given, ge_given, eqz_given, unary_le, binary_le, modulo-lt, sext_le, pair_bounds, sgn_given, sext_given, low_given, shift_law, mask_given, wrap_given}
use Rattle.integer_rules.proofs.Values.{value-num, value-add, value-sub, value-mul, value-one, value-low, value-sext, value-operator, value-operator_one, value-sgn, holds-eq, holds-le, holds-lt, holds-not, equal, least, most, is_least, is_most, ordered, below, is_below, conjoined, first_case, second_case, chosen}

pub bits_positive : (v : ValType) → 0 < width_of v
bits_positive I32 = omega arith
bits_positive I64 = omega arith

module _ (n : Numbers) where
  abbrev Holds : Formula → Type 0
  Holds f = IsTrue (holds n f)

  -- Where the premises are true, so is the conclusion.
  abbrev pub RowHolds : Row → Type 0
  RowHolds r = All Holds r.premises → Holds r.conclusion

  two : (f g : Formula) → All Holds (f ∷ g ∷ []) → Holds f × Holds g
  two f g all = (All-head Holds f (g ∷ []) all, All-head Holds g [] (All-tail Holds f (g ∷ []) all))

  three : (f g h : Formula) → All Holds (f ∷ g ∷ h ∷ []) → Holds f × Holds g × Holds h
  three f g h all = let rest = two g h (All-tail Holds f (g ∷ h ∷ []) all) in (All-head Holds f (g ∷ h ∷ []) all, rest.0, rest.1)

  four : (f g h k : Formula) → All Holds (f ∷ g ∷ h ∷ k ∷ []) → Holds f × Holds g × Holds h × Holds k
  four f g h k all = let rest = three g h k (All-tail Holds f (g ∷ h ∷ k ∷ []) all) in (All-head Holds f (g ∷ h ∷ k ∷ []) all, rest.0, rest.1, rest.2)

  -- the value of one layer
  abbrev layer_value : Term-F Term → ℤ
  layer_value l = value_here n (map-Term Term ℤ (value n) l)

  at_limit : (x : ℕ) (b : Bool) (y : ℕ) (m : ℤ) → (b ≡ true → x ≤ y) → (if b then Some (pos y) else None) ≡ Some m → (pos 0 ≤ℤ pos x) × (pos x ≤ℤ m)
  at_limit x true y m within is = (omega (arith, ints), subst (λ z. pos x ≤ℤ z) (same_Some (pos y) m is) (let h : x ≤ y = within refl in omega (arith, ints)))
  at_limit x false y m within is = cc

  bounded_layer : (l : Term-F Term) (m : ℤ) → limit_here l ≡ Some m → (pos 0 ≤ℤ layer_value l) × (layer_value l ≤ℤ m)
  bounded_layer (layer.One o a) m is = at_limit _ true _ m (λ e. unary_le o (value n a)) is
  bounded_layer (layer.Two o a b) m is = at_limit _ true _ m (λ e. binary_le o (value n a) (value n b)) is
  bounded_layer (layer.Low k a) m is = at_limit _ (is_low_width k) (2 ^ k - 1) m (λ e. omega (arith, modulo-lt (value n a) (2 ^ k) (pow_pos k))) is
  bounded_layer (layer.Sext k w a) m is = at_limit _ (is_sext_pair k w) (2 ^ w - 1) m (λ e. sext_le k w (value n a) e) is
  bounded_layer _ m is = cc

  pub sound_range : (t : Term) (m : ℤ) → limit_of t ≡ Some m → RowHolds (range_row t m)
  sound_range t m is all =
      let out : value n t ≡ layer_value (out-Term t) = fold_out-Term ℤ (value_here n) t in
      let bounds = bounded_layer (out-Term t) m is in
      conjoined n _ _ (is_least n (pos 0) t (subst (λ z. pos 0 ≤ℤ z) (sym out) bounds.0)) (is_most n t m (subst (λ z. z ≤ℤ m) (sym out) bounds.1))

  module _ (v : ValType) (a b : Term) where
    pub sound_add : RowHolds (add_row v a b)
    sound_add all =
        let p = three _ _ _ all in
        equal n _ _ (value-operator n v op.Add a b
        ∙ add_given (width_of v) (value n a) (value n b) (least n (pos 0) a p.0) (least n (pos 0) b p.1) (subst (λ z. z ≤ℤ greatest v) (value-add n a b) (most n (term.Add a b) (greatest v) p.2))
        ∙ sym (value-add n a b))

    pub sound_addwrap : RowHolds (addwrap_row v a b)
    sound_addwrap all =
        let p = three _ _ _ all in
        equal n _ _ (value-operator n v op.Add a b
        ∙ addwrap_given (width_of v) (value n a) (value n b) (most n a (greatest v) p.0) (most n b (greatest v) p.1) (subst (λ z. modulus v ≤ℤ z) (value-add n a b) (least n (modulus v) (term.Add a b) p.2))
        ∙ sym (value-sub n (term.Add a b) (term.Num (modulus v)) ∙ ap₂ (λ x y. x -ℤ y) (value-add n a b) (value-num n (modulus v))))

    pub sound_sub : RowHolds (sub_row v a b)
    sound_sub all =
        let p = three _ _ _ all in
        equal n _ _ (value-operator n v op.Sub a b
        ∙ sub_given (width_of v) (value n a) (value n b) (least n (pos 0) b p.0) (ordered n b a p.1) (most n a (greatest v) p.2)
        ∙ sym (value-sub n a b))

    pub sound_subwrap : RowHolds (subwrap_row v a b)
    sound_subwrap all =
        let p = three _ _ _ all in
        equal n _ _ (value-operator n v op.Sub a b
        ∙ subwrap_given (width_of v) (value n a) (value n b) (least n (pos 0) a p.0) (below n a b p.1) (most n b (greatest v) p.2)
        ∙ sym (value-add n (term.Sub a b) (term.Num (modulus v)) ∙ ap₂ (λ x y. x +ℤ y) (value-sub n a b) (value-num n (modulus v))))

    pub sound_mul : RowHolds (mul_row v a b)
    sound_mul all =
        let p = three _ _ _ all in
        equal n _ _ (value-operator n v op.Mul a b
        ∙ mul_given (width_of v) (value n a) (value n b) (least n (pos 0) a p.0) (least n (pos 0) b p.1) (subst (λ z. z ≤ℤ greatest v) (value-mul n a b) (most n (term.Mul a b) (greatest v) p.2))
        ∙ sym (value-mul n a b))

    pub sound_divu : RowHolds (divu_row v a b)
    sound_divu all =
        let p = four _ _ _ _ all in
        let q = term.Two (operator v op.DivU) a b in
        let r = term.Two (operator v op.RemU) a b in
        let q_is = value-operator n v op.DivU a b in
        let r_is = value-operator n v op.RemU a b in
        let law = divu_law (width_of v) (value n a) (value n b) (least n (pos 0) a p.0) (most n a (greatest v) p.1) (least n (pos 1) b p.2) (most n b (greatest v) p.3) in
        conjoined n _ _
        (equal n a (term.Add (term.Mul b q) r) (law.0 ∙ sym (value-add n (term.Mul b q) r ∙ ap₂ (λ x y. x +ℤ y) (value-mul n b q ∙ ap (λ z. value n b *ℤ z) q_is) r_is)))
        (conjoined n _ _ (is_least n (pos 0) r (subst (λ z. pos 0 ≤ℤ z) (sym r_is) law.1)) (is_below n r b (subst (λ z. z <ℤ value n b) (sym r_is) law.2)))

    pub sound_divs : RowHolds (divs_row v a b)
    sound_divs all =
        let p = four _ _ _ _ all in
        let law = divs_law (width_of v) (value n a) (value n b) (bits_positive v) (least n (pos 0) a p.0) (most n a (greatest_signed v) p.1) (least n (pos 1) b p.2) (most n b (greatest_signed v) p.3) in
        conjoined n _ _
        (equal n _ _ (value-operator n v op.DivS a b ∙ law.0 ∙ sym (value-operator n v op.DivU a b)))
        (equal n _ _ (value-operator n v op.RemS a b ∙ law.1 ∙ sym (value-operator n v op.RemU a b)))

    -- ---- comparisons

    module _ (a_least : pos 0 ≤ℤ value n a) (a_most : value n a ≤ℤ greatest v) (b_least : pos 0 ≤ℤ value n b) (b_most : value n b ≤ℤ greatest v) where
      -- a comparison that knows no sign is 1 exactly where its claim is true
      compared : (o : IntOp) (f : Formula) → unsigned_claim o a b ≡ Some f → value n (term.Two (operator v o) a b) ≡ pos (truth (holds n f))
      compared op.Eq f is = value-operator n v op.Eq a b ∙ eq_given (width_of v) (value n a) (value n b) a_least a_most b_least b_most ∙ ap (λ t. pos (truth t)) (sym (holds-eq n a b) ∙ ap (holds n) (same_Some (formula.Eq a b) f is))
      compared op.Ne f is = value-operator n v op.Ne a b ∙ ne_given (width_of v) (value n a) (value n b) a_least a_most b_least b_most ∙ ap (λ t. pos (truth t)) (ap not (sym (holds-eq n a b)) ∙ sym (holds-not n (formula.Eq a b)) ∙ ap (holds n) (same_Some (formula.Not (formula.Eq a b)) f is))
      compared op.LtU f is = value-operator n v op.LtU a b ∙ lt_given (width_of v) (value n a) (value n b) a_least a_most b_least b_most ∙ ap (λ t. pos (truth t)) (sym (holds-lt n a b) ∙ ap (holds n) (same_Some (formula.Lt a b) f is))
      compared op.GtU f is = value-operator n v op.GtU a b ∙ gt_given (width_of v) (value n a) (value n b) a_least a_most b_least b_most ∙ ap (λ t. pos (truth t)) (sym (holds-lt n b a) ∙ ap (holds n) (same_Some (formula.Lt b a) f is))
      compared op.LeU f is = value-operator n v op.LeU a b ∙ le_given (width_of v) (value n a) (value n b) a_least a_most b_least b_most ∙ ap (λ t. pos (truth t)) (sym (holds-le n a b) ∙ ap (holds n) (same_Some (formula.Le a b) f is))
      compared op.GeU f is = value-operator n v op.GeU a b ∙ ge_given (width_of v) (value n a) (value n b) a_least a_most b_least b_most ∙ ap (λ t. pos (truth t)) (sym (holds-le n b a) ∙ ap (holds n) (same_Some (formula.Le b a) f is))
      compared _ f is = cc

    pub sound_test : (o : IntOp) (f : Formula) → unsigned_claim o a b ≡ Some f → RowHolds (test_row v o a b f)
    sound_test o f is all =
        let p = four _ _ _ _ all in
        chosen n (term.Two (operator v o) a b) f (holds n f) (compared (least n (pos 0) a p.0) (most n a (greatest v) p.1) (least n (pos 0) b p.2) (most n b (greatest v) p.3) o f is) refl

    -- a comparison of signed readings is 1 exactly where its claim is true
    compared_signed : (o : IntOp) (f : Formula) → signed_claim o (term.Sgn (width_of v) a) (term.Sgn (width_of v) b) ≡ Some f → value n (term.Two (operator v o) a b) ≡ pos (truth (holds n f))
    compared_signed op.LtS f is = value-operator n v op.LtS a b ∙ ap₂ (λ x y. pos (truth (int_lt x y))) (sym (value-sgn n (width_of v) a)) (sym (value-sgn n (width_of v) b)) ∙ ap (λ t. pos (truth t)) (sym (holds-lt n _ _) ∙ ap (holds n) (same_Some (formula.Lt (term.Sgn (width_of v) a) (term.Sgn (width_of v) b)) f is))
    compared_signed op.GtS f is = value-operator n v op.GtS a b ∙ ap₂ (λ x y. pos (truth (int_lt y x))) (sym (value-sgn n (width_of v) a)) (sym (value-sgn n (width_of v) b)) ∙ ap (λ t. pos (truth t)) (sym (holds-lt n _ _) ∙ ap (holds n) (same_Some (formula.Lt (term.Sgn (width_of v) b) (term.Sgn (width_of v) a)) f is))
    compared_signed op.LeS f is = value-operator n v op.LeS a b ∙ ap₂ (λ x y. pos (truth (int_le x y))) (sym (value-sgn n (width_of v) a)) (sym (value-sgn n (width_of v) b)) ∙ ap (λ t. pos (truth t)) (sym (holds-le n _ _) ∙ ap (holds n) (same_Some (formula.Le (term.Sgn (width_of v) a) (term.Sgn (width_of v) b)) f is))
    compared_signed op.GeS f is = value-operator n v op.GeS a b ∙ ap₂ (λ x y. pos (truth (int_le y x))) (sym (value-sgn n (width_of v) a)) (sym (value-sgn n (width_of v) b)) ∙ ap (λ t. pos (truth t)) (sym (holds-le n _ _) ∙ ap (holds n) (same_Some (formula.Le (term.Sgn (width_of v) b) (term.Sgn (width_of v) a)) f is))
    compared_signed _ f is = cc

    pub sound_tests : (o : IntOp) (f : Formula) → signed_claim o (term.Sgn (width_of v) a) (term.Sgn (width_of v) b) ≡ Some f → RowHolds (tests_row v o a b f)
    sound_tests o f is all = chosen n (term.Two (operator v o) a b) f (holds n f) (compared_signed o f is) refl

  module _ (v : ValType) (a : Term) where
    pub sound_zero : RowHolds (zero_row v a)
    sound_zero all =
        let p = two _ _ all in
        let f = formula.Eq a (term.Num (pos 0)) in
        chosen n (term.One (operator v op.Eqz) a) f (holds n f)
        (value-operator_one n v op.Eqz a ∙ eqz_given (width_of v) (value n a) (least n (pos 0) a p.0) (most n a (greatest v) p.1)
        ∙ ap (λ t. pos (truth t)) (sym (holds-eq n a (term.Num (pos 0)) ∙ ap (int_eq (value n a)) (value-num n (pos 0)))))
        refl

    -- ---- readings

    pub sound_sgn : RowHolds (sgn_row v a)
    sound_sgn all =
        let p = two _ _ all in
        let s = term.Sgn (width_of v) a in
        ⊎_elim
        (λ (l : (value n a ≤ℤ greatest_signed v) × (signed (width_of v) (modulo (value n a) (2 ^ width_of v)) ≡ value n a)).
        first_case n _ _ (conjoined n _ _ (is_most n a (greatest_signed v) l.0) (equal n s a (value-sgn n (width_of v) a ∙ l.1))))
        (λ (h : (half v ≤ℤ value n a) × (signed (width_of v) (modulo (value n a) (2 ^ width_of v)) ≡ value n a -ℤ modulus v)).
        second_case n _ _ (conjoined n _ _ (is_least n (half v) a h.0) (equal n s (term.Sub a (term.Num (modulus v))) (value-sgn n (width_of v) a ∙ h.1 ∙ sym (value-sub n a (term.Num (modulus v)) ∙ ap (λ z. value n a -ℤ z) (value-num n (modulus v)))))))
        (sgn_given (width_of v) (value n a) (bits_positive v) (least n (pos 0) a p.0) (most n a (greatest v) p.1))

    pub sound_shift : (o r : IntOp) (k : ℤ) → shift_as o ≡ Some r → IsTrue (is_among v k) → RowHolds (shift_row v o r a k)
    sound_shift o r k is among all =
        let t = both _ _ among in
        let low : pos 0 ≤ℤ k = le_z_yes (T_from_true (int_le (pos 0) k) t.0) in
        let high : k ≤ℤ greatest v = le_z_yes (T_from_true (int_le k (greatest v)) t.1) in
        let p = pos (2 ^ modulo k (width_of v)) in
        equal n _ _ (value-operator n v o a (term.Num k) ∙ ap (given (width_of v) o (value n a)) (value-num n k)
        ∙ shift_law (width_of v) o r (value n a) k (bits_positive v) is low high
        ∙ sym (value-operator n v r a (term.Num p) ∙ ap (given (width_of v) r (value n a)) (value-num n p)))

    pub sound_mask : (k : ℕ) → k < width_of v → RowHolds (mask_row v a k)
    sound_mask k less all =
        equal n _ _ (value-operator n v op.And a (term.Num (pos (2 ^ k - 1))) ∙ ap (given (width_of v) op.And (value n a)) (value-num n (pos (2 ^ k - 1)))
        ∙ mask_given (width_of v) k (value n a) less
        ∙ sym (value-operator n v op.RemU a (term.Num (pos (2 ^ k))) ∙ ap (given (width_of v) op.RemU (value n a)) (value-num n (pos (2 ^ k)))))

  -- ---- changes of width

  pub sound_changed : (o : NumOp) (a t : Term) → changed o a ≡ Some t → RowHolds (changed_row o a t)
  sound_changed Wrap a t is all = equal n _ _ (value-one n Wrap a ∙ ap pos (wrap_given (value n a)) ∙ sym (value-low n 32 a) ∙ ap (value n) (same_Some (term.Low 32 a) t is))
  sound_changed ExtendU a t is all = equal n _ _ (value-one n ExtendU a ∙ sym (value-low n 32 a) ∙ ap (value n) (same_Some (term.Low 32 a) t is))
  sound_changed ExtendS a t is all = equal n _ _ (value-one n ExtendS a ∙ sym (value-sext n 32 64 a) ∙ ap (value n) (same_Some (term.Sext 32 64 a) t is))
  sound_changed (W32 o) a t is all = cc
  sound_changed (W64 o) a t is all = cc

  pub sound_low : (k : ℕ) (a : Term) → RowHolds (low_row k a)
  sound_low k a all =
      let p = two _ _ all in
      equal n _ _ (value-low n k a ∙ low_given k (value n a) (least n (pos 0) a p.0) (most n a (pos (2 ^ k - 1)) p.1))

  pub sound_sext : (k w : ℕ) (a : Term) → is_sext_pair k w ≡ true → RowHolds (sext_row k w a)
  sound_sext k w a pair all =
      let p = two _ _ all in
      let widths = pair_bounds k w pair in
      let s = term.Sext k w a in
      let d = pos (2 ^ w - 2 ^ k) in
      ⊎_elim
      (λ (l : (value n a ≤ℤ pos (2 ^ (k - 1) - 1)) × (pos (sign_extended k w (modulo (value n a) (2 ^ k))) ≡ value n a)).
      first_case n _ _ (conjoined n _ _ (is_most n a (pos (2 ^ (k - 1) - 1)) l.0) (equal n s a (value-sext n k w a ∙ l.1))))
      (λ (h : (pos (2 ^ (k - 1)) ≤ℤ value n a) × (pos (sign_extended k w (modulo (value n a) (2 ^ k))) ≡ value n a +ℤ d)).
      second_case n _ _ (conjoined n _ _ (is_least n (pos (2 ^ (k - 1))) a h.0) (equal n s (term.Add a (term.Num d)) (value-sext n k w a ∙ h.1 ∙ sym (value-add n a (term.Num d) ∙ ap (λ z. value n a +ℤ z) (value-num n d))))))
      (sext_given k w (value n a) widths.0 widths.1 (least n (pos 0) a p.0) (most n a (pos (2 ^ k - 1)) p.1))
