-- What a term or a formula becomes has its value, where what is replaced and what replaces it have one value.
use Rattle.std.proofs.Common.{◌≡◌, ℤ, ◌+ℤ◌, ◌-ℤ◌, ◌*ℤ◌, Bool, true, false, not, ◌&&◌, ◌||◌, IsTrue, refl, sym, ap, ◌∙◌, true≢false}
use Rattle.std.specs.Prelude.{int_lt, int_le}
use Rattle.std.specs.Ordering.{int_eq}
use Rattle.std.proofs.lemmas.Bool.{eqb-true}
use Rattle.std.proofs.lemmas.Bool.Decides.{Decides-int_eq}
use Rattle.term_trees.specs.declared.term.Term.{Term, roll-Term, out-Term, map-Term, fold-roll-Term, fold_out-Term}
use Rattle.term_trees.specs.declared.term.Term.TheOpen.{Term-F, Num, Var, Own, At, Add, Sub, Mul, One, Two, Low, Sext, Sgn}
use Rattle.term_trees.specs.declared.term.Formula.{Formula, out-Formula, map-Formula, fold-roll-Formula, fold_out-Formula}
use Rattle.term_trees.specs.declared.term.Formula.TheOpen.{Formula-F}
use Rattle.term_trees.specs.declared.term.Formula.TheOpen as form
use Rattle.term_trees.specs.Meaning.{Numbers, value_here, value, holds_here, holds}
use Rattle.term_trees.specs.Same.{passes, same_here, same}
use Rattle.term_trees.specs.Views.{true_here, false_here, eq_here, le_here, lt_here, not_here, and_here, or_here, imp_here, eq_of}
use Rattle.term_trees.proofs.Equalities.{exact_place, exact_num_op}
use Rattle.term_trees.proofs.Sameness.{layer_test, here-test, induct, induct_formula, map_map, map_map_form, same-exact}
use Rattle.term_trees.proofs.Truths.{both}
use Rattle.equality_rules.specs.Rewrite.{becomes, formula_becomes_here, formula_becomes, is_rewrite}
use Rattle.equality_rules.proofs.Becomes.{becomes-roll}
use Rattle.equality_rules.proofs.Forms.{passed, holds-eq}

either : (a b : Bool) (Q : Type 0) → (a || b) ≡ true → (a ≡ true → Q) → (b ≡ true → Q) → Q
either true b Q h left right = left refl
either false b Q h left right = right h

module _ (n : Numbers) (a b : Term) (equal : value n a ≡ value n b) where
  abbrev Keeps : Term → Type 0
  Keeps t = (u : Term) → becomes a b t u ≡ true → value n t ≡ value n u

  abbrev part : (t : Term) × Keeps t → Term
  part e = e.0

  -- a layer whose parts become those of another has its value
  keeps_layer : (l : Term-F ((t : Term) × Keeps t)) (m : Term-F Term) → layer_test (map-Term ((t : Term) × Keeps t) (Term → Bool) (λ e. becomes a b e.0) l) m ≡ true
      → value_here n (map-Term ((t : Term) × Keeps t) ℤ (λ e. value n e.0) l) ≡ value_here n (map-Term Term ℤ (value n) m)
  keeps_layer (Num k) (Num j) e = (Decides-int_eq k j).0 e
  keeps_layer (Var k) (Var j) e = ap (λ i. value_here n (Var i)) (eqb-true k j e)
  keeps_layer (Own k) (Own j) e = ap (λ i. value_here n (Own i)) (eqb-true k j e)
  keeps_layer (At p) (At q) e = ap n.places (exact_place p q e)
  keeps_layer (Add x y) (Add c d) e = let p = both _ _ e in λ i. x.1 c p.0 i +ℤ y.1 d p.1 i
  keeps_layer (Sub x y) (Sub c d) e = let p = both _ _ e in λ i. x.1 c p.0 i -ℤ y.1 d p.1 i
  keeps_layer (Mul x y) (Mul c d) e = let p = both _ _ e in λ i. x.1 c p.0 i *ℤ y.1 d p.1 i
  keeps_layer (One o x) (One q c) e = let p = both _ _ e in λ i. value_here n (One (exact_num_op o q p.0 i) (x.1 c p.1 i))
  keeps_layer (Two o x y) (Two q c d) e =
      let p = both _ _ e in
      let r = both _ _ p.1 in
      λ i. value_here n (Two (exact_num_op o q p.0 i) (x.1 c r.0 i) (y.1 d r.1 i))
  keeps_layer (Low k x) (Low m c) e = let p = both _ _ e in λ i. value_here n (Low (eqb-true k m p.0 i) (x.1 c p.1 i))
  keeps_layer (Sext k w x) (Sext m v c) e =
      let p = both _ _ e in
      let r = both _ _ p.1 in
      λ i. value_here n (Sext (eqb-true k m p.0 i) (eqb-true w v r.0 i) (x.1 c r.1 i))
  keeps_layer (Sgn w x) (Sgn v c) e = let p = both _ _ e in λ i. value_here n (Sgn (eqb-true w v p.0 i) (x.1 c p.1 i))
  keeps_layer _ _ e = absurd (true≢false (sym e))

  -- what a term becomes has its value
  becomes-value : (t : Term) → Keeps t
  becomes-value = induct Keeps (λ l u e.
      let k : Term-F Term = map-Term ((t : Term) × Keeps t) Term part l in
      either (same (roll-Term k) a && same u b) (same_here (map-Term Term (Term → Bool) (becomes a b) k) u) (value n (roll-Term k) ≡ value n u) (sym (becomes-roll a b k u) ∙ e)
      (λ both_same. let p = both _ _ both_same in ap (value n) (same-exact (roll-Term k) a p.0) ∙ equal ∙ sym (ap (value n) (same-exact u b p.1)))
      (λ built. fold-roll-Term ℤ (value_here n) k ∙ ap (value_here n) (map_map part (value n) l)
      ∙ keeps_layer l (out-Term u) (sym (ap (λ k. layer_test k (out-Term u)) (map_map part (becomes a b) l)) ∙ sym (here-test (map-Term Term (Term → Bool) (becomes a b) k) u) ∙ built)
      ∙ sym (fold_out-Term ℤ (value_here n) u)))

  -- ---- formulas

  abbrev form_test : Formula-F (Formula → Bool) → Formula-F Formula → Bool
  form_test form.True m = true_here m
  form_test form.False m = false_here m
  form_test (form.Eq t u) m = passes (eq_here m) (λ p. becomes a b t p.0 && becomes a b u p.1)
  form_test (form.Le t u) m = passes (le_here m) (λ p. becomes a b t p.0 && becomes a b u p.1)
  form_test (form.Lt t u) m = passes (lt_here m) (λ p. becomes a b t p.0 && becomes a b u p.1)
  form_test (form.Not f) m = passes (not_here m) (λ h. f h)
  form_test (form.And f g) m = passes (and_here m) (λ p. f p.0 && g p.1)
  form_test (form.Or f g) m = passes (or_here m) (λ p. f p.0 && g p.1)
  form_test (form.Imp f g) m = passes (imp_here m) (λ p. f p.0 && g p.1)

  here-form : (l : Formula-F (Formula → Bool)) (g : Formula) → formula_becomes_here a b l g ≡ form_test l (out-Formula g)
  here-form form.True g = refl
  here-form form.False g = refl
  here-form (form.Eq t u) g = refl
  here-form (form.Le t u) g = refl
  here-form (form.Lt t u) g = refl
  here-form (form.Not f) g = refl
  here-form (form.And f h) g = refl
  here-form (form.Or f h) g = refl
  here-form (form.Imp f h) g = refl

  abbrev KeepsTruth : Formula → Type 0
  KeepsTruth f = (g : Formula) → formula_becomes a b f g ≡ true → holds n f ≡ holds n g

  abbrev form_part : (f : Formula) × KeepsTruth f → Formula
  form_part e = e.0

  keeps_form : (l : Formula-F ((f : Formula) × KeepsTruth f)) (m : Formula-F Formula) → form_test (map-Formula ((f : Formula) × KeepsTruth f) (Formula → Bool) (λ e. formula_becomes a b e.0) l) m ≡ true
      → holds_here n (map-Formula ((f : Formula) × KeepsTruth f) Bool (λ e. holds n e.0) l) ≡ holds_here n (map-Formula Formula Bool (holds n) m)
  keeps_form form.True form.True e = refl
  keeps_form form.False form.False e = refl
  keeps_form (form.Eq x y) (form.Eq c d) e = let p = both _ _ e in λ i. int_eq (becomes-value x c p.0 i) (becomes-value y d p.1 i)
  keeps_form (form.Le x y) (form.Le c d) e = let p = both _ _ e in λ i. int_le (becomes-value x c p.0 i) (becomes-value y d p.1 i)
  keeps_form (form.Lt x y) (form.Lt c d) e = let p = both _ _ e in λ i. int_lt (becomes-value x c p.0 i) (becomes-value y d p.1 i)
  keeps_form (form.Not f) (form.Not g) e = λ i. not (f.1 g e i)
  keeps_form (form.And f g) (form.And h k) e = let p = both _ _ e in λ i. f.1 h p.0 i && g.1 k p.1 i
  keeps_form (form.Or f g) (form.Or h k) e = let p = both _ _ e in λ i. f.1 h p.0 i || g.1 k p.1 i
  keeps_form (form.Imp f g) (form.Imp h k) e = let p = both _ _ e in λ i. not (f.1 h p.0 i) || g.1 k p.1 i
  keeps_form _ _ e = absurd (true≢false (sym e))

  -- what a formula becomes is true exactly where it is
  becomes-holds : (f : Formula) → KeepsTruth f
  becomes-holds = induct_formula KeepsTruth (λ l g e.
      let k : Formula-F Formula = map-Formula ((f : Formula) × KeepsTruth f) Formula form_part l in
      let tested : form_test (map-Formula Formula (Formula → Bool) (formula_becomes a b) k) (out-Formula g) ≡ true =
      sym (here-form (map-Formula Formula (Formula → Bool) (formula_becomes a b) k) g) ∙ sym (ap (λ (test : Formula → Bool). test g) (fold-roll-Formula (Formula → Bool) (formula_becomes_here a b) k)) ∙ e in
      fold-roll-Formula Bool (holds_here n) k ∙ ap (holds_here n) (map_map_form form_part (holds n) l)
      ∙ keeps_form l (out-Formula g) (sym (ap (λ k. form_test k (out-Formula g)) (map_map_form form_part (formula_becomes a b) l)) ∙ tested)
      ∙ sym (fold_out-Formula Bool (holds_here n) g))

pub sound_rewrite : (n : Numbers) (e f c : Formula) → IsTrue (holds n e) → IsTrue (holds n f) → IsTrue (is_rewrite e f c) → IsTrue (holds n c)
sound_rewrite n e f c equation hold h = passed (eq_of e) _ (IsTrue (holds n c)) h (λ s is test.
    let equal : value n s.0 ≡ value n s.1 = (Decides-int_eq (value n s.0) (value n s.1)).0 (sym (holds-eq n e s is) ∙ equation) in
    sym (becomes-holds n s.0 s.1 equal f c test) ∙ hold)
