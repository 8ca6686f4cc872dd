-- Linear arithmetic keeps truth.
use Rattle.std.proofs.Common.{◌≡◌, ℤ, pos, negsuc, ◌+ℤ◌, ◌-ℤ◌, ◌*ℤ◌, Bool, true, false, not, ◌&&◌, ◌||◌, IsTrue, List, [], ◌∷◌, Option, Some, None, refl, sym, ap, subst, ◌∙◌, arith, true≢false}
use Rattle.std.specs.Prelude.{int_lt, int_le, if◌then◌else◌, is_some}
use Rattle.std.specs.List.{All, list_all}
use Rattle.std.specs.Option.{option_map, option_and_then}
use Rattle.std.specs.Ordering.{int_eq}
use Rattle.std.proofs.lemmas.Int.{ints}
use Rattle.std.proofs.lemmas.Option.{same_Some}
use Rattle.std.proofs.lemmas.List.Elements.{All-head, All-tail}
use Rattle.std.proofs.lemmas.Bool.Decides.{Decides-int_eq}
use Rattle.std.proofs.Math.IntN.{*ℤ-zero}
use Rattle.term_trees.specs.declared.term.Term.{Term, fold-roll-Term}
use Rattle.term_trees.specs.declared.term.Term.TheOpen.{Num, Add, Sub, Mul}
use Rattle.term_trees.specs.declared.term.Term.TheVariants as term
use Rattle.term_trees.specs.declared.term.Formula.{Formula}
use Rattle.term_trees.specs.Meaning.{Numbers, value_here, value, holds}
use Rattle.term_trees.specs.Normal.{Form, is_constant, form, distinct}
use Rattle.term_trees.specs.Views.{is_false, eq_of, le_of, lt_of}
use Rattle.term_trees.proofs.LinearForms.{form-covers}
use Rattle.term_trees.proofs.NormalValue.{form-value}
use Rattle.term_trees.proofs.Rings.{skip_zero, plus_zero}
use Rattle.term_trees.proofs.Truths.{both}
use Rattle.equality_rules.specs.Equality.{together}
use Rattle.equality_rules.specs.Linear.{difference, strict_difference, first_of, claimed_term, concluded_term, is_equation, weighed_term, weighted, sum_after, weighted_sum, is_bounded, is_remainder, is_sum, is_linear}
use Rattle.equality_rules.proofs.Coefficients.{each_coefficient}
use Rattle.equality_rules.proofs.EqualityLaws.{product_at_least}
use Rattle.equality_rules.proofs.Forms.{passed, holds-eq, holds-le, holds-lt}

-- ---- numbers

zero_difference : (a b : ℤ) → b -ℤ a ≡ pos 0 → int_eq a b ≡ true
zero_difference a b e = (Decides-int_eq a b).1 (omega (arith, ints))

no_difference : (a b : ℤ) → int_eq a b ≡ true → b -ℤ a ≡ pos 0
no_difference a b e = let is = (Decides-int_eq a b).0 e in omega (arith, ints)

some_difference : (a b : ℤ) → int_le a b ≡ true → int_le (pos 0) (b -ℤ a) ≡ true
some_difference a b h = grind (arith, ints)

from_difference : (a b : ℤ) → int_le (pos 0) (b -ℤ a) ≡ true → int_le a b ≡ true
from_difference a b h = grind (arith, ints)

strict : (a b : ℤ) → int_lt a b ≡ true → int_le (pos 0) ((b -ℤ a) -ℤ pos 1) ≡ true
strict a b h = grind (arith, ints)

from_strict : (a b : ℤ) → int_le (pos 0) ((b -ℤ a) -ℤ pos 1) ≡ true → int_lt a b ≡ true
from_strict a b h = grind (arith, ints)

not_negative : (z : ℤ) → z ≡ pos 0 → int_le (pos 0) z ≡ true
not_negative z e = ap (int_le (pos 0)) e

add_more : (a b c : ℤ) → int_le a b ≡ true → int_le (pos 0) c ≡ true → int_le a (b +ℤ c) ≡ true
add_more a b c h g = grind (arith, ints)

remainder_equal : (v s c : ℤ) → v -ℤ s ≡ c → c ≡ pos 0 → s ≡ pos 0 → v ≡ pos 0
remainder_equal v s c e f g = omega (arith, ints)

remainder_more : (v s c : ℤ) → v -ℤ s ≡ c → int_le (pos 0) c ≡ true → int_le (pos 0) s ≡ true → int_le (pos 0) v ≡ true
remainder_more v s c e f g = grind (arith, ints)

either : (a b : Bool) (Q : Type 0) → (a || b) ≡ true → (a ≡ true → Q) → (b ≡ true → Q) → Q
either true b Q h left right = left refl
either false b Q h left right = right h

module _ (n : Numbers) where
  -- ---- values

  value-num : (z : ℤ) → value n (term.Num z) ≡ z
  value-num z = ap (value n) (sym (term.rolls-Num z)) ∙ fold-roll-Term ℤ (value_here n) (Num z)

  value-sub : (a b : Term) → value n (term.Sub a b) ≡ value n a -ℤ value n b
  value-sub a b = ap (value n) (sym (term.rolls-Sub a b)) ∙ fold-roll-Term ℤ (value_here n) (Sub a b)

  value-step : (s : Term) (k : ℤ) (t : Term) → value n (term.Add s (term.Mul (term.Num k) t)) ≡ value n s +ℤ (k *ℤ value n t)
  value-step s k t =
      ap (value n) (sym (term.rolls-Add s (term.Mul (term.Num k) t))) ∙ fold-roll-Term ℤ (value_here n) (Add s (term.Mul (term.Num k) t))
      ∙ ap (λ z. value n s +ℤ z) (ap (value n) (sym (term.rolls-Mul (term.Num k) t)) ∙ fold-roll-Term ℤ (value_here n) (Mul (term.Num k) t) ∙ ap (λ z. z *ℤ value n t) (value-num k))

  abbrev total : (Term → ℤ) → List Term → ℤ
  total k [] = pos 0
  total k (x ∷ xs) = (k x *ℤ value n x) +ℤ total k xs

  total-zero : (xs : List Term) → total (λ x. pos 0) xs ≡ pos 0
  total-zero [] = refl
  total-zero (x ∷ xs) = skip_zero (value n x) (total (λ x. pos 0) xs) ∙ total-zero xs

  -- a form without atoms has the value of its constant
  constant-value : (t : Term) → is_constant (form t) ≡ true → value n t ≡ (form t).constant
  constant-value t e =
      let zero : (x : Term) → (form t).coefficient x ≡ pos 0 = λ x. (Decides-int_eq ((form t).coefficient x) (pos 0)).0 (each_coefficient (λ z. int_eq z (pos 0)) refl (form t) (form-covers t) e x) in
      form-value n t (form t).atoms (λ x e. e)
      ∙ ap (λ z. (form t).constant +ℤ z) ((λ j. total (λ x. zero x j) (distinct (form t).atoms)) ∙ total-zero (distinct (form t).atoms))
      ∙ plus_zero (form t).constant

  -- ---- what formulas say of their terms

  -- an equation says 0, and an inequality at least 0
  abbrev Claims : Bool → ℤ → Type 0
  Claims true z = z ≡ pos 0
  Claims false z = int_le (pos 0) z ≡ true

  difference-value : (s : Term × Term) → value n (difference s) ≡ value n s.1 -ℤ value n s.0
  difference-value s = value-sub s.1 s.0

  strict-value : (s : Term × Term) → value n (strict_difference s) ≡ (value n s.1 -ℤ value n s.0) -ℤ pos 1
  strict-value s = value-sub (difference s) (term.Num (pos 1)) ∙ (λ j. difference-value s j -ℤ value-num (pos 1) j)

  -- the truth of a formula and the claim of its term
  module _ (f : Formula) where
    abbrev Kind : Bool → Term → Type 0
    Kind b t = (holds n f ≡ true → Claims b (value n t)) × (Claims b (value n t) → holds n f ≡ true)

    kind : (o p q : Option (Term × Term)) → eq_of f ≡ o → le_of f ≡ p → lt_of f ≡ q → (t : Term) → first_of (option_map difference o) (first_of (option_map difference p) (option_map strict_difference q)) ≡ Some t → Kind (is_some o) t
    kind (Some s) p q is le lt t e =
        subst (Kind true) (same_Some (difference s) t e) (
          (λ h. difference-value s ∙ no_difference (value n s.0) (value n s.1) (sym (holds-eq n f s is) ∙ h)),
          (λ z. holds-eq n f s is ∙ zero_difference (value n s.0) (value n s.1) (sym (difference-value s) ∙ z)),
        )
    kind None (Some s) q is le lt t e =
        subst (Kind false) (same_Some (difference s) t e) (
          (λ h. ap (int_le (pos 0)) (difference-value s) ∙ some_difference (value n s.0) (value n s.1) (sym (holds-le n f s le) ∙ h)),
          (λ z. holds-le n f s le ∙ from_difference (value n s.0) (value n s.1) (sym (ap (int_le (pos 0)) (difference-value s)) ∙ z)),
        )
    kind None None (Some s) is le lt t e =
        subst (Kind false) (same_Some (strict_difference s) t e) (
          (λ h. ap (int_le (pos 0)) (strict-value s) ∙ strict (value n s.0) (value n s.1) (sym (holds-lt n f s lt) ∙ h)),
          (λ z. holds-lt n f s lt ∙ from_strict (value n s.0) (value n s.1) (sym (ap (int_le (pos 0)) (strict-value s)) ∙ z)),
        )
    kind None None None is le lt t e = cc

    claims : (t : Term) → claimed_term f ≡ Some t → Kind (is_equation f) t
    claims t e = kind (eq_of f) (le_of f) (lt_of f) refl refl refl t e

    at_least : (b : Bool) (z : ℤ) → Claims b z → int_le (pos 0) z ≡ true
    at_least true z h = not_negative z h
    at_least false z h = h

    -- what the conclusion's term claims is enough
    concluded : (t : Term) → concluded_term f ≡ Some t → Claims (is_equation f) (value n t) → holds n f ≡ true
    concluded t e claim = by (is_false f) e
      where
        impossible : value n t ≡ negsuc 0 → int_le (pos 0) (value n t) ≡ true → ⊥
        impossible is h = true≢false (sym h ∙ ap (int_le (pos 0)) is)

        by : (b : Bool) → (if b then Some (term.Num (negsuc 0)) else claimed_term f) ≡ Some t → holds n f ≡ true
        by true e = absurd (impossible (ap (value n) (sym (same_Some (term.Num (negsuc 0)) t e)) ∙ value-num (negsuc 0)) (at_least (is_equation f) (value n t) claim))
        by false e = (claims t e).1 claim

  -- ---- sums

  if_some : (b : Bool) (o : Option Term) (t : Term) → (if b then o else None) ≡ Some t → (b ≡ true) × (o ≡ Some t)
  if_some true o t e = (refl, e)
  if_some false o t e = cc

  module _ (f : Formula) (k : ℤ) (t : Term) (hold : IsTrue (holds n f)) (is : weighed_term f k ≡ Some t) where
    weight_ok : (int_le (pos 0) k || is_equation f) ≡ true
    weight_ok = (if_some _ (claimed_term f) t is).0

    claim : Claims (is_equation f) (value n t)
    claim = (claims f t (if_some _ (claimed_term f) t is).1).0 hold

    product_zero : is_equation f ≡ true → k *ℤ value n t ≡ pos 0
    product_zero e = let zero : Claims true (value n t) = subst (λ b. Claims b (value n t)) e claim in ap (λ z. k *ℤ z) zero ∙ *ℤ-zero k

    product_more : int_le (pos 0) (k *ℤ value n t) ≡ true
    product_more = either (int_le (pos 0) k) (is_equation f) (int_le (pos 0) (k *ℤ value n t) ≡ true) weight_ok
        (λ e. product_at_least k (value n t) e (at_least f (is_equation f) (value n t) claim))
        (λ e. not_negative (k *ℤ value n t) (product_zero e))

  abbrev AllHold : List Formula → Type 0
  AllHold fs = All (λ f. IsTrue (holds n f)) fs

  -- what two lists that weigh make of a sum
  abbrev Grown : List Formula → Term → List (ℤ × Term) → Type 0
  Grown fs s ps = (int_le (value n s) (value n (sum_after s ps)) ≡ true) × (list_all is_equation fs ≡ true → value n (sum_after s ps) ≡ value n s)

  le_refl : (z : ℤ) → int_le z z ≡ true
  le_refl z = grind (arith, ints)

  le_trans : (a b c : ℤ) → int_le a b ≡ true → int_le b c ≡ true → int_le a c ≡ true
  le_trans a b c h g = grind (arith, ints)

  grown : (fs : List Formula) (ks : List ℤ) (ps : List (ℤ × Term)) (s : Term) → AllHold fs → weighted fs ks ≡ Some ps → Grown fs s ps
  grown [] [] ps s hold e = subst (Grown [] s) (same_Some [] ps e) (le_refl (value n s), λ _. refl)
  grown [] (k ∷ ks) ps s hold e = cc
  grown (f ∷ fs) [] ps s hold e = cc
  grown (f ∷ fs) (k ∷ ks) ps s hold e =
      by (weighed_term f k) (weighted fs ks) refl refl e (λ ps s. grown fs ks ps s (All-tail (λ f. IsTrue (holds n f)) f fs hold))
    where
      here : IsTrue (holds n f)
      here = All-head (λ f. IsTrue (holds n f)) f fs hold

      by : (o : Option Term) (m : Option (List (ℤ × Term))) → weighed_term f k ≡ o → weighted fs ks ≡ m
          → option_and_then (λ t. option_map (λ ps. (k, t) ∷ ps) m) o ≡ Some ps → ((ps : List (ℤ × Term)) (s : Term) → weighted fs ks ≡ Some ps → Grown fs s ps) → Grown (f ∷ fs) s ps
      by None m is more e rest = cc
      by (Some t) None is more e rest = cc
      by (Some t) (Some qs) is more e rest =
          let m : Term = term.Add s (term.Mul (term.Num k) t) in
          let after = rest qs m more in
          let step = value-step s k t in
          let first : int_le (value n s) (value n m) ≡ true = ap (int_le (value n s)) step ∙ add_more (value n s) (value n s) (k *ℤ value n t) (le_refl (value n s)) (product_more f k t here is) in
          subst (Grown (f ∷ fs) s) (same_Some ((k, t) ∷ qs) ps e) (
            le_trans (value n s) (value n m) (value n (sum_after m qs)) first after.0,
            λ all. let parts = both (is_equation f) (list_all is_equation fs) all in after.1 parts.1 ∙ step ∙ ap (λ z. value n s +ℤ z) (product_zero f k t here is parts.0) ∙ plus_zero (value n s),
          )

  -- ---- the rule

  together_are : {X Y : Type 0} (o : Option X) (p : Option Y) (q : X × Y) → together o p ≡ Some q → (o ≡ Some q.0) × (p ≡ Some q.1)
  together_are (Some a) (Some b) q e = let same = same_Some (a, b) q e in (ap (λ p. Some p.0) same, ap (λ p. Some p.1) same)
  together_are (Some a) None q e = cc
  together_are None p q e = cc

  pub sound_linear : (fs : List Formula) (ks : List ℤ) (c : Formula) → AllHold fs → IsTrue (is_linear fs ks c) → IsTrue (holds n c)
  sound_linear fs ks c hold h = passed (together (concluded_term c) (weighted fs ks)) _ (IsTrue (holds n c)) h (λ p is test. rule p is test)
    where
      rule : (p : Term × List (ℤ × Term)) → together (concluded_term c) (weighted fs ks) ≡ Some p
          → ((not (is_equation c) || list_all is_equation fs) && is_sum (is_equation c) p.0 p.1) ≡ true
          → IsTrue (holds n c)
      rule p is test = concluded c p.0 found.0 (by (is_equation c) remainder.1 parts.0)
        where
          found : (concluded_term c ≡ Some p.0) × (weighted fs ks ≡ Some p.1)
          found = together_are (concluded_term c) (weighted fs ks) p is

          sum : Term
          sum = weighted_sum p.1

          d : Form
          d = form (term.Sub p.0 sum)

          parts : ((not (is_equation c) || list_all is_equation fs) ≡ true) × (is_sum (is_equation c) p.0 p.1 ≡ true)
          parts = both (not (is_equation c) || list_all is_equation fs) (is_sum (is_equation c) p.0 p.1) test

          remainder : (is_constant d ≡ true) × ((if is_equation c then int_eq d.constant (pos 0) else int_le (pos 0) d.constant) ≡ true)
          remainder =
              both (is_constant d) (if is_equation c then int_eq d.constant (pos 0) else int_le (pos 0) d.constant)
              (both (is_bounded p.0 && is_bounded sum) (is_remainder (is_equation c) d) parts.1).1

          is_it : value n p.0 -ℤ value n sum ≡ d.constant
          is_it = sym (value-sub p.0 sum) ∙ constant-value (term.Sub p.0 sum) remainder.0

          grows : Grown fs (term.Num (pos 0)) p.1
          grows = grown fs ks p.1 (term.Num (pos 0)) hold found.1

          more : int_le (pos 0) (value n sum) ≡ true
          more = sym (ap (λ z. int_le z (value n sum)) (value-num (pos 0))) ∙ grows.0

          by : (b : Bool) → (if b then int_eq d.constant (pos 0) else int_le (pos 0) d.constant) ≡ true → (not b || list_all is_equation fs) ≡ true → Claims b (value n p.0)
          by true constant all = remainder_equal (value n p.0) (value n sum) d.constant is_it ((Decides-int_eq d.constant (pos 0)).0 constant) (grows.1 all ∙ value-num (pos 0))
          by false constant all = remainder_more (value n p.0) (value n sum) d.constant is_it constant more
