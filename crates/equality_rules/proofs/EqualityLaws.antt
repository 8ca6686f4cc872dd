-- The rules of equality and order keep truth, in their order.
use Rattle.std.proofs.Common.{◌≡◌, ℤ, pos, negsuc, ◌*ℤ◌, Bool, true, false, not, ◌&&◌, ◌||◌, IsTrue, Option, Some, None, refl, sym, ap, ◌∙◌, arith, true≢false}
use Rattle.std.specs.Prelude.{int_lt, int_le, if◌then◌else◌}
use Rattle.std.specs.Option.{option_map, option_and_then}
use Rattle.std.specs.Ordering.{int_eq}
use Rattle.std.proofs.lemmas.Int.{ints}
use Rattle.std.proofs.lemmas.Option.{same_Some}
use Rattle.std.proofs.lemmas.Bool.Decides.{Decides-int_eq}
use borrow.Author.Differences.{same_in, lt-false}
use Rattle.term_trees.specs.declared.term.Term.{Term, out-Term, fold_out-Term, map-Term}
use Rattle.term_trees.specs.declared.term.Term.TheOpen.{Term-F, Num, Mul}
use Rattle.term_trees.specs.declared.term.Formula.{Formula}
use Rattle.term_trees.specs.Ground.{ground_truth}
use Rattle.term_trees.specs.Ground.{both as both_of}
use Rattle.term_trees.specs.Meaning.{Numbers, value_here, value, holds}
use Rattle.term_trees.specs.Same.{same}
use Rattle.term_trees.specs.Views.{num_here, product_here, num_of, product_of, eq_of, le_of, lt_of, not_of, or_of}
use Rattle.term_trees.proofs.GroundLaws.{holds-ground}
use Rattle.term_trees.proofs.Sameness.{same-exact}
use Rattle.term_trees.proofs.Truths.{both}
use Rattle.equality_rules.specs.Equality.{are_sides, is_refl, is_eval, is_equal_or_above, is_order, is_notle, is_notlt, is_zero, nonnegative_of, is_mulpos, together, multiple_of, upper_of, lower_of, is_greatest, is_least, is_floor, is_ceil}
use Rattle.equality_rules.proofs.Forms.{passed, sides_are, holds-eq, holds-le, holds-lt, holds-not, holds-or}
use Rattle.equality_rules.proofs.Quotients.{at_most_greatest, at_least_least}

-- ---- numbers

not_at_most : (x y : ℤ) → not (int_le x y) ≡ true → int_lt y x ≡ true
not_at_most x y h = grind (arith, ints)

not_less : (x y : ℤ) → not (int_lt x y) ≡ true → int_le y x ≡ true
not_less x y h = grind (arith, ints)

ordered : (x y : ℤ) → (int_lt x y || (int_eq x y || int_lt y x)) ≡ true
ordered x y = by (int_lt x y) (int_lt y x) refl refl
  where
    by : (a b : Bool) → int_lt x y ≡ a → int_lt y x ≡ b → (a || (int_eq x y || b)) ≡ true
    by true b e f = refl
    by false true e f = or_true (int_eq x y)
      where
        or_true : (c : Bool) → (c || true) ≡ true
        or_true true = refl
        or_true false = refl
    by false false e f = ap (λ c. c || false) ((Decides-int_eq x y).1 (same_in x y (omega (arith, lt-false x y e, lt-false y x f))))

pub product_at_least : (x y : ℤ) → int_le (pos 0) x ≡ true → int_le (pos 0) y ≡ true → int_le (pos 0) (x *ℤ y) ≡ true
product_at_least (pos a) (pos b) h g = grind (arith, ints)
product_at_least (pos a) (negsuc b) h g = absurd (true≢false (sym g))
product_at_least (negsuc a) y h g = absurd (true≢false (sym h))

module _ (n : Numbers) where
  -- ---- terms

  abbrev layer_value : Term-F Term → ℤ
  layer_value l = value_here n (map-Term Term ℤ (value n) l)

  value_out : (t : Term) → value n t ≡ layer_value (out-Term t)
  value_out t = fold_out-Term ℤ (value_here n) t

  num_layer : (l : Term-F Term) (z : ℤ) → num_here l ≡ Some z → layer_value l ≡ z
  num_layer (Num k) z e = same_Some k z e
  num_layer _ z e = cc

  product_layer : (l : Term-F Term) (p : Term × Term) → product_here l ≡ Some p → layer_value l ≡ value n p.0 *ℤ value n p.1
  product_layer (Mul a b) p e = ap (λ (q : Term × Term). value n q.0 *ℤ value n q.1) (same_Some (a, b) p e)
  product_layer _ p e = cc

  pub value-num : (t : Term) (z : ℤ) → num_of t ≡ Some z → value n t ≡ z
  value-num t z e = value_out t ∙ num_layer (out-Term t) z e

  value-product : (t : Term) (p : Term × Term) → product_of t ≡ Some p → value n t ≡ value n p.0 *ℤ value n p.1
  value-product t p e = value_out t ∙ product_layer (out-Term t) p e

  value-same : (t u : Term) → IsTrue (same t u) → value n t ≡ value n u
  value-same t u e = ap (value n) (same-exact t u e)

  -- ---- the rules

  pub sound_refl : (c : Formula) → IsTrue (is_refl c) → IsTrue (holds n c)
  sound_refl c h = passed (eq_of c) _ (IsTrue (holds n c)) h (λ s is same. holds-eq n c s is ∙ (Decides-int_eq (value n s.0) (value n s.1)).1 (value-same s.0 s.1 same))

  pub sound_eval : (c : Formula) → IsTrue (is_eval c) → IsTrue (holds n c)
  sound_eval c h = passed (ground_truth c) _ (IsTrue (holds n c)) h (λ b is true_b. holds-ground n c b is ∙ true_b)

  above_holds : (f : Formula) (a b : Term) → IsTrue (is_equal_or_above f a b) → holds n f ≡ (int_eq (value n a) (value n b) || int_lt (value n b) (value n a))
  above_holds f a b h = passed (or_of f) _ (holds n f ≡ (int_eq (value n a) (value n b) || int_lt (value n b) (value n a))) h (λ q is test.
      let parts = both (are_sides (eq_of q.0) a b) (are_sides (lt_of q.1) b a) test in
      let first : holds n q.0 ≡ int_eq (value n a) (value n b) = holds-eq n q.0 (a, b) (sides_are (eq_of q.0) a b parts.0) in
      let second : holds n q.1 ≡ int_lt (value n b) (value n a) = holds-lt n q.1 (b, a) (sides_are (lt_of q.1) b a parts.1) in
      holds-or n f q is ∙ (λ j. first j || second j))

  pub sound_order : (c : Formula) → IsTrue (is_order c) → IsTrue (holds n c)
  sound_order c h = passed (or_of c) _ (IsTrue (holds n c)) h (λ p is rest. passed (lt_of p.0) _ (IsTrue (holds n c)) rest (λ s below above.
      let first : holds n p.0 ≡ int_lt (value n s.0) (value n s.1) = holds-lt n p.0 s below in
      let second = above_holds p.1 s.0 s.1 above in
      holds-or n c p is ∙ (λ j. first j || second j) ∙ ordered (value n s.0) (value n s.1)))

  pub sound_notle : (p c : Formula) → IsTrue (holds n p) → IsTrue (is_notle p c) → IsTrue (holds n c)
  sound_notle p c hold h = passed (not_of p) _ (IsTrue (holds n c)) h (λ f is rest. passed (le_of f) _ (IsTrue (holds n c)) rest (λ s le sides.
      let denied : not (int_le (value n s.0) (value n s.1)) ≡ true = sym (ap not (holds-le n f s le)) ∙ sym (holds-not n p f is) ∙ hold in
      holds-lt n c (s.1, s.0) (sides_are (lt_of c) s.1 s.0 sides) ∙ not_at_most (value n s.0) (value n s.1) denied))

  pub sound_notlt : (p c : Formula) → IsTrue (holds n p) → IsTrue (is_notlt p c) → IsTrue (holds n c)
  sound_notlt p c hold h = passed (not_of p) _ (IsTrue (holds n c)) h (λ f is rest. passed (lt_of f) _ (IsTrue (holds n c)) rest (λ s lt sides.
      let denied : not (int_lt (value n s.0) (value n s.1)) ≡ true = sym (ap not (holds-lt n f s lt)) ∙ sym (holds-not n p f is) ∙ hold in
      holds-le n c (s.1, s.0) (sides_are (le_of c) s.1 s.0 sides) ∙ not_less (value n s.0) (value n s.1) denied))

  zero-value : (t : Term) → IsTrue (is_zero t) → value n t ≡ pos 0
  zero-value t h = passed (num_of t) _ (value n t ≡ pos 0) h (λ z is zero. value-num t z is ∙ (Decides-int_eq z (pos 0)).0 zero)

  nonnegative-if : (b : Bool) (t a : Term) → (if b then Some t else None) ≡ Some a → (b ≡ true) × (t ≡ a)
  nonnegative-if true t a e = (refl, same_Some t a e)
  nonnegative-if false t a e = cc

  -- a formula says `0 <= a` exactly as its sides do
  nonnegative-holds : (f : Formula) (a : Term) → nonnegative_of f ≡ Some a → holds n f ≡ int_le (pos 0) (value n a)
  nonnegative-holds f a e = by (le_of f) refl e
    where
      by : (o : Option (Term × Term)) → le_of f ≡ o → option_and_then (λ s. if is_zero s.0 then Some s.1 else None) o ≡ Some a → holds n f ≡ int_le (pos 0) (value n a)
      by None is e = cc
      by (Some s) is e =
          let found = nonnegative-if (is_zero s.0) s.1 a e in
          let zero = zero-value s.0 found.0 in
          holds-le n f s is ∙ (λ j. int_le (zero j) (value n (found.1 j)))

  both_are : (o p : Option Term) (q : Term × Term) → both_of o p ≡ Some q → (o ≡ Some q.0) × (p ≡ Some q.1)
  both_are (Some a) (Some b) q e = let same = same_Some (a, b) q e in (ap (λ (p : Term × Term). Some p.0) same, ap (λ (p : Term × Term). Some p.1) same)
  both_are (Some a) None q e = cc
  both_are None p q e = cc

  pub sound_mulpos : (p q c : Formula) → IsTrue (holds n p) → IsTrue (holds n q) → IsTrue (is_mulpos p q c) → IsTrue (holds n c)
  sound_mulpos p q c first second h = passed (both_of (nonnegative_of p) (nonnegative_of q)) _ (IsTrue (holds n c)) h (λ s is rest. passed (nonnegative_of c) _ (IsTrue (holds n c)) rest (λ t at sides.
      let found = both_are (nonnegative_of p) (nonnegative_of q) s is in
      let a : int_le (pos 0) (value n s.0) ≡ true = sym (nonnegative-holds p s.0 found.0) ∙ first in
      let b : int_le (pos 0) (value n s.1) ≡ true = sym (nonnegative-holds q s.1 found.1) ∙ second in
      nonnegative-holds c t at ∙ ap (int_le (pos 0)) (value-product t (s.0, s.1) (sides_are (product_of t) s.0 s.1 sides)) ∙ product_at_least (value n s.0) (value n s.1) a b))

  -- ---- quotients

  together_are : {X Y : Type 0} (o : Option X) (p : Option Y) (q : X × Y) → together o p ≡ Some q → (o ≡ Some q.0) × (p ≡ Some q.1)
  together_are (Some a) (Some b) q e = let same = same_Some (a, b) q e in (ap (λ p. Some p.0) same, ap (λ p. Some p.1) same)
  together_are (Some a) None q e = cc
  together_are None p q e = cc

  multiple-value : (t : Term) (m : ℤ × Term) → multiple_of t ≡ Some m → value n t ≡ m.0 *ℤ value n m.1
  multiple-value t m e = by (product_of t) refl e
    where
      inner : (p : Term × Term) (o : Option ℤ) → num_of p.0 ≡ o → option_map (λ d. (d, p.1)) o ≡ Some m → value n p.0 *ℤ value n p.1 ≡ m.0 *ℤ value n m.1
      inner p None at e = cc
      inner p (Some d) at e = ap (λ k. k *ℤ value n p.1) (value-num p.0 d at) ∙ ap (λ (q : ℤ × Term). q.0 *ℤ value n q.1) (same_Some (d, p.1) m e)

      by : (o : Option (Term × Term)) → product_of t ≡ o → option_and_then (λ p. option_map (λ d. (d, p.1)) (num_of p.0)) o ≡ Some m → value n t ≡ m.0 *ℤ value n m.1
      by None is e = cc
      by (Some p) is e = value-product t p is ∙ inner p (num_of p.0) refl e

  upper-holds : (f : Formula) (u : (ℤ × Term) × ℤ) → upper_of f ≡ Some u → holds n f ≡ int_le (u.0.0 *ℤ value n u.0.1) u.1
  upper-holds f u e = by (le_of f) refl e
    where
      by : (o : Option (Term × Term)) → le_of f ≡ o → option_and_then (λ s. together (multiple_of s.0) (num_of s.1)) o ≡ Some u → holds n f ≡ int_le (u.0.0 *ℤ value n u.0.1) u.1
      by None is e = cc
      by (Some s) is e =
          let found = together_are (multiple_of s.0) (num_of s.1) u e in
          let first = multiple-value s.0 u.0 found.0 in
          let second = value-num s.1 u.1 found.1 in
          holds-le n f s is ∙ (λ j. int_le (first j) (second j))

  lower-holds : (f : Formula) (u : ℤ × (ℤ × Term)) → lower_of f ≡ Some u → holds n f ≡ int_le u.0 (u.1.0 *ℤ value n u.1.1)
  lower-holds f u e = by (le_of f) refl e
    where
      by : (o : Option (Term × Term)) → le_of f ≡ o → option_and_then (λ s. together (num_of s.0) (multiple_of s.1)) o ≡ Some u → holds n f ≡ int_le u.0 (u.1.0 *ℤ value n u.1.1)
      by None is e = cc
      by (Some s) is e =
          let found = together_are (num_of s.0) (multiple_of s.1) u e in
          let first = value-num s.0 u.0 found.0 in
          let second = multiple-value s.1 u.1 found.1 in
          holds-le n f s is ∙ (λ j. int_le (first j) (second j))

  pub sound_floor : (p c : Formula) → IsTrue (holds n p) → IsTrue (is_floor p c) → IsTrue (holds n c)
  sound_floor p c hold h = passed (together (upper_of p) (le_of c)) _ (IsTrue (holds n c)) h (λ u is rest. passed (num_of u.1.1) _ (IsTrue (holds n c)) rest (λ q at test.
      let d : ℤ = u.0.0.0 in
      let z : ℤ = u.0.1 in
      let found = together_are (upper_of p) (le_of c) u is in
      let parts = both (same u.0.0.1 u.1.0) (int_le (pos 1) d && is_greatest d z q) test in
      let more = both (int_le (pos 1) d) (is_greatest d z q) parts.1 in
      let bound : int_le (d *ℤ value n u.0.0.1) z ≡ true = sym (upper-holds p u.0 found.0) ∙ hold in
      let first = sym (value-same u.0.0.1 u.1.0 parts.0) in
      let second = value-num u.1.1 q at in
      holds-le n c u.1 found.1 ∙ (λ j. int_le (first j) (second j)) ∙ at_most_greatest d z q (value n u.0.0.1) more.0 bound more.1))

  pub sound_ceil : (p c : Formula) → IsTrue (holds n p) → IsTrue (is_ceil p c) → IsTrue (holds n c)
  sound_ceil p c hold h = passed (together (lower_of p) (le_of c)) _ (IsTrue (holds n c)) h (λ u is rest. passed (num_of u.1.0) _ (IsTrue (holds n c)) rest (λ q at test.
      let d : ℤ = u.0.1.0 in
      let z : ℤ = u.0.0 in
      let found = together_are (lower_of p) (le_of c) u is in
      let parts = both (same u.0.1.1 u.1.1) (int_le (pos 1) d && is_least d z q) test in
      let more = both (int_le (pos 1) d) (is_least d z q) parts.1 in
      let bound : int_le z (d *ℤ value n u.0.1.1) ≡ true = sym (lower-holds p u.0 found.0) ∙ hold in
      let first = value-num u.1.0 q at in
      let second = sym (value-same u.0.1.1 u.1.1 parts.0) in
      holds-le n c u.1 found.1 ∙ (λ j. int_le (first j) (second j)) ∙ at_least_least d z q (value n u.0.1.1) more.0 bound more.1))
