-- Bounds of multiples: the greatest and the least number, and what they are computed by.
use Rattle.std.proofs.Common.{◌≡◌, ℕ, ◌+◌, ◌-◌, ◌*◌, ◌/◌, ◌%◌, ◌≤◌, ◌<◌, ℤ, pos, negsuc, ◌+ℤ◌, ◌-ℤ◌, ◌*ℤ◌, Bool, true, false, refl, sym, ap, subst, ◌∙◌, arith}
use Rattle.std.specs.Prelude.{int_lt, int_le}
use Rattle.std.specs.Int.{int_div_euclid, int_rem_euclid}
use Rattle.std.specs.Ordering.{int_eq}
use Rattle.std.proofs.lemmas.Int.{ints}
use Rattle.std.proofs.lemmas.Bool.Decides.{Decides-int_eq}
use borrow.Author.Differences.{up, down, same_in, sum_is_lem, product_is, lt-false, le-true}
use Rattle.term_trees.proofs.Truths.{both, and_true, one_test}
use Rattle.equality_rules.specs.Equality.{is_greatest, is_least}

-- x is at most y, and x is below y
abbrev Under : ℤ → ℤ → Type 0
Under x y = up x + down y ≤ up y + down x

abbrev Below : ℤ → ℤ → Type 0
Below x y = up x + down y < up y + down x

under : (x y : ℤ) → int_le x y ≡ true → Under x y
under x y h = omega (arith, ints)

below : (x y : ℤ) → int_lt x y ≡ true → Below x y
below x y h = omega (arith, ints)

is_under : (x y : ℤ) → Under x y → int_le x y ≡ true
is_under x y h = grind (arith, ints)

is_below : (x y : ℤ) → Below x y → int_lt x y ≡ true
is_below x y h = grind (arith, ints)

times_more : (d x y : ℕ) → x ≤ y → d * x ≤ d * y
times_more d x y h = grind arith

times_same : (d x y : ℕ) → x ≡ y → d * x ≡ d * y
times_same d x y e = ap (λ k. d * k) e

-- multiples of a natural are ordered as what is multiplied
mono : (d : ℕ) (x y : ℤ) → Under x y → Under (pos d *ℤ x) (pos d *ℤ y)
mono d x y h = omega (arith, times_more d (up x + down y) (up y + down x) h, product_is (pos d) x, product_is (pos d) y)

-- a quotient and its remainder
module _ (d : ℕ) (some : 0 < d) where
  divided : (n : ℤ) → n ≡ (pos d *ℤ int_div_euclid n (pos d)) +ℤ int_rem_euclid n (pos d)
  divided (pos a) = ap pos (omega arith)
  divided (negsuc a) =
      let q : ℤ = negsuc (a / d) in
      let r : ℕ = d - 1 - a % d in
      same_in (negsuc a) ((pos d *ℤ q) +ℤ pos r) (omega (arith, product_is (pos d) q, sum_is_lem (pos d *ℤ q) (pos r)))

  remainder : (n : ℤ) → (r : ℕ) × (int_rem_euclid n (pos d) ≡ pos r) × (r < d)
  remainder (pos a) = (a % d, refl, omega arith)
  remainder (negsuc a) = (d - 1 - a % d, refl, omega arith)

  crossing : (x y : ℤ) → Below (pos d *ℤ x) (pos d *ℤ y) → Below x y
  crossing x y h = by (int_lt x y) refl
    where
      by : (b : Bool) → int_lt x y ≡ b → Below x y
      by true e = below x y e
      by false e = absurd (omega (arith, mono d y x (lt-false x y e), h))

  -- two numbers that are the greatest are one
  greatest_same : (n q e : ℤ) → Under (pos d *ℤ q) n → Below n (pos d *ℤ (q +ℤ pos 1)) → Under (pos d *ℤ e) n → Below n (pos d *ℤ (e +ℤ pos 1)) → q ≡ e
  greatest_same n q e a b c f =
      let low : Below q (e +ℤ pos 1) = crossing q (e +ℤ pos 1) (omega arith) in
      let high : Below e (q +ℤ pos 1) = crossing e (q +ℤ pos 1) (omega arith) in
      same_in q e (omega (arith, low, high, sum_is_lem q (pos 1), sum_is_lem e (pos 1)))

  least_same : (n q e : ℤ) → Below (pos d *ℤ (q -ℤ pos 1)) n → Under n (pos d *ℤ q) → Below (pos d *ℤ (e -ℤ pos 1)) n → Under n (pos d *ℤ e) → q ≡ e
  least_same n q e a b c f =
      let low : Below (q -ℤ pos 1) e = crossing (q -ℤ pos 1) e (omega arith) in
      let high : Below (e -ℤ pos 1) q = crossing (e -ℤ pos 1) q (omega arith) in
      same_in q e (omega (arith, low, high, sum_is_lem q (negsuc 0), sum_is_lem e (negsuc 0)))

  module _ (n : ℤ) where
    abbrev quotient : ℤ
    quotient = int_div_euclid n (pos d)

    one_more : (x : ℤ) → pos d *ℤ (x +ℤ pos 1) ≡ (pos d *ℤ x) +ℤ pos d
    one_more x = same_in _ _ (omega (arith, product_is (pos d) (x +ℤ pos 1), product_is (pos d) x, sum_is_lem (pos d *ℤ x) (pos d), times_same d _ _ (sum_is_lem x (pos 1))))

    quotient_low : Under (pos d *ℤ quotient) n
    quotient_low =
        let r = remainder n in
        let is : n ≡ (pos d *ℤ quotient) +ℤ pos r.0 = divided n ∙ ap (λ k. (pos d *ℤ quotient) +ℤ k) r.1 in
        omega (arith, ap up is, ap down is, sum_is_lem (pos d *ℤ quotient) (pos r.0))

    quotient_high : Below n (pos d *ℤ (quotient +ℤ pos 1))
    quotient_high =
        let r = remainder n in
        let is : n ≡ (pos d *ℤ quotient) +ℤ pos r.0 = divided n ∙ ap (λ k. (pos d *ℤ quotient) +ℤ k) r.1 in
        let more = one_more quotient in
        omega (arith, r.2, ap up is, ap down is, sum_is_lem (pos d *ℤ quotient) (pos r.0), ap up more, ap down more, sum_is_lem (pos d *ℤ quotient) (pos d))

    quotient_exact : int_rem_euclid n (pos d) ≡ pos 0 → n ≡ pos d *ℤ quotient
    quotient_exact none =
        let is : n ≡ (pos d *ℤ quotient) +ℤ pos 0 = divided n ∙ ap (λ k. (pos d *ℤ quotient) +ℤ k) none in
        same_in _ _ (omega (arith, ap up is, ap down is, sum_is_lem (pos d *ℤ quotient) (pos 0)))

    quotient_short : (int_rem_euclid n (pos d) ≡ pos 0 → ⊥) → Below (pos d *ℤ quotient) n
    quotient_short other =
        let r = remainder n in
        let is : n ≡ (pos d *ℤ quotient) +ℤ pos r.0 = divided n ∙ ap (λ k. (pos d *ℤ quotient) +ℤ k) r.1 in
        let left : r.0 ≡ 0 → ⊥ = λ e. other (r.1 ∙ ap pos e) in
        omega (arith, left, ap up is, ap down is, sum_is_lem (pos d *ℤ quotient) (pos r.0))

    one_less : (x : ℤ) → (x +ℤ pos 1) -ℤ pos 1 ≡ x
    one_less x = omega (arith, ints)

    greatest_at : (q : ℤ) → int_eq q quotient ≡ is_greatest (pos d) n q
    greatest_at q =
        one_test {P = q ≡ quotient} (int_eq q quotient) (is_greatest (pos d) n q) (Decides-int_eq q quotient) (
          (λ h. let parts = both (int_le (pos d *ℤ q) n) (int_lt n (pos d *ℤ (q +ℤ pos 1))) h in greatest_same n q quotient (under (pos d *ℤ q) n parts.0) (below n (pos d *ℤ (q +ℤ pos 1)) parts.1) quotient_low quotient_high),
          (λ e. subst (λ k. is_greatest (pos d) n k ≡ true) (sym e) (and_true _ _ (is_under (pos d *ℤ quotient) n quotient_low) (is_below n (pos d *ℤ (quotient +ℤ pos 1)) quotient_high))),
        )

    least_test : (q e : ℤ) → Below (pos d *ℤ (e -ℤ pos 1)) n → Under n (pos d *ℤ e) → (b : Bool) → (b ≡ true → q ≡ e) × (q ≡ e → b ≡ true) → b ≡ is_least (pos d) n q
    least_test q e low high b test =
        one_test {P = q ≡ e} b (is_least (pos d) n q) test (
          (λ h. let parts = both (int_lt (pos d *ℤ (q -ℤ pos 1)) n) (int_le n (pos d *ℤ q)) h in least_same n q e (below (pos d *ℤ (q -ℤ pos 1)) n parts.0) (under n (pos d *ℤ q) parts.1) low high),
          (λ is. subst (λ k. is_least (pos d) n k ≡ true) (sym is) (and_true _ _ (is_below (pos d *ℤ (e -ℤ pos 1)) n low) (is_under n (pos d *ℤ e) high))),
        )

    less_below : Below (pos d *ℤ (quotient -ℤ pos 1)) (pos d *ℤ quotient)
    less_below =
        let x : ℤ = quotient -ℤ pos 1 in
        let more = one_more x in
        let is : x +ℤ pos 1 ≡ quotient = omega (arith, ints) in
        let same : pos d *ℤ quotient ≡ (pos d *ℤ x) +ℤ pos d = ap (λ k. pos d *ℤ k) (sym is) ∙ more in
        omega (arith, ap up same, ap down same, sum_is_lem (pos d *ℤ x) (pos d))

    least_at : (q : ℤ) → int_rem_euclid n (pos d) ≡ pos 0 → int_eq q quotient ≡ is_least (pos d) n q
    least_at q none =
        let is = quotient_exact none in
        least_test q quotient (subst (λ k. Below (pos d *ℤ (quotient -ℤ pos 1)) k) (sym is) less_below) (omega (arith, ap up is, ap down is)) (int_eq q quotient) (Decides-int_eq q quotient)

    least_after : (q : ℤ) → (int_rem_euclid n (pos d) ≡ pos 0 → ⊥) → int_eq (quotient +ℤ pos 1) q ≡ is_least (pos d) n q
    least_after q other =
        least_test q (quotient +ℤ pos 1) (subst (λ k. Below (pos d *ℤ k) n) (sym (one_less quotient)) (quotient_short other)) (omega (arith, quotient_high)) (int_eq (quotient +ℤ pos 1) q)
        ((λ h. sym ((Decides-int_eq (quotient +ℤ pos 1) q).0 h)), (λ e. (Decides-int_eq (quotient +ℤ pos 1) q).1 (sym e)))

-- what the code computes
pub greatest_is : (d n q : ℤ) → int_le (pos 1) d ≡ true → int_eq q (int_div_euclid n d) ≡ is_greatest d n q
greatest_is (pos d) n q h = greatest_at d (omega (arith, le-true (pos 1) (pos d) h)) n q
greatest_is (negsuc d) n q h = absurd (omega (arith, le-true (pos 1) (negsuc d) h))

pub least_is : (d n q : ℤ) → int_le (pos 1) d ≡ true → int_rem_euclid n d ≡ pos 0 → int_eq q (int_div_euclid n d) ≡ is_least d n q
least_is (pos d) n q h none = least_at d (omega (arith, le-true (pos 1) (pos d) h)) n q none
least_is (negsuc d) n q h none = absurd (omega (arith, le-true (pos 1) (negsuc d) h))

pub least_next : (d n q : ℤ) → int_le (pos 1) d ≡ true → (int_rem_euclid n d ≡ pos 0 → ⊥) → int_eq (int_div_euclid n d +ℤ pos 1) q ≡ is_least d n q
least_next (pos d) n q h other = least_after d (omega (arith, le-true (pos 1) (pos d) h)) n q other
least_next (negsuc d) n q h other = absurd (omega (arith, le-true (pos 1) (negsuc d) h))

-- what the bounds say of a number x
pub at_most_greatest : (d n q x : ℤ) → int_le (pos 1) d ≡ true → int_le (d *ℤ x) n ≡ true → is_greatest d n q ≡ true → int_le x q ≡ true
at_most_greatest (pos d) n q x h low is =
    let parts = both (int_le (pos d *ℤ q) n) (int_lt n (pos d *ℤ (q +ℤ pos 1))) is in
    let under_n = under (pos d *ℤ x) n low in
    let over_n = below n (pos d *ℤ (q +ℤ pos 1)) parts.1 in
    let less : Below x (q +ℤ pos 1) = crossing d (omega (arith, le-true (pos 1) (pos d) h)) x (q +ℤ pos 1) (omega (arith, under_n, over_n)) in
    is_under x q (omega (arith, less, sum_is_lem q (pos 1)))
at_most_greatest (negsuc d) n q x h low is = absurd (omega (arith, le-true (pos 1) (negsuc d) h))

pub at_least_least : (d n q x : ℤ) → int_le (pos 1) d ≡ true → int_le n (d *ℤ x) ≡ true → is_least d n q ≡ true → int_le q x ≡ true
at_least_least (pos d) n q x h high is =
    let parts = both (int_lt (pos d *ℤ (q -ℤ pos 1)) n) (int_le n (pos d *ℤ q)) is in
    let over_n = under n (pos d *ℤ x) high in
    let under_n = below (pos d *ℤ (q -ℤ pos 1)) n parts.0 in
    let more : Below (q -ℤ pos 1) x = crossing d (omega (arith, le-true (pos 1) (pos d) h)) (q -ℤ pos 1) x (omega (arith, under_n, over_n)) in
    is_under q x (omega (arith, more, sum_is_lem q (negsuc 0)))
at_least_least (negsuc d) n q x h high is = absurd (omega (arith, le-true (pos 1) (negsuc d) h))
