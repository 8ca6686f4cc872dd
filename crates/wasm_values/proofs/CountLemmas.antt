-- Counts of positions, and the three counts of binary digits as std's methods make them.
use Rattle.std.proofs.Common.{◌≡◌, ℕ, zero, suc, ◌+◌, ◌-◌, ◌*◌, ◌/◌, ◌%◌, ◌^◌, ◌<◌, ◌≤◌, min, Bool, true, false, eqb, refl, sym, ap, ◌∙◌, ◌⊎◌, inl, inr, ⊎_elim, arith}
use Rattle.std.specs.Int.Count.{ones, ones_cat, ones_in, count_leading_zeros, count_trailing_zeros, under, leading_length}
use Rattle.std.proofs.lemmas.Nat.{pow_pos, mod-pow-add, mod_below}
use Rattle.std.proofs.lemmas.Bool.{cases_lt, eq-eqb, ne_eqb}
use Rattle.std.proofs.Math.Pow.{pow_mono}
use Rattle.std.proofs.Math.Nat.{pow-suc, div-lt_iff_lt-mul, mod-eq_of_lt, mod-one}
use Rattle.wasm_values.specs.Operators.{count_positions, truth, leading_zeros_of, trailing_zeros_of, ones_of}

-- a test that holds from the position m on passes at all others
pub count-from : (n m : ℕ) (p : ℕ → Bool) → ((k : ℕ) → k < m → p k ≡ false) → ((k : ℕ) → m ≤ k → p k ≡ true) → count_positions n p ≡ n - m
unfolding count_positions
count-from zero m p below above = omega arith
count-from (suc n) m p below above =
    let rest = count-from n m p below above in
    ⊎_elim (λ (h : n < m). rw (below n h) (omega arith)) (λ (h : m ≤ n). rw (above n h) (omega arith)) (cases_lt n m)

-- a test that holds below the position t alone passes there
pub count-below : (n t : ℕ) (p : ℕ → Bool) → ((k : ℕ) → k < t → p k ≡ true) → ((k : ℕ) → t ≤ k → k < n → p k ≡ false) → count_positions n p ≡ min t n
unfolding count_positions
count-below zero t p below above = omega arith
count-below (suc n) t p below above =
    let rest = count-below n t p below (λ k h l. above k h (omega arith)) in
    ⊎_elim (λ (h : n < t). rw (below n h) (omega arith)) (λ (h : t ≤ n). rw (above n h (omega arith)) (omega arith)) (cases_lt n t)

-- ---- zeros above all ones

pub quotient-zero : (a k : ℕ) → a < 2 ^ k → a / 2 ^ k ≡ 0
quotient-zero a k h = omega (arith, (div-lt_iff_lt-mul {x = a} {y = 1} (pow_pos k)).1 (omega arith))

below-power : (a k : ℕ) → a / 2 ^ k ≡ 0 → a < 2 ^ k
below-power a k e = omega (arith, (div-lt_iff_lt-mul {x = a} {y = 1} (pow_pos k)).0 (omega arith))

-- a number of m digits has only zeros from m on, and a one at its highest digit
digits-above : (a m k : ℕ) → a < 2 ^ m → m ≤ k → eqb (a / 2 ^ k) 0 ≡ true
digits-above a m k h l = eq-eqb _ _ (quotient-zero a k (omega (arith, pow_mono l)))

digits-below : (a m k : ℕ) → 2 ^ m ≤ 2 * a + 1 → k < m → eqb (a / 2 ^ k) 0 ≡ false
digits-below a m k h l =
    ne_eqb _ _ (λ e.
    let small : a < 2 ^ k = below-power a k e in
    let longer : 2 ^ suc k ≤ 2 ^ m = pow_mono (omega arith) in
    absurd (omega (arith, pow-suc 2 k)))

-- a number below 2 ^ n has at most n digits
length-within : (a m n : ℕ) → 2 ^ m ≤ 2 * a + 1 → a < 2 ^ n → m ≤ n
length-within a m n h l =
    ⊎_elim (λ (g : n < m).
    let longer : 2 ^ suc n ≤ 2 ^ m = pow_mono (omega arith) in
    absurd (omega (arith, pow-suc 2 n))) (λ (g : m ≤ n). g) (cases_lt n m)

-- std counts the zeros of a number of w digits: those beyond n are no digits of a number below 2 ^ n
pub leading-within : (w n a : ℕ) → n ≤ w → a < 2 ^ n → w - n ≤ count_leading_zeros w a
leading-within w n a within h =
    let fits : 2 ^ n ≤ 2 ^ w = pow_mono within in
    let s = leading_length w a (omega arith) in
    omega (arith, s.1, length-within a s.0 n s.3 h)

pub leading-is : (w n a : ℕ) → n ≤ w → a < 2 ^ n → count_leading_zeros w a - (w - n) ≡ leading_zeros_of n a
leading-is w n a within h =
    let fits : 2 ^ n ≤ 2 ^ w = pow_mono within in
    let s = leading_length w a (omega arith) in
    let counted : leading_zeros_of n a ≡ n - s.0 =
    count-from n s.0 (λ k. eqb (a / 2 ^ k) 0) (λ k l. digits-below a s.0 k s.3 l) (λ k l. digits-above a s.0 k s.2 l) in
    omega (arith, s.1, counted, length-within a s.0 n s.3 h)

-- ---- zeros below all ones

under-below : (d t k : ℕ) → k < under d t → (d ≡ 0) × (k ≤ t)
under-below zero t k h = (refl, omega arith)
under-below (suc d) t k h = absurd (omega arith)

under-above : (d t k : ℕ) → under d t ≤ k → ((d ≡ 0) × (suc t ≤ k)) ⊎ (0 < d)
under-above zero t k h = inl (refl, h)
under-above (suc d) t k h = inr (omega arith)

-- the lowest k + 1 digits: the lowest, and k of the half
digits-half : (a k : ℕ) → a % 2 ^ (k + 1) ≡ a / 2 % 2 ^ k * 2 + a % 2
digits-half a k = mod-pow-add a k 1

-- all digits below std's count are zeros, and the digit at it is a one
lowest-zero : (n a k : ℕ) → k < count_trailing_zeros n a → a % 2 ^ (k + 1) ≡ 0
unfolding count_trailing_zeros
lowest-zero zero a k h = absurd (omega arith)
lowest-zero (suc n) a zero h = (under-below (a % 2) (count_trailing_zeros n (a / 2)) zero h).0
lowest-zero (suc n) a (suc k) h =
    let even = under-below (a % 2) (count_trailing_zeros n (a / 2)) (suc k) h in
    let rest : a / 2 % 2 ^ (k + 1) ≡ 0 = lowest-zero n (a / 2) k (omega (arith, even.1)) in
    let same : suc k ≡ k + 1 = omega arith in
    rw same (omega (arith, digits-half a (k + 1), even.0, rest))

lowest-one : (n a k : ℕ) → count_trailing_zeros n a ≤ k → k < n → a % 2 ^ (k + 1) ≡ 0 → ⊥
unfolding count_trailing_zeros
lowest-one zero a k h l e = omega arith
lowest-one (suc n) a k h l e =
    ⊎_elim (λ (even : (a % 2 ≡ 0) × (suc (count_trailing_zeros n (a / 2)) ≤ k)). lowest-one-half n a k even.0 even.1 l e (lowest-one n (a / 2)))
    (λ (odd : 0 < a % 2). omega (arith, digits-half a k)) (under-above (a % 2) (count_trailing_zeros n (a / 2)) k h)
  where
    lowest-one-half : (n a k : ℕ) → a % 2 ≡ 0 → suc (count_trailing_zeros n (a / 2)) ≤ k → k < suc n → a % 2 ^ (k + 1) ≡ 0
        → ((j : ℕ) → count_trailing_zeros n (a / 2) ≤ j → j < n → a / 2 % 2 ^ (j + 1) ≡ 0 → ⊥) → ⊥
    lowest-one-half n a zero even h l e rest = omega arith
    lowest-one-half n a (suc j) even h l e rest =
        let same : suc j ≡ j + 1 = omega arith in
        let e' = rw same at e in
        rest j (omega arith) (omega arith) (omega (arith, digits-half a (j + 1), e'))

pub trailing-is : (w n a : ℕ) → n ≤ w → min (count_trailing_zeros w a) n ≡ trailing_zeros_of n a
trailing-is w n a within =
    sym (count-below n (count_trailing_zeros w a) (λ k. eqb (a % 2 ^ (k + 1)) 0) (λ k h. eq-eqb _ _ (lowest-zero w a k h))
    (λ k h l. ne_eqb _ _ (lowest-one w a k h (omega arith))))

-- ---- ones

ones_digit : (d : ℕ) → d < 2 → ones d ≡ truth (eqb d 1)
unfolding ones ones_in
ones_digit zero h = refl
ones_digit (suc zero) h = refl
ones_digit (suc (suc d)) h = absurd (omega arith)

ones-below : (n a : ℕ) → ones_of n a ≡ ones (a % 2 ^ n)
unfolding count_positions ones ones_in
ones-below zero a = sym (ap ones (mod-one a))
ones-below (suc n) a =
    let same : suc n ≡ 1 + n = omega arith in
    let split : ones (a % 2 ^ (1 + n)) ≡ ones (a / 2 ^ n % 2) + ones (a % 2 ^ n) =
    ap ones (mod-pow-add a 1 n) ∙ ones_cat n (a / 2 ^ n % 2) (a % 2 ^ n) (mod_below a (2 ^ n) (pow_pos n)) in
    rw same (omega (arith, split, ones-below n a, ones_digit (a / 2 ^ n % 2) (mod_below (a / 2 ^ n) 2 (omega arith))))

pub ones-is : (n a : ℕ) → a < 2 ^ n → ones a ≡ ones_of n a
ones-is n a h = ap ones (sym (mod-eq_of_lt h)) ∙ sym (ones-below n a)
