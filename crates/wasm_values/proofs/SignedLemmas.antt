-- The signed reading of a number, and its range under division.
use Rattle.std.proofs.Common.{◌≡◌, ℕ, zero, suc, ◌+◌, ◌-◌, ◌/◌, ◌^◌, ◌<◌, ◌≤◌, Bool, false, ltb, eqb, ℤ, pos, negsuc, neg_ℤ, ◌≤ℤ◌, ◌<ℤ◌, int_div, int_rem, unsigned_abs, Some, None, SFits, to_z, of_z, ◌&&◌, refl, sym, ap, ap₂, ◌∙◌, subst, ◌⊎◌, inl, inr, ⊎_elim, arith}
use Rattle.std.specs.Int.{w64}
use Rattle.std.proofs.lemmas.Int.{ints, quot_is, to_z-of_z}
use Rattle.std.proofs.lemmas.Nat.{pow_pos}
use Rattle.std.proofs.lemmas.Bool.{cases_lt, cases_eq, cond-true, cond-false, lt-ltb, le-ltb, eq-eqb, ne_eqb, and_from, both_ways}
use Rattle.std.proofs.Math.Nat.{div-le_self, div-lt_self, mod-le, pow-suc}
use Rattle.std.proofs.Math.Pow.{pow_mono}
use Rattle.wasm_values.proofs.WidthLemmas.{width-positive}
use Rattle.wasm_values.proofs.CountLemmas.{quotient-zero}
use Rattle.wasm_values.specs.Operators.{IsWidth, signed, unsigned, quotient, remainder, sign_extended}

-- half of the range, twice
pub twice-half : (n : ℕ) → 0 < n → 2 ^ n ≡ 2 ^ (n - 1) + 2 ^ (n - 1)
twice-half n p =
    let next : n ≡ suc (n - 1) = omega arith in
    ap (λ k. 2 ^ k) next ∙ omega (arith, pow-suc 2 (n - 1))

-- a number of the lower half reads as itself, and one of the upper half as less by the whole range
pub signed-cases : (n a : ℕ) → a < 2 ^ n → ((a < 2 ^ (n - 1)) × (signed n a ≡ pos a)) ⊎ ((2 ^ (n - 1) ≤ a) × (signed n a ≡ negsuc (2 ^ n - a - 1)))
signed-cases n a h =
    ⊎_elim (λ (l : a < 2 ^ (n - 1)). inl (l, cond-true (ltb a (2 ^ (n - 1))) _ _ (lt-ltb _ _ l)))
    (λ (l : 2 ^ (n - 1) ≤ a). inr (l, cond-false (ltb a (2 ^ (n - 1))) _ _ (le-ltb _ _ l) ∙ omega (arith, ints)))
    (cases_lt a (2 ^ (n - 1)))

-- the quotients and remainders of a dividend from -h up to h
pub quotient-range : (h : ℕ) (x y : ℤ) → 0 < h → neg_ℤ (pos h) ≤ℤ x → x <ℤ pos h → (x ≡ neg_ℤ (pos h) → y ≡ negsuc 0 → ⊥)
    → (neg_ℤ (pos h) ≤ℤ int_div x y) × (int_div x y <ℤ pos h)
quotient-range h (pos a) (pos b) p low high other = (omega (arith, ints), omega (arith, ints, div-le_self a b))
quotient-range h (pos a) (negsuc b) p low high other = (omega (arith, ints, div-le_self a (suc b)), omega (arith, ints))
quotient-range h (negsuc a) (pos b) p low high other = (omega (arith, ints, div-le_self (suc a) b), omega (arith, ints))
quotient-range h (negsuc a) (negsuc zero) p low high other = (
  omega (arith, ints),
  ⊎_elim (λ (e : suc a ≡ h). absurd (other (subst (λ k. negsuc a ≡ neg_ℤ (pos k)) e refl) refl))
      (λ (ne : suc a ≡ h → ⊥). omega (arith, ints)) (cases_eq (suc a) h),
)
quotient-range h (negsuc a) (negsuc (suc b)) p low high other =
    let less : suc a / suc (suc b) < suc a = div-lt_self (omega arith) (omega arith) in
    (omega (arith, ints), omega (arith, ints))

pub remainder-range : (h : ℕ) (x y : ℤ) → 0 < h → neg_ℤ (pos h) ≤ℤ x → x <ℤ pos h
    → (neg_ℤ (pos h) ≤ℤ int_rem x y) × (int_rem x y <ℤ pos h)
remainder-range h (pos a) y p low high = (omega (arith, ints), omega (arith, ints, mod-le a (unsigned_abs y)))
remainder-range h (negsuc a) y p low high = (omega (arith, ints, mod-le (suc a) (unsigned_abs y)), omega (arith, ints))

-- ---- as the code divides at 64 bits

-- a reading of 32 or 64 bits is one of 64 bits
half-within : (n : ℕ) → IsWidth n → 2 ^ (n - 1) ≤ 2 ^ 63
half-within n (inl e) = rw e (omega arith)
half-within n (inr e) = rw e (omega arith)

fits : (h : ℕ) (z : ℤ) → h ≤ 2 ^ 63 → neg_ℤ (pos h) ≤ℤ z → z <ℤ pos h → SFits w64 z
fits h (pos k) within low high = record { sfits = omega (arith, ints) }
fits h (negsuc k) within low high = record { sfits = omega (arith, ints) }

-- x is the signed reading of a
pub record Reads (n a : ℕ) (x : ℤ) : Type 0 where
  pub below : a < 2 ^ n
  pub value : x ≡ signed n a
  pub low : neg_ℤ (pos (2 ^ (n - 1))) ≤ℤ x
  pub high : x <ℤ pos (2 ^ (n - 1))

reads-fits : (n a : ℕ) (x : ℤ) → IsWidth n → Reads n a x → SFits w64 x
reads-fits n a x w r = fits (2 ^ (n - 1)) x (half-within n w) r.low r.high

-- the least reading, and -1
pub least-from : (n a : ℕ) → IsWidth n → a < 2 ^ n → signed n a ≡ neg_ℤ (pos (2 ^ (n - 1))) → a ≡ 2 ^ (n - 1)
least-from n a w h e =
    ⊎_elim (λ (l : (a < 2 ^ (n - 1)) × (signed n a ≡ pos a)). let same : pos a ≡ neg_ℤ (pos (2 ^ (n - 1))) = sym l.1 ∙ e in omega (arith, ints, pow_pos (n - 1)))
    (λ (l : (2 ^ (n - 1) ≤ a) × (signed n a ≡ negsuc (2 ^ n - a - 1))). let same : negsuc (2 ^ n - a - 1) ≡ neg_ℤ (pos (2 ^ (n - 1))) = sym l.1 ∙ e in omega (arith, ints, twice-half n (width-positive n w)))
    (signed-cases n a h)

pub minus_one-from : (n b : ℕ) → b < 2 ^ n → signed n b ≡ negsuc 0 → b ≡ 2 ^ n - 1
minus_one-from n b h e =
    ⊎_elim (λ (l : (b < 2 ^ (n - 1)) × (signed n b ≡ pos b)). let same : pos b ≡ negsuc 0 = sym l.1 ∙ e in omega (arith, ints))
    (λ (l : (2 ^ (n - 1) ≤ b) × (signed n b ≡ negsuc (2 ^ n - b - 1))). let same : negsuc (2 ^ n - b - 1) ≡ negsuc 0 = sym l.1 ∙ e in omega (arith, ints))
    (signed-cases n b h)

abbrev pub overflow : ℕ → ℕ → ℕ → Bool
overflow n a b = eqb a (2 ^ (n - 1)) && eqb b (2 ^ n - 1)

pub no-overflow : (n a b : ℕ) → IsWidth n → a < 2 ^ n → b < 2 ^ n → overflow n a b ≡ false → signed n a ≡ neg_ℤ (pos (2 ^ (n - 1))) → signed n b ≡ negsuc 0 → ⊥
no-overflow n a b w ha hb held e f =
    both_ways (overflow n a b) held (and_from _ _ (eq-eqb _ _ (least-from n a w ha e)) (eq-eqb _ _ (minus_one-from n b hb f)))

-- the quotient that the code makes
abbrev pub as_divided : ℤ → ℤ → ℤ
as_divided x y = to_z w64 (of_z w64 (int_div (to_z w64 (of_z w64 x)) (to_z w64 (of_z w64 y))))

module _ (n a b : ℕ) (x y : ℤ) (w : IsWidth n) (r : Reads n a x) (s : Reads n b y) (held : overflow n a b ≡ false) where
  range : (neg_ℤ (pos (2 ^ (n - 1))) ≤ℤ int_div x y) × (int_div x y <ℤ pos (2 ^ (n - 1)))
  range = quotient-range (2 ^ (n - 1)) x y (pow_pos (n - 1)) r.low r.high (λ e f. no-overflow n a b w r.below s.below held (sym r.value ∙ e) (sym s.value ∙ f))

  divided-is : as_divided x y ≡ int_div x y
  divided-is = quot_is w64 x y (reads-fits n a x w r) (reads-fits n b y w s) (fits (2 ^ (n - 1)) (int_div x y) (half-within n w) range.0 range.1)

  pub divided-low : neg_ℤ (pos (2 ^ (n - 1))) ≤ℤ as_divided x y
  divided-low = rw divided-is range.0

  pub divided-high : as_divided x y <ℤ pos (2 ^ (n - 1))
  divided-high = rw divided-is range.1

  pub quotient-is : (v : ℕ) → (b ≡ 0 → ⊥) → v ≡ unsigned n (as_divided x y) → Some v ≡ quotient n a b
  quotient-is v nonzero e =
      ap Some (e ∙ ap (unsigned n) (divided-is ∙ ap₂ int_div r.value s.value))
      ∙ sym (cond-false (eqb b 0) None _ (ne_eqb b 0 nonzero) ∙ cond-false (overflow n a b) None _ held)

-- the remainder that the code makes
module _ (n a b : ℕ) (x y z : ℤ) (w : IsWidth n) (r : Reads n a x) (s : Reads n b y) (f : SFits w64 z) (e : z ≡ int_rem (to_z w64 (of_z w64 x)) (to_z w64 (of_z w64 y))) where
  rest-is : to_z w64 (of_z w64 z) ≡ int_rem x y
  rest-is = to_z-of_z w64 z f ∙ e ∙ ap₂ int_rem (to_z-of_z w64 x (reads-fits n a x w r)) (to_z-of_z w64 y (reads-fits n b y w s))

  rest-range : (neg_ℤ (pos (2 ^ (n - 1))) ≤ℤ int_rem x y) × (int_rem x y <ℤ pos (2 ^ (n - 1)))
  rest-range = remainder-range (2 ^ (n - 1)) x y (pow_pos (n - 1)) r.low r.high

  pub rest-low : neg_ℤ (pos (2 ^ (n - 1))) ≤ℤ to_z w64 (of_z w64 z)
  rest-low = rw rest-is rest-range.0

  pub rest-high : to_z w64 (of_z w64 z) <ℤ pos (2 ^ (n - 1))
  rest-high = rw rest-is rest-range.1

  pub remainder-is : (v : ℕ) → (b ≡ 0 → ⊥) → v ≡ unsigned n (to_z w64 (of_z w64 z)) → Some v ≡ remainder n a b
  remainder-is v nonzero h =
      ap Some (h ∙ ap (unsigned n) (rest-is ∙ ap₂ int_rem r.value s.value)) ∙ sym (cond-false (eqb b 0) None _ (ne_eqb b 0 nonzero))

-- ---- sign extension

-- a number whose highest digit is set gains the digits above it
pub sign_extended-high : (from to a r : ℕ) → 0 < from → from ≤ to → a < 2 ^ from → (a / 2 ^ (from - 1) ≡ 0 → ⊥) → r ≡ a + (2 ^ to - 1 - (2 ^ from - 1)) → r ≡ sign_extended from to a
sign_extended-high from to a r p l h set e =
    let longer : 2 ^ from ≤ 2 ^ to = pow_mono l in
    ⊎_elim (λ (small : (a < 2 ^ (from - 1)) × (signed from a ≡ pos a)). absurd (set (quotient-zero a (from - 1) small.0)))
    (λ (large : (2 ^ (from - 1) ≤ a) × (signed from a ≡ negsuc (2 ^ from - a - 1))).
    let goal : r ≡ 2 ^ to - (2 ^ from - a - 1 + 1) = omega arith in
    goal ∙ sym (ap (unsigned to) large.1))
    (signed-cases from a h)
