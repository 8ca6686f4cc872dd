-- What the operators give lies in the range of their width.
use Rattle.std.proofs.Common.{◌≡◌, ℕ, zero, suc, ◌+◌, ◌-◌, ◌/◌, ◌%◌, ◌^◌, ◌<◌, ◌≤◌, Bool, true, false, cond, eqb, Some, None, ℤ, pos, negsuc, neg_ℤ, ◌≤ℤ◌, ◌<ℤ◌, int_div, int_rem, refl, inl, inr, ⊎_elim, arith}
use Rattle.std.specs.Prelude.{IfSome}
use Rattle.std.specs.Int.{int_shr}
use Rattle.std.proofs.lemmas.Int.{ints}
use Rattle.std.proofs.lemmas.Nat.{pow_pos, mod_below, shr_le, and_le_l, or_lt, xor_lt}
use Rattle.std.proofs.lemmas.Bool.{cond_both}
use Rattle.std.proofs.Math.Pow.{pow_mono}
use Rattle.std.proofs.Math.Nat.{div-le_self, mod-le}
use Rattle.wasm_values.specs.declared.number.IntOp.{IntOp}
use Rattle.wasm_values.specs.declared.number.IntOp.TheVariants.{Eqz, Eq, Ne, LtS, LtU, GtS, GtU, LeS, LeU, GeS, GeU, Clz, Ctz, Popcnt, Add, Sub, Mul, DivS, DivU, RemS, RemU, And, Or, Xor, Shl, ShrS, ShrU, Rotl, Rotr}
use Rattle.wasm_values.specs.declared.number.NumOp.{NumOp}
use Rattle.wasm_values.specs.declared.number.NumOp.TheVariants.{W32, W64, Wrap, ExtendS, ExtendU}
use Rattle.wasm_values.specs.Operators.{IsWidth, signed, unsigned, truth, count_positions, unary, binary, quotient, remainder, num_width, num_unary, num_binary, width_of, result_type, sign_extended}
use Rattle.wasm_values.proofs.SignedLemmas.{twice-half, signed-cases, overflow, quotient-range, remainder-range, no-overflow}
use Rattle.wasm_values.proofs.WidthLemmas.{width-positive}
use Rattle.wasm_values.proofs.RotationLemmas.{rotated, rotated-right}

truth-le : (b : Bool) → truth b ≤ 1
truth-le true = omega arith
truth-le false = omega arith

count_positions-le : (n : ℕ) (p : ℕ → Bool) → count_positions n p ≤ n
unfolding count_positions
count_positions-le zero p = omega arith
count_positions-le (suc n) p = omega (arith, count_positions-le n p, truth-le (p n))

width-below : (n : ℕ) → IsWidth n → n < 2 ^ n
width-below n (inl e) = rw e (omega arith)
width-below n (inr e) = rw e (omega arith)

width-above : (n : ℕ) → IsWidth n → 32 ≤ n
width-above n (inl e) = omega arith
width-above n (inr e) = omega arith

truth-lt : (n : ℕ) (b : Bool) → IsWidth n → truth b < 2 ^ n
truth-lt n b w =
    let large : 2 ^ 32 ≤ 2 ^ n = pow_mono (width-above n w) in
    omega (arith, truth-le b)

-- ---- signed readings

unsigned-lt : (n : ℕ) (z : ℤ) → 0 < n → neg_ℤ (pos (2 ^ (n - 1))) ≤ℤ z → z <ℤ pos (2 ^ (n - 1)) → unsigned n z < 2 ^ n
unsigned-lt n (pos k) w low high = omega (arith, ints, twice-half n w)
unsigned-lt n (negsuc k) w low high = omega (arith, ints, twice-half n w, pow_pos n)

pub signed-low : (n a : ℕ) → 0 < n → a < 2 ^ n → neg_ℤ (pos (2 ^ (n - 1))) ≤ℤ signed n a
signed-low n a w h =
    ⊎_elim (λ (l : (a < 2 ^ (n - 1)) × (signed n a ≡ pos a)). rw l.1 (omega (arith, ints)))
    (λ (l : (2 ^ (n - 1) ≤ a) × (signed n a ≡ negsuc (2 ^ n - a - 1))). rw l.1 (omega (arith, ints, twice-half n w, pow_pos (n - 1))))
    (signed-cases n a h)

pub signed-high : (n a : ℕ) → 0 < n → a < 2 ^ n → signed n a <ℤ pos (2 ^ (n - 1))
signed-high n a w h =
    ⊎_elim (λ (l : (a < 2 ^ (n - 1)) × (signed n a ≡ pos a)). rw l.1 (omega (arith, ints)))
    (λ (l : (2 ^ (n - 1) ≤ a) × (signed n a ≡ negsuc (2 ^ n - a - 1))). rw l.1 (omega (arith, ints, pow_pos (n - 1))))
    (signed-cases n a h)

shifted-range : (h : ℕ) (x : ℤ) (k : ℕ) → neg_ℤ (pos h) ≤ℤ x → x <ℤ pos h → (neg_ℤ (pos h) ≤ℤ int_shr x k) × (int_shr x k <ℤ pos h)
shifted-range h (pos a) k low high = (omega (arith, ints), omega (arith, ints, shr_le a k))
shifted-range h (negsuc a) k low high = (omega (arith, ints, shr_le a k), omega (arith, ints))

quotient-lt : (n a b : ℕ) → IsWidth n → a < 2 ^ n → b < 2 ^ n → IfSome (quotient n a b) (λ r. r < 2 ^ n)
quotient-lt n a b w ha hb =
    cond_both (eqb b 0) None _ (λ o. IfSome o (λ r. r < 2 ^ n)) (λ e. tt)
    (λ e. cond_both (overflow n a b) None _ (λ o. IfSome o (λ r. r < 2 ^ n)) (λ f. tt) (λ held.
    let r = quotient-range (2 ^ (n - 1)) (signed n a) (signed n b) (pow_pos (n - 1)) (signed-low n a (width-positive n w) ha) (signed-high n a (width-positive n w) ha) (no-overflow n a b w ha hb held) in
    unsigned-lt n (int_div (signed n a) (signed n b)) (width-positive n w) r.0 r.1))

remainder-lt : (n a b : ℕ) → IsWidth n → a < 2 ^ n → IfSome (remainder n a b) (λ r. r < 2 ^ n)
remainder-lt n a b w ha =
    cond_both (eqb b 0) None _ (λ o. IfSome o (λ r. r < 2 ^ n)) (λ e. tt) (λ e.
    let r = remainder-range (2 ^ (n - 1)) (signed n a) (signed n b) (pow_pos (n - 1)) (signed-low n a (width-positive n w) ha) (signed-high n a (width-positive n w) ha) in
    unsigned-lt n (int_rem (signed n a) (signed n b)) (width-positive n w) r.0 r.1)

-- ---- operators of either width

pub unary-lt : (n : ℕ) (op : IntOp) (a : ℕ) → IsWidth n → unary n op a < 2 ^ n
unary-lt n Eqz a w = truth-lt n _ w
unary-lt n Clz a w = omega (arith, count_positions-le n (λ k. eqb (a / 2 ^ k) 0), width-below n w)
unary-lt n Ctz a w = omega (arith, count_positions-le n (λ k. eqb (a % 2 ^ (k + 1)) 0), width-below n w)
unary-lt n Popcnt a w = omega (arith, count_positions-le n (λ k. eqb (a / 2 ^ k % 2) 1), width-below n w)
unary-lt n _ a w = pow_pos n

divided-lt : (n a b q : ℕ) → a < 2 ^ n → q ≤ a → IfSome (cond (eqb b 0) None (Some q)) (λ r. r < 2 ^ n)
divided-lt n a b q h l = cond_both (eqb b 0) None (Some q) (λ o. IfSome o (λ r. r < 2 ^ n)) (λ e. tt) (λ e. omega arith)

pub binary-lt : (n : ℕ) (op : IntOp) (a b : ℕ) → IsWidth n → a < 2 ^ n → b < 2 ^ n → IfSome (binary n op a b) (λ r. r < 2 ^ n)
binary-lt n Eq a b w ha hb = truth-lt n _ w
binary-lt n Ne a b w ha hb = truth-lt n _ w
binary-lt n LtS a b w ha hb = truth-lt n _ w
binary-lt n LtU a b w ha hb = truth-lt n _ w
binary-lt n GtS a b w ha hb = truth-lt n _ w
binary-lt n GtU a b w ha hb = truth-lt n _ w
binary-lt n LeS a b w ha hb = truth-lt n _ w
binary-lt n LeU a b w ha hb = truth-lt n _ w
binary-lt n GeS a b w ha hb = truth-lt n _ w
binary-lt n GeU a b w ha hb = truth-lt n _ w
binary-lt n Add a b w ha hb = mod_below _ _ (pow_pos n)
binary-lt n Sub a b w ha hb = mod_below _ _ (pow_pos n)
binary-lt n Mul a b w ha hb = mod_below _ _ (pow_pos n)
binary-lt n DivS a b w ha hb = quotient-lt n a b w ha hb
binary-lt n DivU a b w ha hb = divided-lt n a b (a / b) ha (div-le_self a b)
binary-lt n RemS a b w ha hb = remainder-lt n a b w ha
binary-lt n RemU a b w ha hb = divided-lt n a b (a % b) ha (mod-le a b)
binary-lt n And a b w ha hb = omega (arith, and_le_l a b)
binary-lt n Or a b w ha hb = or_lt n a b ha hb
binary-lt n Xor a b w ha hb = xor_lt n a b ha hb
binary-lt n Shl a b w ha hb = mod_below _ _ (pow_pos n)
binary-lt n ShrS a b w ha hb =
    let r = shifted-range (2 ^ (n - 1)) (signed n a) (b % n) (signed-low n a (width-positive n w) ha) (signed-high n a (width-positive n w) ha) in
    unsigned-lt n (int_shr (signed n a) (b % n)) (width-positive n w) r.0 r.1
binary-lt n ShrU a b w ha hb = omega (arith, shr_le a (b % n))
binary-lt n Rotl a b w ha hb =
    let k : b % n < n = mod_below b n (omega (arith, width-above n w)) in
    let low : a / 2 ^ (n - b % n) < 2 ^ n = omega (arith, shr_le a (n - b % n)) in
    rw (← rotated n a (b % n) ha (omega arith)) (or_lt n _ _ (mod_below _ _ (pow_pos n)) low)
binary-lt n Rotr a b w ha hb =
    let k : b % n < n = mod_below b n (omega (arith, width-above n w)) in
    let low : a / 2 ^ (b % n) < 2 ^ n = omega (arith, shr_le a (b % n)) in
    rw (← rotated-right n a (b % n) ha (omega arith)) (or_lt n _ _ low (mod_below _ _ (pow_pos n)))
binary-lt n _ a b w ha hb = tt

-- ---- numeric instructions

pub sign_extended-lt : (from to a : ℕ) → 0 < from → from ≤ to → a < 2 ^ from → sign_extended from to a < 2 ^ to
sign_extended-lt from to a p l h =
    let half : 2 ^ (from - 1) ≤ 2 ^ (to - 1) = pow_mono (omega arith) in
    unsigned-lt to (signed from a) (omega arith) (omega (arith, ints, signed-low from a p h)) (omega (arith, ints, signed-high from a p h))

pub num_unary-lt : (op : NumOp) (a : ℕ) → a < 2 ^ num_width op → num_unary op a < 2 ^ width_of (result_type op)
num_unary-lt (W32 op) a h = unary-lt 32 op a (inl refl)
num_unary-lt (W64 Eqz) a h = truth-lt 32 _ (inl refl)
num_unary-lt (W64 Clz) a h = unary-lt 64 Clz a (inr refl)
num_unary-lt (W64 Ctz) a h = unary-lt 64 Ctz a (inr refl)
num_unary-lt (W64 Popcnt) a h = unary-lt 64 Popcnt a (inr refl)
num_unary-lt (W64 _) a h = omega arith
num_unary-lt Wrap a h = mod_below _ _ (pow_pos 32)
num_unary-lt ExtendS a h = sign_extended-lt 32 64 a (omega arith) (omega arith) h
num_unary-lt ExtendU a h = omega arith

-- a test at 64 bits gives a number of 32
wide-lt : (op : IntOp) (a b : ℕ) → a < 2 ^ 64 → b < 2 ^ 64 → IfSome (binary 64 op a b) (λ r. r < 2 ^ width_of (result_type (W64 op)))
wide-lt Eq a b ha hb = truth-lt 32 _ (inl refl)
wide-lt Ne a b ha hb = truth-lt 32 _ (inl refl)
wide-lt LtS a b ha hb = truth-lt 32 _ (inl refl)
wide-lt LtU a b ha hb = truth-lt 32 _ (inl refl)
wide-lt GtS a b ha hb = truth-lt 32 _ (inl refl)
wide-lt GtU a b ha hb = truth-lt 32 _ (inl refl)
wide-lt LeS a b ha hb = truth-lt 32 _ (inl refl)
wide-lt LeU a b ha hb = truth-lt 32 _ (inl refl)
wide-lt GeS a b ha hb = truth-lt 32 _ (inl refl)
wide-lt GeU a b ha hb = truth-lt 32 _ (inl refl)
wide-lt Eqz a b ha hb = tt
wide-lt op a b ha hb = binary-lt 64 op a b (inr refl) ha hb

pub num_binary-lt : (op : NumOp) (a b : ℕ) → a < 2 ^ num_width op → b < 2 ^ num_width op → IfSome (num_binary op a b) (λ r. r < 2 ^ width_of (result_type op))
num_binary-lt (W32 op) a b ha hb = binary-lt 32 op a b (inl refl) ha hb
num_binary-lt (W64 op) a b ha hb = wide-lt op a b ha hb
num_binary-lt _ a b ha hb = tt
