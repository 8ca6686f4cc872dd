-- A rotation joins two parts that share no binary digit, so that `|` adds them.
use Rattle.std.proofs.Common.{◌≡◌, ℕ, ◌+◌, ◌-◌, ◌*◌, ◌/◌, ◌%◌, ◌^◌, ◌<◌, ◌≤◌, ap, ◌∙◌, arith, add-zero}
use Rattle.std.specs.Int.Bits.{bit_or}
use Rattle.std.proofs.lemmas.Nat.{mod-pow-add, or_shifted, or_comm, shr_below, shl-shr}
use Rattle.std.proofs.Math.Nat.{mul-mod_left, add_comm}

-- the low j digits, moved up by k, are all that j + k digits keep
shifted-mod : (a j k : ℕ) → (a * 2 ^ k) % 2 ^ (j + k) ≡ a % 2 ^ j * 2 ^ k
shifted-mod a j k =
    mod-pow-add (a * 2 ^ k) j k ∙ ap (λ x. x % 2 ^ j * 2 ^ k + (a * 2 ^ k) % 2 ^ k) (shl-shr a k)
    ∙ ap (λ x. a % 2 ^ j * 2 ^ k + x) (mul-mod_left a (2 ^ k)) ∙ add-zero (a % 2 ^ j * 2 ^ k)

joined : (a j k : ℕ) → a < 2 ^ (k + j) → bit_or ((a * 2 ^ k) % 2 ^ (j + k)) (a / 2 ^ j) ≡ (a * 2 ^ k) % 2 ^ (j + k) + a / 2 ^ j
joined a j k h = rw (shifted-mod a j k) (or_shifted (a % 2 ^ j) k (a / 2 ^ j) (shr_below a k j h))

-- k digits go out at the top and in at the bottom
pub rotated : (n a k : ℕ) → a < 2 ^ n → k ≤ n → bit_or ((a * 2 ^ k) % 2 ^ n) (a / 2 ^ (n - k)) ≡ (a * 2 ^ k) % 2 ^ n + a / 2 ^ (n - k)
rotated n a k h l =
    let up : n ≡ n - k + k = omega arith in
    let down : n ≡ k + (n - k) = omega arith in
    let part = joined a (n - k) k (rw (← down) h) in
    rw (← up) at part

-- or the other way
pub rotated-right : (n a k : ℕ) → a < 2 ^ n → k ≤ n → bit_or (a / 2 ^ k) ((a * 2 ^ (n - k)) % 2 ^ n) ≡ a / 2 ^ k + (a * 2 ^ (n - k)) % 2 ^ n
rotated-right n a k h l =
    let up : n ≡ k + (n - k) = omega arith in
    let down : n ≡ n - k + k = omega arith in
    let part = joined a k (n - k) (rw (← down) h) in
    or_comm (a / 2 ^ k) ((a * 2 ^ (n - k)) % 2 ^ n) ∙ rw (← up) at part ∙ add_comm ((a * 2 ^ (n - k)) % 2 ^ n) (a / 2 ^ k)
