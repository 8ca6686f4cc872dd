-- Bytes and the numbers that they stand for.
use Rattle.std.proofs.Common.{◌≡◌, ℕ, zero, suc, ◌+◌, ◌*◌, ◌/◌, ◌%◌, ◌^◌, ◌<◌, ◌≤◌, List, [], ◌∷◌, ◌++◌, length, get_or, take, drop, replicate, refl, sym, ap, ap₂, ◌∙◌, arith}
use Rattle.std.specs.Int.{w64, from_le_bytes, to_le_bytes, bytes_low_first, byte_at}
use Rattle.std.proofs.Math.Nat.{div-div-eq-div-mul, pow-suc, div-one, mod-one, one-le-pow}
use Rattle.std.proofs.Math.Arith.{mod-mul}
use Rattle.std.proofs.lemmas.Nat.{mod_below}
use Rattle.wasm_values.specs.Operators.{number_of_bytes, bytes_of_number}

-- std's eight bytes, of which those past the given ones are 0
pub padded : (bytes : List ℕ) → length bytes ≤ 8 → from_le_bytes w64 (bytes ++ drop (length bytes) (replicate 8 0)) ≡ number_of_bytes bytes
padded [] l = omega arith
padded (a ∷ []) l = omega arith
padded (a ∷ b ∷ []) l = omega arith
padded (a ∷ b ∷ c ∷ []) l = omega arith
padded (a ∷ b ∷ c ∷ d ∷ []) l = omega arith
padded (a ∷ b ∷ c ∷ d ∷ e ∷ []) l = omega arith
padded (a ∷ b ∷ c ∷ d ∷ e ∷ f ∷ []) l = omega arith
padded (a ∷ b ∷ c ∷ d ∷ e ∷ f ∷ g ∷ []) l = omega arith
padded (a ∷ b ∷ c ∷ d ∷ e ∷ f ∷ g ∷ h ∷ []) l = omega arith
padded (a ∷ b ∷ c ∷ d ∷ e ∷ f ∷ g ∷ h ∷ i ∷ rest) l = absurd (omega arith)

-- std's bytes of a number, from a byte on
low_first : (i k n : ℕ) → bytes_low_first i k n ≡ bytes_of_number k (n / 256 ^ i)
low_first i zero n = refl
low_first i (suc k) n = ap₂ (λ x xs. x ∷ xs) (at i) (low_first (suc i) k n ∙ ap (bytes_of_number k) further)
  where
    at : (i : ℕ) → byte_at i n ≡ n / 256 ^ i % 256
    at zero = ap (λ x. x % 256) (sym (div-one n))
    at (suc i) = refl

    further : n / 256 ^ suc i ≡ n / 256 ^ i / 256
    further = ap (λ x. n / x) (pow-suc 256 i) ∙ sym (div-div-eq-div-mul n (256 ^ i) 256)

take-bytes_of_number : (j k n : ℕ) → j ≤ k → take j (bytes_of_number k n) ≡ bytes_of_number j n
take-bytes_of_number zero k n l = refl
take-bytes_of_number (suc j) zero n l = absurd (omega arith)
take-bytes_of_number (suc j) (suc k) n l = ap (λ xs. n % 256 ∷ xs) (take-bytes_of_number j k (n / 256) (omega arith))

pub taken : (k n : ℕ) → k ≤ 8 → take k (to_le_bytes w64 n) ≡ bytes_of_number k n
taken k n l = ap (take k) (low_first 0 8 n ∙ ap (bytes_of_number 8) (div-one n)) ∙ take-bytes_of_number k 8 n l

-- ---- laws for users

pub length-bytes_of_number : (k n : ℕ) → length (bytes_of_number k n) ≡ k
length-bytes_of_number zero n = refl
length-bytes_of_number (suc k) n = ap suc (length-bytes_of_number k (n / 256))

-- the bytes of a number stand for it, modulo 256 to the power of their count
pub number_of_bytes-bytes_of_number : (k n : ℕ) → number_of_bytes (bytes_of_number k n) ≡ n % 256 ^ k
number_of_bytes-bytes_of_number zero n = sym (mod-one n)
number_of_bytes-bytes_of_number (suc k) n =
    ap (λ x. n % 256 + 256 * x) (number_of_bytes-bytes_of_number k (n / 256)) ∙ sym (lowest k)
  where
    lowest : (k : ℕ) → n % 256 ^ suc k ≡ n % 256 + 256 * (n / 256 % 256 ^ k)
    lowest k = ap (λ m. n % m) (pow-suc 256 k) ∙ mod-mul n (one-le-pow k 256 (omega arith)) (omega arith) ∙ omega arith

-- bytes are the bytes of the number that they stand for
pub bytes_of_number-number_of_bytes : (bytes : List ℕ) → ((i : ℕ) → get_or bytes i 0 < 256) → bytes_of_number (length bytes) (number_of_bytes bytes) ≡ bytes
bytes_of_number-number_of_bytes [] h = refl
bytes_of_number-number_of_bytes (b ∷ bytes) h =
    let here : b < 256 = h 0 in
    let byte : (b + 256 * number_of_bytes bytes) % 256 ≡ b = omega arith in
    let rest : (b + 256 * number_of_bytes bytes) / 256 ≡ number_of_bytes bytes = omega arith in
    ap₂ (λ x xs. x ∷ xs) byte (ap (bytes_of_number (length bytes)) rest ∙ bytes_of_number-number_of_bytes bytes (λ i. h (suc i)))

pub number_of_bytes-lt : (bytes : List ℕ) → ((i : ℕ) → get_or bytes i 0 < 256) → number_of_bytes bytes < 256 ^ length bytes
number_of_bytes-lt [] h = omega arith
number_of_bytes-lt (b ∷ bytes) h = omega (arith, number_of_bytes-lt bytes (λ i. h (suc i)), h 0, pow-suc 256 (length bytes))

pub bytes_of_number-below : (k n i : ℕ) → get_or (bytes_of_number k n) i 0 < 256
bytes_of_number-below zero n i = omega arith
bytes_of_number-below (suc k) n zero = mod_below n 256 (omega arith)
bytes_of_number-below (suc k) n (suc i) = bytes_of_number-below k (n / 256) i
