-- The texts of numbers spell them.
use Rattle.std.proofs.Common.{◌≡◌, ℕ, zero, suc, ◌+◌, ◌-◌, ◌*◌, ◌/◌, ◌%◌, ◌^◌, ◌<◌, ◌≤◌, Bool, true, false, cond, ltb, List, [], ◌∷◌, length, refl, sym, ap, ◌∙◌, arith, lit≤, ℤ, pos, negsuc}
use Rattle.std.proofs.lemmas.Bool.{ltb-true, ltb-false, lt-ltb, le-ltb}
use Rattle.std.proofs.lemmas.Nat.{pow-add}
use Rattle.std.proofs.Math.Nat.{pow-succ'}
use Rattle.binary_grammar.specs.Numbers.{AreDigits, base_128, twos_complement, SpellsU32}
use Rattle.binary_grammar.specs.CodeGrammar.{SpellsWord32, SpellsWord64}
use Rattle.wasm_write.specs.Shortest.{low_digit, digits, number_text, signed_text}

digits-cons : (b : ℕ) (text : List ℕ) → 128 ≤ b → AreDigits text → AreDigits (b ∷ text)
digits-cons b [] le h = absurd h
digits-cons b (c ∷ cs) le h = (le, h)

small-digit : (negative : Bool) (n : ℕ) → low_digit negative n < 128
small-digit false n = omega arith
small-digit true n = omega arith

-- what holds of digits, where the number is small enough for as many
pub record Digits (negative : Bool) (bound n : ℕ) (text : List ℕ) : Type 0 where
  pub are : AreDigits text
  pub more : ℕ
  pub len : length text ≡ suc more
  pub small : n < bound * 128 ^ more
  pub least : (j : ℕ) → n < bound * 128 ^ j → more ≤ j

one-digit : (negative : Bool) (bound n : ℕ) → n < bound → Digits negative bound n (low_digit negative n ∷ [])
one-digit negative bound n lt = record {
  are = small-digit negative n;
  more = 0;
  len = refl;
  small = omega arith;
  least = λ j h. omega arith;
}

power : (bound j : ℕ) → bound * 128 ^ suc j ≡ 128 * (bound * 128 ^ j)
power bound j = ap (λ p. bound * p) (pow-succ' 128 j) ∙ times bound (128 ^ j)
  where
    times : (a p : ℕ) → a * (128 * p) ≡ 128 * (a * p)
    times a p = omega arith

more-digits : (negative : Bool) (bound n : ℕ) (text : List ℕ) → bound ≤ n → Digits negative bound (n / 128) text → Digits negative bound n ((128 + low_digit negative n) ∷ text)
more-digits negative bound n text le d =
    let small : n / 128 < bound * 128 ^ d.more = d.small in
    record {
      are = digits-cons (128 + low_digit negative n) text (omega arith) d.are;
      more = suc d.more;
      len = ap suc d.len;
      small = rw (power bound d.more) (omega arith);
      least = least_more bound n d.more le d.least;
    }
  where
    least_more : (bound n more : ℕ) → bound ≤ n → ((j : ℕ) → n / 128 < bound * 128 ^ j → more ≤ j) → (j : ℕ) → n < bound * 128 ^ j → suc more ≤ j
    least_more bound n more le least zero h = absurd (omega arith)
    least_more bound n more le least (suc j) h =
        let lt : n < 128 * (bound * 128 ^ j) = rw (← power bound j) h in
        let k : more ≤ j = least j (omega arith) in
        omega arith

pub digits-are : (negative : Bool) (bound more n : ℕ) → n < bound * 128 ^ more → Digits negative bound n (digits negative bound more n)
unfolding digits
digits-are negative bound zero n lt = one-digit negative bound n (omega arith)
digits-are negative bound (suc more) n lt =
    elim (ltb n bound) as (λ b. ltb n bound ≡ b → Digits negative bound n (cond b (low_digit negative n ∷ []) ((128 + low_digit negative n) ∷ digits negative bound more (n / 128)))) [
      | true ↦ λ e. one-digit negative bound n (ltb-true n bound e)
      | false ↦ λ e.
          let le : bound ≤ n = ltb-false n bound e in
          let small : n < 128 * (bound * 128 ^ more) = rw (← power bound more) lt in
          more-digits negative bound n (digits negative bound more (n / 128)) le (digits-are negative bound more (n / 128) (omega arith))
    ] refl

-- their value
value : (bound more n : ℕ) → bound ≤ 128 → n < bound * 128 ^ more → base_128 (digits false bound more n) ≡ n
unfolding digits
value bound zero n few lt = omega arith
value bound (suc more) n few lt =
    elim (ltb n bound) as (λ b. ltb n bound ≡ b → base_128 (cond b (low_digit false n ∷ []) ((128 + low_digit false n) ∷ digits false bound more (n / 128))) ≡ n) [
      | true ↦ λ e. let l : n < bound = ltb-true n bound e in omega arith
      | false ↦ λ e.
          let small : n < 128 * (bound * 128 ^ more) = rw (← power bound more) lt in
          let rest : base_128 (digits false bound more (n / 128)) ≡ n / 128 = value bound more (n / 128) few (omega arith) in
          omega arith
    ] refl

complement : (bound more n : ℕ) → bound ≤ 128 → n < bound * 128 ^ more → base_128 (digits true bound more n) + suc n ≡ 128 ^ length (digits true bound more n)
unfolding digits
complement bound zero n few lt = omega arith
complement bound (suc more) n few lt =
    elim (ltb n bound) as (λ b. ltb n bound ≡ b → base_128 (cond b (low_digit true n ∷ []) ((128 + low_digit true n) ∷ digits true bound more (n / 128))) + suc n ≡ 128 ^ length (cond b (low_digit true n ∷ []) ((128 + low_digit true n) ∷ digits true bound more (n / 128)))) [
      | true ↦ λ e. let l : n < bound = ltb-true n bound e in omega arith
      | false ↦ λ e.
          let small : n < 128 * (bound * 128 ^ more) = rw (← power bound more) lt in
          let rest = complement bound more (n / 128) few (omega arith) in
          joined n (base_128 (digits true bound more (n / 128))) (length (digits true bound more (n / 128))) rest
    ] refl
  where
    joined : (n value len : ℕ) → value + suc (n / 128) ≡ 128 ^ len → ((128 + (127 - n % 128)) % 128 + 128 * value) + suc n ≡ 128 ^ suc len
    joined n value len e = rw (pow-succ' 128 len) (omega arith)

-- ---- unsigned numbers

pub spells_number : (n : ℕ) → n < 2 ^ 32 → SpellsU32 (number_text n) n
unfolding number_text
spells_number n lt =
    let d = digits-are false 128 9 n (omega arith) in
    (d.are, omega (arith, d.len, d.least 4 (omega arith)), value 128 9 n (lit≤ tt) (omega arith), lt)

-- ---- signed numbers

pub seven : (l : ℕ) → 2 ^ (7 * l) ≡ 128 ^ l
seven zero = refl
seven (suc l) =
    let e : 7 * suc l ≡ 7 + 7 * l = omega arith in
    ap (λ k. 2 ^ k) e ∙ pow-add 2 7 (7 * l) ∙ ap (λ p. 128 * p) (seven l) ∙ sym (pow-succ' 128 l)

pub half : (l : ℕ) → 2 ^ (7 * suc l - 1) ≡ 64 * 128 ^ l
half l =
    let e : 7 * suc l - 1 ≡ 6 + 7 * l = omega arith in
    ap (λ k. 2 ^ k) e ∙ pow-add 2 6 (7 * l) ∙ ap (λ p. 64 * p) (seven l)

twos : ℕ → ℕ → ℤ → ℕ → ℤ
twos v h p w = cond (ltb v h) p (negsuc (w - suc v))

positive : (len l v n : ℕ) → len ≡ suc l → v ≡ n → n < 64 * 128 ^ l → twos_complement (7 * len) v ≡ pos n
positive len l v n e f lt =
    let h : 2 ^ (7 * suc l - 1) ≡ 64 * 128 ^ l = half l in
    let small : n < 2 ^ (7 * suc l - 1) = rw h lt in
    rw (e, f, lt-ltb n (2 ^ (7 * suc l - 1)) small) refl

negative : (len l v u : ℕ) → len ≡ suc l → v + suc u ≡ 128 ^ len → u < 64 * 128 ^ l → twos_complement (7 * len) v ≡ negsuc u
negative len l v u e f lt =
    let h : 2 ^ (7 * suc l - 1) ≡ 64 * 128 ^ l = half l in
    let s : 2 ^ (7 * suc l) ≡ 128 ^ suc l = seven (suc l) in
    let p : 128 ^ suc l ≡ 128 * 128 ^ l = pow-succ' 128 l in
    let g : v + suc u ≡ 128 ^ suc l = f ∙ ap (λ k. 128 ^ k) e in
    let great : 2 ^ (7 * suc l - 1) ≤ v = rw h (omega arith) in
    let left : 2 ^ (7 * suc l) - suc v ≡ u = rw s (omega arith) in
    rw (e, le-ltb v (2 ^ (7 * suc l - 1)) great) (ap negsuc left)

-- the digits of a number are read as it
record Positive (n most : ℕ) : Type 0 where
  are : AreDigits (digits false 64 9 n)
  few : length (digits false 64 9 n) ≤ suc most
  is : twos_complement (7 * length (digits false 64 9 n)) (base_128 (digits false 64 9 n)) ≡ pos n

is_positive : (n most : ℕ) → n < 64 * 128 ^ 9 → n < 64 * 128 ^ most → Positive n most
is_positive n most wide lt =
    let d = digits-are false 64 9 n wide in
    record {
      are = d.are;
      few = omega (arith, d.len, d.least most lt);
      is = positive (length (digits false 64 9 n)) d.more (base_128 (digits false 64 9 n)) n d.len (value 64 9 n (lit≤ tt) wide) d.small;
    }

-- the complements of the digits of u are read as -u - 1
record Negative (u most : ℕ) : Type 0 where
  are : AreDigits (digits true 64 9 u)
  few : length (digits true 64 9 u) ≤ suc most
  is : twos_complement (7 * length (digits true 64 9 u)) (base_128 (digits true 64 9 u)) ≡ negsuc u

is_negative : (u most : ℕ) → u < 64 * 128 ^ 9 → u < 64 * 128 ^ most → Negative u most
is_negative u most wide lt =
    let d = digits-are true 64 9 u wide in
    record {
      are = d.are;
      few = omega (arith, d.len, d.least most lt);
      is = negative (length (digits true 64 9 u)) d.more (base_128 (digits true 64 9 u)) u d.len (complement 64 9 u (lit≤ tt) wide) d.small;
    }

pub spells_word32 : (at n : ℕ) → n < 2 ^ 32 → SpellsWord32 at (signed_text 32 n) n
unfolding signed_text SpellsWord32
spells_word32 at n lt =
    elim (ltb n (2 ^ 31)) as (λ b. ltb n (2 ^ 31) ≡ b → SpellsWord32 at (cond b (digits false 64 9 n) (digits true 64 9 (2 ^ 32 - suc n))) n) [
      | true ↦ λ e.
          let l : n < 2 ^ 31 = ltb-true n (2 ^ 31) e in
          let p = is_positive n 4 (omega arith) (omega arith) in
          (pos n, (p.are, p.few, p.is, record { sfits = l }), refl)
      | false ↦ λ e.
          let l : 2 ^ 31 ≤ n = ltb-false n (2 ^ 31) e in
          let u = 2 ^ 32 - suc n in
          let p = is_negative u 4 (omega arith) (omega arith) in
          let s : u < 2 ^ 31 = omega arith in
          (negsuc u, (p.are, p.few, p.is, record { sfits = s }), omega arith)
    ] refl

pub spells_word64 : (at n : ℕ) → n < 2 ^ 64 → SpellsWord64 at (signed_text 64 n) n
unfolding signed_text SpellsWord64
spells_word64 at n lt =
    elim (ltb n (2 ^ 63)) as (λ b. ltb n (2 ^ 63) ≡ b → SpellsWord64 at (cond b (digits false 64 9 n) (digits true 64 9 (2 ^ 64 - suc n))) n) [
      | true ↦ λ e.
          let l : n < 2 ^ 63 = ltb-true n (2 ^ 63) e in
          let p = is_positive n 9 (omega arith) (omega arith) in
          (pos n, (p.are, p.few, p.is, record { sfits = l }), refl)
      | false ↦ λ e.
          let l : 2 ^ 63 ≤ n = ltb-false n (2 ^ 63) e in
          let u = 2 ^ 64 - suc n in
          let p = is_negative u 9 (omega arith) (omega arith) in
          let s : u < 2 ^ 63 = omega arith in
          (negsuc u, (p.are, p.few, p.is, record { sfits = s }), omega arith)
    ] refl

pub short_number : (n : ℕ) → n < 2 ^ 32 → length (number_text n) < 2 ^ 32
short_number n lt = let s = spells_number n lt in omega (arith, s.1)
