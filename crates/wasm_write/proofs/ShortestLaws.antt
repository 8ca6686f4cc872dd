-- No spelling of a number is shorter than its text, and no runs of locals are fewer than the longest.
use Rattle.std.proofs.Common.{◌≡◌, ℕ, zero, suc, ◌+◌, ◌-◌, ◌*◌, ◌^◌, ◌<◌, ◌≤◌, true, false, cond, ltb, List, [], ◌∷◌, ◌++◌, length, refl, ap, subst, ◌∙◌, arith, ℤ, pos, negsuc}
use Rattle.std.specs.Prelude.{FitsSigned}
use Rattle.std.specs.Int.{w32, w64, cast_unsigned}
use Rattle.std.proofs.lemmas.Bool.{ltb-true, ltb-false, lt-ltb, le-ltb}
use Rattle.std.proofs.Math.Nat.{pow-succ'}
use Rattle.wasm_values.specs.declared.number.ValType.{ValType}
use Rattle.wasm_values.specs.Types.{is_same_type}
use Rattle.wasm_values.proofs.TypeLaws.{type-refl}
use Rattle.binary_grammar.specs.Bounds.{copies}
use Rattle.binary_grammar.specs.Numbers.{AreDigits, base_128, twos_complement, SpellsU32}
use Rattle.binary_grammar.specs.CodeGrammar.{locals_of, SpellsWord32, SpellsWord64}
use Rattle.wasm_write.specs.Shortest.{digits, number_text, signed_text}
use Rattle.wasm_write.specs.Encoding.{joined_to, runs_of}
use Rattle.wasm_write.proofs.NumberTexts.{digits-are, half, seven}
use Rattle.wasm_write.proofs.CodeTexts.{few_joined}

small : (text : List ℕ) → base_128 text < 128 ^ length text
small [] = omega arith
small (b ∷ bs) = let rest = small bs in rw (pow-succ' 128 (length bs)) (omega arith)

-- the digits of a text but the last
record Long (text : List ℕ) : Type 0 where
  more : ℕ
  len : length text ≡ suc more

long : (text : List ℕ) → AreDigits text → Long text
long [] h = absurd h
long (b ∷ bs) h = record { more = length bs; len = refl }

pub shortest_number : (text : List ℕ) (n : ℕ) → SpellsU32 text n → length (number_text n) ≤ length text
unfolding number_text
shortest_number text n h =
    let l = long text h.0 in
    let d = digits-are false 128 9 n (omega (arith, h.3)) in
    let p : 128 ^ length text ≡ 128 * 128 ^ l.more = ap (λ k. 128 ^ k) l.len ∙ pow-succ' 128 l.more in
    omega (arith, d.len, l.len, d.least l.more (omega (arith, h.2, small text)))

-- what a text of so many digits is read as lies in the range of its bits
abbrev Within : ℤ → ℕ → Type 0
Within (pos n) most = n < most
Within (negsuc n) most = n < most

within : (len more v : ℕ) → len ≡ suc more → v < 128 ^ len → Within (twos_complement (7 * len) v) (64 * 128 ^ more)
within len more v e lt =
    let h : 2 ^ (7 * len - 1) ≡ 64 * 128 ^ more = ap (λ k. 2 ^ (7 * k - 1)) e ∙ half more in
    let s : 2 ^ (7 * len) ≡ 128 * 128 ^ more = ap (λ k. 2 ^ (7 * k)) e ∙ seven (suc more) ∙ pow-succ' 128 more in
    let lt2 : v < 128 * 128 ^ more = subst (λ k. v < k) (ap (λ k. 128 ^ k) e ∙ pow-succ' 128 more) lt in
    elim (ltb v (2 ^ (7 * len - 1))) as (λ b. ltb v (2 ^ (7 * len - 1)) ≡ b → Within (cond b (pos v) (negsuc (2 ^ (7 * len) - suc v))) (64 * 128 ^ more)) [
      | true ↦ λ q. let k : v < 2 ^ (7 * len - 1) = ltb-true v (2 ^ (7 * len - 1)) q in omega (arith, h)
      | false ↦ λ q. let k : 2 ^ (7 * len - 1) ≤ v = ltb-false v (2 ^ (7 * len - 1)) q in omega (arith, h, s, lt2)
    ] refl

shortest_positive : (n more most : ℕ) → n < 64 * 128 ^ 9 → n < 64 * 128 ^ more → most ≡ suc more → length (digits false 64 9 n) ≤ most
shortest_positive n more most wide lt e = let d = digits-are false 64 9 n wide in omega (arith, d.len, d.least more lt)

shortest_negative : (u more most : ℕ) → u < 64 * 128 ^ 9 → u < 64 * 128 ^ more → most ≡ suc more → length (digits true 64 9 u) ≤ most
shortest_negative u more most wide lt e = let d = digits-are true 64 9 u wide in omega (arith, d.len, d.least more lt)

least32 : (z : ℤ) (n len more : ℕ) → len ≡ suc more → n ≡ cast_unsigned w32 z → Within z (2 ^ 31) → Within z (64 * 128 ^ more) → length (signed_text 32 n) ≤ len
unfolding signed_text
least32 (pos k) n len more e f lt w =
    rw (f, lt-ltb k (2 ^ 31) lt) (shortest_positive k more len (omega arith) w e)
least32 (negsuc u) n len more e f lt w =
    let v : n ≡ 2 ^ 32 - suc u = f in
    let back : 2 ^ 32 - suc (2 ^ 32 - suc u) ≡ u = omega arith in
    rw (v, le-ltb (2 ^ 32 - suc u) (2 ^ 31) (omega arith), back) (shortest_negative u more len (omega arith) w e)

least64 : (z : ℤ) (n len more : ℕ) → len ≡ suc more → n ≡ cast_unsigned w64 z → Within z (2 ^ 63) → Within z (64 * 128 ^ more) → length (signed_text 64 n) ≤ len
unfolding signed_text
least64 (pos k) n len more e f lt w =
    rw (f, lt-ltb k (2 ^ 63) lt) (shortest_positive k more len (omega arith) w e)
least64 (negsuc u) n len more e f lt w =
    let v : n ≡ 2 ^ 64 - suc u = f in
    let back : 2 ^ 64 - suc (2 ^ 64 - suc u) ≡ u = omega arith in
    rw (v, le-ltb (2 ^ 64 - suc u) (2 ^ 63) (omega arith), back) (shortest_negative u more len (omega arith) w e)

fits32 : (z : ℤ) → FitsSigned w32 z → Within z (2 ^ 31)
fits32 (pos n) h = h.sfits
fits32 (negsuc n) h = h.sfits

fits64 : (z : ℤ) → FitsSigned w64 z → Within z (2 ^ 63)
fits64 (pos n) h = h.sfits
fits64 (negsuc n) h = h.sfits

pub shortest_word32 : (at : ℕ) (text : List ℕ) (n : ℕ) → SpellsWord32 at text n → length (signed_text 32 n) ≤ length text
unfolding SpellsWord32
shortest_word32 at text n h =
    let l = long text h.1.0 in
    let inside : Within h.0 (64 * 128 ^ l.more) = subst (λ z. Within z (64 * 128 ^ l.more)) h.1.2 (within (length text) l.more (base_128 text) l.len (small text)) in
    least32 h.0 n (length text) l.more l.len h.2 (fits32 h.0 h.1.3) inside

pub shortest_word64 : (at : ℕ) (text : List ℕ) (n : ℕ) → SpellsWord64 at text n → length (signed_text 64 n) ≤ length text
unfolding SpellsWord64
shortest_word64 at text n h =
    let l = long text h.1.0 in
    let inside : Within h.0 (64 * 128 ^ l.more) = subst (λ z. Within z (64 * 128 ^ l.more)) h.1.2 (within (length text) l.more (base_128 text) l.len (small text)) in
    least64 h.0 n (length text) l.more l.len h.2 (fits64 h.0 h.1.3) inside

-- ---- runs of locals

one_more : (n : ℕ) (t : ValType) (rs : List (ℕ × ValType)) → joined_to 1 t (joined_to n t rs) ≡ joined_to (suc n) t rs
one_more n t [] = rw (type-refl t) (ap (λ k. (k, t) ∷ []) (let e : 1 + n ≡ suc n = omega arith in e))
one_more n t (r ∷ rs) =
    elim (is_same_type t r.1) as (λ b. joined_to 1 t (cond b ((n + r.0, t) ∷ rs) ((n, t) ∷ r ∷ rs)) ≡ cond b ((suc n + r.0, t) ∷ rs) ((suc n, t) ∷ r ∷ rs)) [
      | true ↦ rw (type-refl t) (ap (λ k. (k, t) ∷ rs) (let e : 1 + (n + r.0) ≡ suc n + r.0 = omega arith in e))
      | false ↦ rw (type-refl t) (ap (λ k. (k, t) ∷ r ∷ rs) (let e : 1 + n ≡ suc n = omega arith in e))
    ]

runs-copies : (n : ℕ) (t : ValType) (ls : List ValType) → runs_of (copies (suc n) t ++ ls) ≡ joined_to (suc n) t (runs_of ls)
runs-copies zero t ls = refl
runs-copies (suc n) t ls = ap (joined_to 1 t) (runs-copies n t ls) ∙ one_more (suc n) t (runs_of ls)

fewer : (n : ℕ) (t : ValType) (ls : List ValType) → length (runs_of (copies n t ++ ls)) ≤ suc (length (runs_of ls))
fewer zero t ls = omega arith
fewer (suc n) t ls = omega (arith, ap length (runs-copies n t ls), few_joined (suc n) t (runs_of ls))

fewest : (rs : List (ℕ × ValType)) → length (runs_of (locals_of rs)) ≤ length rs
fewest [] = omega arith
fewest (r ∷ rs) = omega (arith, fewer r.0 r.1 (locals_of rs), fewest rs)

pub fewest_runs : (ls : List ValType) (rs : List (ℕ × ValType)) → locals_of rs ≡ ls → length (runs_of ls) ≤ length rs
fewest_runs ls rs e = subst (λ ks. length (runs_of ks) ≤ length rs) e (fewest rs)
