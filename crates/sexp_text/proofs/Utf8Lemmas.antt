-- The bytes of UTF-8 are bytes.
use lib.Utf8.{scalar, scalars, scalar_cases, next, encode, encodes}
use Rattle.std.proofs.Common.{◌≡◌, ℕ, ◌+◌, ◌/◌, ◌<◌, Bool, true, false, cond, ltb, ◌&&◌, ⊎_elim, List, [], ◌∷◌, ◌++◌, refl, subst, arith}
use Rattle.std.proofs.lemmas.Bool.{ltb-true}
use Rattle.std.specs.List.{AllByRecursion}
use Rattle.std.specs.Str.{IsUtf8}

abbrev pub AreBytes : List ℕ → Type 0
AreBytes = AllByRecursion (λ b. b < 256)

pub AreBytes-append : (xs ys : List ℕ) → AreBytes xs → AreBytes ys → AreBytes (xs ++ ys)
AreBytes-append [] ys h k = k
AreBytes-append (x ∷ xs) ys h k = (h.0, AreBytes-append xs ys h.1 k)

below : (c : ℕ) → scalar c ≡ true → c < 1114112
below c h = ⊎_elim (λ l. omega arith) (λ r. omega arith) (scalar_cases c h)

next_below : (c : ℕ) → next c < 256
next_below c = omega arith

encode_bytes : (c : ℕ) → scalar c ≡ true → AreBytes (encode c)
unfolding encode
encode_bytes c h = one (ltb c 128) refl
  where
    high : c < 1114112
    high = below c h

    three : (v : Bool) → ltb c 65536 ≡ v → AreBytes (cond v ((224 + c / 4096) ∷ next (c / 64) ∷ next c ∷ []) ((240 + c / 262144) ∷ next (c / 4096) ∷ next (c / 64) ∷ next c ∷ []))
    three true e = let l : c < 65536 = ltb-true c 65536 e in (omega arith, (next_below (c / 64), (next_below c, tt)))
    three false e = (omega (arith, high), (next_below (c / 4096), (next_below (c / 64), (next_below c, tt))))

    two : (v : Bool) → ltb c 2048 ≡ v → AreBytes (cond v ((192 + c / 64) ∷ next c ∷ []) (cond (ltb c 65536) ((224 + c / 4096) ∷ next (c / 64) ∷ next c ∷ []) ((240 + c / 262144) ∷ next (c / 4096) ∷ next (c / 64) ∷ next c ∷ [])))
    two true e = let l : c < 2048 = ltb-true c 2048 e in (omega arith, (next_below c, tt))
    two false e = three (ltb c 65536) refl

    one : (v : Bool) → ltb c 128 ≡ v → AreBytes (cond v (c ∷ []) (cond (ltb c 2048) ((192 + c / 64) ∷ next c ∷ []) (cond (ltb c 65536) ((224 + c / 4096) ∷ next (c / 64) ∷ next c ∷ []) ((240 + c / 262144) ∷ next (c / 4096) ∷ next (c / 64) ∷ next c ∷ []))))
    one true e = let l : c < 128 = ltb-true c 128 e in (omega arith, tt)
    one false e = two (ltb c 2048) refl

both : (x y : Bool) → (x && y) ≡ true → (x ≡ true) × (y ≡ true)
both true y e = (refl, e)
both false y e = cc

encodes_bytes : (cs : List ℕ) → scalars cs ≡ true → AreBytes (encodes cs)
encodes_bytes [] h = tt
encodes_bytes (c ∷ cs) h =
    let parts = both (scalar c) (scalars cs) h in
    AreBytes-append (encode c) (encodes cs) (encode_bytes c parts.0) (encodes_bytes cs parts.1)

pub utf8_bytes : (bs : List ℕ) → IsUtf8 bs → AreBytes bs
utf8_bytes bs h = subst AreBytes h.1.1 (encodes_bytes h.0 h.1.0)
