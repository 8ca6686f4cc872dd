-- What the tests of bytes say.
use Rattle.std.proofs.Common.{◌≡◌, ℕ, ◌+◌, ◌<◌, ◌≤◌, Bool, true, false, cond, eqb, List, [], ◌∷◌, length, get_or, subst, refl, sym, arith}
use Rattle.std.specs.Str.{IsAscii, IsUtf8}
use Rattle.std.specs.List.{prefix_len}
use Rattle.std.proofs.lemmas.Bool.{eqb-true}
use Rattle.std.proofs.lemmas.Bool.Decides.{nat_tests}
use Rattle.std.proofs.lemmas.Str.{IsUtf8-from_ascii}
use Rattle.std.proofs.lemmas.Str.Ascii.{IsAscii-cons, IsAscii-nil}
use Rattle.sexp_text.specs.Bytes.{is_letter, is_name_byte, is_sign, is_hex}
use Rattle.sexp_text.specs.Reading.{word_end, begins_escape}

pub is_name_byte-below : (b : ℕ) → is_name_byte b ≡ true → b < 128
unfolding is_name_byte
is_name_byte-below b h = grind (arith, nat_tests)

pub is_sign-below : (b : ℕ) → is_sign b ≡ true → b < 128
unfolding is_sign
is_sign-below b h = grind (arith, nat_tests)

pub is_letter-below : (b : ℕ) → is_letter b ≡ true → b < 128
is_letter-below b h = grind (arith, nat_tests)

pub begins_escape-hex : (b : ℕ) → begins_escape b ≡ true → is_hex b ≡ true
unfolding begins_escape is_hex
begins_escape-hex b h = grind (arith, nat_tests)

pub prefix_len-le : (p : ℕ → Bool) (bs : List ℕ) → prefix_len p bs ≤ length bs
prefix_len-le p [] = omega arith
prefix_len-le p (b ∷ bs) = elim (p b) as (λ v. cond v (1 + prefix_len p bs) 0 ≤ length (b ∷ bs)) [ true ↦ omega (arith, prefix_len-le p bs) | false ↦ omega arith ]

-- where each byte passes, the first does and the others do
pub prefix_len-all : (p : ℕ → Bool) (b : ℕ) (bs : List ℕ) → prefix_len p (b ∷ bs) ≡ length (b ∷ bs) →
    (p b ≡ true) × (prefix_len p bs ≡ length bs)
prefix_len-all p b bs h = by_cases (p b) refl h
  where
    by_cases : (v : Bool) → p b ≡ v → cond v (1 + prefix_len p bs) 0 ≡ length (b ∷ bs) → (p b ≡ true) × (prefix_len p bs ≡ length bs)
    by_cases true e h = (e, omega arith)
    by_cases false e h = absurd (omega arith)

names_ascii : (bs : List ℕ) → prefix_len is_name_byte bs ≡ length bs → IsAscii bs
names_ascii [] h = IsAscii-nil
names_ascii (b ∷ bs) h =
    let both : (is_name_byte b ≡ true) × (prefix_len is_name_byte bs ≡ length bs) = prefix_len-all is_name_byte b bs h in
    IsAscii-cons b bs (is_name_byte-below b both.0) (names_ascii bs both.1)

pub word_ascii : (run : List ℕ) → word_end run ≡ length run → IsAscii run
unfolding word_end
word_ascii [] h = IsAscii-nil
word_ascii (b ∷ bs) h = by_letter (is_letter b) refl h
  where
    none : length bs ≡ 0 → b < 128 → IsAscii (b ∷ bs)
    none e l = subst (λ xs. IsAscii (b ∷ xs)) (sym (length_zero bs e)) (IsAscii-cons b [] l IsAscii-nil)
      where
        length_zero : (xs : List ℕ) → length xs ≡ 0 → xs ≡ []
        length_zero [] e = refl
        length_zero (x ∷ xs) e = absurd (omega arith)

    one_more : (xs : List ℕ) → length xs ≡ 1 → get_or xs 0 0 ≡ 61 → IsAscii xs
    one_more [] e g = absurd (omega arith)
    one_more (x ∷ []) e g = IsAscii-cons x [] (omega arith) IsAscii-nil
    one_more (x ∷ y ∷ xs) e g = absurd (omega arith)

    by_equals : (v : Bool) → eqb (get_or bs 0 0) 61 ≡ v → b < 128 → cond v 2 1 ≡ length (b ∷ bs) → IsAscii (b ∷ bs)
    by_equals true e l h = IsAscii-cons b bs l (one_more bs (omega arith) (eqb-true (get_or bs 0 0) 61 e))
    by_equals false e l h = none (omega arith) l

    by_less : (v : Bool) → eqb b 60 ≡ v → cond v (cond (eqb (get_or bs 0 0) 61) 2 1) 0 ≡ length (b ∷ bs) → IsAscii (b ∷ bs)
    by_less true e h = by_equals (eqb (get_or bs 0 0) 61) refl (let s : b ≡ 60 = eqb-true b 60 e in omega arith) h
    by_less false e h = absurd (omega arith)

    by_sign : (v : Bool) → is_sign b ≡ v → cond v 1 (cond (eqb b 60) (cond (eqb (get_or bs 0 0) 61) 2 1) 0) ≡ length (b ∷ bs) → IsAscii (b ∷ bs)
    by_sign true e h = none (omega arith) (is_sign-below b e)
    by_sign false e h = by_less (eqb b 60) refl h

    by_letter : (v : Bool) → is_letter b ≡ v → cond v (prefix_len is_name_byte bs + 1) (cond (is_sign b) 1 (cond (eqb b 60) (cond (eqb (get_or bs 0 0) 61) 2 1) 0)) ≡ length (b ∷ bs) → IsAscii (b ∷ bs)
    by_letter true e h = IsAscii-cons b bs (is_letter-below b e) (names_ascii bs (omega arith))
    by_letter false e h = by_sign (is_sign b) refl h

-- a word is ASCII, and so it is a text
pub word_utf8 : (run : List ℕ) → word_end run ≡ length run → IsUtf8 run
word_utf8 run h = IsUtf8-from_ascii run (word_ascii run h)

pub ruleset escapes = (begins_escape-hex)

-- the longest front that is a word is no longer than the run
pub word_end-le : (run : List ℕ) → word_end run ≤ length run
unfolding word_end
word_end-le [] = omega arith
word_end-le (b ∷ bs) = by_letter (is_letter b)
  where
    by_less : (cs : List ℕ) (v : Bool) → cond v (cond (eqb (get_or cs 0 0) 61) 2 1) 0 ≤ length (b ∷ cs)
    by_less [] true = omega arith
    by_less (c ∷ cs) true = by_equals (eqb c 61)
      where
        by_equals : (v : Bool) → cond v 2 1 ≤ length (b ∷ c ∷ cs)
        by_equals true = omega arith
        by_equals false = omega arith
    by_less cs false = omega arith

    by_sign : (v : Bool) → cond v 1 (cond (eqb b 60) (cond (eqb (get_or bs 0 0) 61) 2 1) 0) ≤ length (b ∷ bs)
    by_sign true = omega arith
    by_sign false = by_less bs (eqb b 60)

    by_letter : (v : Bool) → cond v (prefix_len is_name_byte bs + 1) (cond (is_sign b) 1 (cond (eqb b 60) (cond (eqb (get_or bs 0 0) 61) 2 1) 0)) ≤ length (b ∷ bs)
    by_letter true = omega (arith, prefix_len-le is_name_byte bs)
    by_letter false = by_sign (is_sign b)
