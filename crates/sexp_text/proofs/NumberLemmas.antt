-- Runs that are numbers and words: what is read is spelled so, and what is spelled so is read.
use Rattle.std.proofs.Common.{◌≡◌, ℕ, zero, suc, ℤ, pos, negsuc, neg_ℤ, ◌+◌, ◌-◌, ◌*◌, ◌^◌, ◌<◌, ◌≤◌, Bool, true, false, cond, eqb, ltb, ◌&&◌, ◌⊎◌, inl, inr, ⊎_elim, List, [], ◌∷◌, ◌++◌, length, get_or, Option, Some, None, Ok, refl, sym, ap, ◌∙◌, subst, arith}
use Rattle.std.proofs.lemmas.Bool.{eqb-true, eq-eqb, ne_eqb, ltb-true, lt-ltb}
use Rattle.std.proofs.lemmas.Bool.Decides.{nat_tests}
use Rattle.std.specs.Option.{option_map}
use Rattle.std.specs.List.{AllByRecursion, prefix_len}
use Rattle.sexp_text.specs.declared.fault.TextFault.TheVariants.{Refused}
use Rattle.sexp_text.specs.declared.fault.TextWord.TheVariants as word
use Rattle.sexp_text.specs.Bytes.{is_between, is_letter, is_digit, is_name_byte, is_sign, is_run}
use Rattle.sexp_text.specs.Items.{Item, Number, Name}
use Rattle.sexp_text.specs.Reading.{refused, digits_from, positive, number_of, begins_number, word_end, ok_or_fault, run_items}
use Rattle.sexp_text.specs.Spelling.{value_after, WritesPositive, WritesNumber, IsWord}
use Rattle.sexp_text.proofs.ByteLemmas.{prefix_len-all}
use Rattle.sexp_text.proofs.ReadLemmas.{AreRun}

abbrev AreDigits : List ℕ → Type 0
AreDigits = AllByRecursion (λ d. is_digit d ≡ true)

both : (x y : Bool) → (x && y) ≡ true → (x ≡ true) × (y ≡ true)
both true y e = (refl, e)
both false y e = cc

from_both : (x y : Bool) → x ≡ true → y ≡ true → (x && y) ≡ true
from_both x y e f = rw (e, f) refl

pub value_after-le : (n : ℕ) (bs : List ℕ) → n ≤ value_after n bs
value_after-le n [] = omega arith
value_after-le n (b ∷ bs) = omega (arith, value_after-le (10 * n + (b - 48)) bs)

digits_write : (bs : List ℕ) (n m : ℕ) → n < 2 ^ 120 → digits_from n bs ≡ Some m → AreDigits bs × (value_after n bs ≡ m) × (m < 2 ^ 120)
digits_write [] n m h e = let same : n ≡ m = cc in (tt, same, subst (λ k. k < 2 ^ 120) same h)
digits_write (b ∷ bs) n m h e =
    by_test (is_digit b && ltb (10 * n + (b - 48)) (2 ^ 120)) refl (λ l f. digits_write bs (10 * n + (b - 48)) m l f) e
  where
    by_test : (v : Bool) → (is_digit b && ltb (10 * n + (b - 48)) (2 ^ 120)) ≡ v →
        (10 * n + (b - 48) < 2 ^ 120 → digits_from (10 * n + (b - 48)) bs ≡ Some m → AreDigits bs × (value_after (10 * n + (b - 48)) bs ≡ m) × (m < 2 ^ 120)) →
        cond v (digits_from (10 * n + (b - 48)) bs) None ≡ Some m →
        AreDigits (b ∷ bs) × (value_after n (b ∷ bs) ≡ m) × (m < 2 ^ 120)
    by_test true t go e =
        let parts = both (is_digit b) (ltb (10 * n + (b - 48)) (2 ^ 120)) t in
        let more = go (ltb-true (10 * n + (b - 48)) (2 ^ 120) parts.1) e in
        ((parts.0, more.0), more.1, more.2)
    by_test false t go e = cc

written_digits : (bs : List ℕ) (n : ℕ) → AreDigits bs → value_after n bs < 2 ^ 120 → digits_from n bs ≡ Some (value_after n bs)
written_digits [] n h l = refl
written_digits (b ∷ bs) n h l =
    let next = value_after-le (10 * n + (b - 48)) bs in
    let below : 10 * n + (b - 48) < 2 ^ 120 = omega (arith, next, l) in
    ap (λ v. cond v (digits_from (10 * n + (b - 48)) bs) None) (from_both (is_digit b) (ltb (10 * n + (b - 48)) (2 ^ 120)) h.0 (lt-ltb (10 * n + (b - 48)) (2 ^ 120) below)) ∙
    written_digits bs (10 * n + (b - 48)) h.1 l

between_bounds : (b : ℕ) → is_between 49 57 b ≡ true → (49 ≤ b) × (b ≤ 57)
between_bounds b h = (grind (arith, nat_tests), grind (arith, nat_tests))

positive_writes : (bs : List ℕ) (n : ℕ) → positive bs ≡ Some n → WritesPositive bs n × (n < 2 ^ 120) × (0 < n)
unfolding positive
positive_writes [] n e = cc
positive_writes (b ∷ bs) n e = by_test (is_between 49 57 b) refl e
  where
    by_test : (v : Bool) → is_between 49 57 b ≡ v → cond v (digits_from (b - 48) bs) None ≡ Some n → WritesPositive (b ∷ bs) n × (n < 2 ^ 120) × (0 < n)
    by_test true t e =
        let bounds = between_bounds b t in
        let small : b - 48 < 2 ^ 120 = omega (arith, bounds.1) in
        let more = digits_write bs (b - 48) n small e in
        let up = value_after-le (b - 48) bs in
        ((t, more.0, more.1), more.2, omega (arith, up, more.1, bounds.0))
    by_test false t e = cc

written_positive : (bs : List ℕ) (n : ℕ) → WritesPositive bs n → n < 2 ^ 120 → positive bs ≡ Some n
unfolding positive
written_positive [] n h l = absurd h
written_positive (b ∷ bs) n h l =
    ap (λ v. cond v (digits_from (b - 48) bs) None) h.0 ∙ written_digits bs (b - 48) h.1 (subst (λ m. m < 2 ^ 120) (sym h.2) l) ∙ ap Some h.2

no_bytes : (bs : List ℕ) → length bs ≡ 0 → bs ≡ []
no_bytes [] e = refl
no_bytes (b ∷ bs) e = absurd (omega arith)

positive_number : (mark : List ℕ) (n : ℕ) → WritesPositive mark n × (n < 2 ^ 120) × (0 < n) → WritesNumber mark (pos n)
positive_number mark zero h = absurd (omega (arith, h.2))
positive_number mark (suc n) h = (h.0, h.1)

negative_number : (digits : List ℕ) (n : ℕ) → WritesPositive digits n × (n < 2 ^ 120) × (0 < n) → WritesNumber (45 ∷ digits) (neg_ℤ (pos n))
negative_number digits zero h = absurd (omega (arith, h.2))
negative_number digits (suc n) h = (digits, refl, h.0, h.1)

pub number_writes : (run : List ℕ) (z : ℤ) → number_of run ≡ Some z → WritesNumber run z
unfolding number_of
number_writes [] z e = cc
number_writes (b ∷ bs) z e = by_zero (eqb b 48) refl e
  where
    mapped : (f : ℕ → ℤ) (o : Option ℕ) → option_map f o ≡ Some z → (n : ℕ) × (o ≡ Some n) × (f n ≡ z)
    mapped f None e = cc
    mapped f (Some n) e = (n, refl, cc)

    alone : (v : Bool) → eqb (length bs) 0 ≡ v → b ≡ 48 → cond v (Some (pos 0)) None ≡ Some z → WritesNumber (b ∷ bs) z
    alone true t eb e =
        let none : bs ≡ [] = no_bytes bs (eqb-true (length bs) 0 t) in
        let zed : pos 0 ≡ z = cc in
        subst (WritesNumber (b ∷ bs)) zed (ap (λ c. c ∷ bs) eb ∙ ap (λ cs. 48 ∷ cs) none)
    alone false t eb e = cc

    by_minus : (v : Bool) → eqb b 45 ≡ v → cond v (option_map (λ n. neg_ℤ (pos n)) (positive bs)) (option_map pos (positive (b ∷ bs))) ≡ Some z → WritesNumber (b ∷ bs) z
    by_minus true t e =
        let m = mapped (λ n. neg_ℤ (pos n)) (positive bs) e in
        let eb : b ≡ 45 = eqb-true b 45 t in
        subst (WritesNumber (b ∷ bs)) m.2 (subst (λ c. WritesNumber (c ∷ bs) (neg_ℤ (pos m.0))) (sym eb) (negative_number bs m.0 (positive_writes bs m.0 m.1)))
    by_minus false t e =
        let m = mapped pos (positive (b ∷ bs)) e in
        subst (WritesNumber (b ∷ bs)) m.2 (positive_number (b ∷ bs) m.0 (positive_writes (b ∷ bs) m.0 m.1))

    by_zero : (v : Bool) → eqb b 48 ≡ v →
        cond v (cond (eqb (length bs) 0) (Some (pos 0)) None) (cond (eqb b 45) (option_map (λ n. neg_ℤ (pos n)) (positive bs)) (option_map pos (positive (b ∷ bs)))) ≡ Some z →
        WritesNumber (b ∷ bs) z
    by_zero true t e = alone (eqb (length bs) 0) refl (eqb-true b 48 t) e
    by_zero false t e = by_minus (eqb b 45) refl e

digit_bounds : (b : ℕ) → is_digit b ≡ true → (48 ≤ b) × (b ≤ 57)
digit_bounds b h = (grind (arith, nat_tests), grind (arith, nat_tests))

digit_run : (b : ℕ) → is_digit b ≡ true → is_run b ≡ true
unfolding is_run is_name_byte
digit_run b h = grind (arith, nat_tests)

first_digit_run : (b : ℕ) → is_between 49 57 b ≡ true → (is_digit b ≡ true) × (is_run b ≡ true)
unfolding is_run is_name_byte
first_digit_run b h = (grind (arith, nat_tests), grind (arith, nat_tests))

digits_run : (bs : List ℕ) → AreDigits bs → AreRun bs
digits_run [] h = tt
digits_run (b ∷ bs) h = (digit_run b h.0, digits_run bs h.1)

positive_run : (bs : List ℕ) (n : ℕ) → WritesPositive bs n → AreRun bs
positive_run [] n h = absurd h
positive_run (b ∷ bs) n h = ((first_digit_run b h.0).1, digits_run bs h.1)

-- a run that is read as the number
pub record ReadsNumber (run : List ℕ) (z : ℤ) : Type 0 where
  pub bytes : AreRun run
  pub begins : begins_number run ≡ true
  pub is : number_of run ≡ Some z
  pub some : 0 < length run

begins_digit : (b : ℕ) (bs : List ℕ) → is_digit b ≡ true → begins_number (b ∷ bs) ≡ true
unfolding begins_number
begins_digit b [] h = h
begins_digit b (c ∷ cs) h = rw h refl

begins_minus : (bs : List ℕ) (n : ℕ) → WritesPositive bs n → begins_number (45 ∷ bs) ≡ true
unfolding begins_number
begins_minus [] n h = absurd h
begins_minus (b ∷ bs) n h = (first_digit_run b h.0).0

minus_run : is_run 45 ≡ true
unfolding is_run is_name_byte is_sign
minus_run = refl

zero_run : is_run 48 ≡ true
unfolding is_run is_name_byte is_sign
zero_run = refl

reads_zero : ReadsNumber (48 ∷ []) (pos 0)
unfolding number_of begins_number
reads_zero = record { bytes = (zero_run, tt); begins = refl; is = refl; some = omega arith }

reads_positive : (mark : List ℕ) (n : ℕ) → WritesPositive mark n → n < 2 ^ 120 → ReadsNumber mark (pos n)
unfolding number_of
reads_positive [] n h l = absurd h
reads_positive (b ∷ bs) n h l =
    let bounds = between_bounds b h.0 in
    let no_zero : (b ≡ 48 → ⊥) = (λ e. omega (arith, e, bounds.0)) in
    let no_minus : (b ≡ 45 → ⊥) = (λ e. omega (arith, e, bounds.0)) in
    record {
      bytes = positive_run (b ∷ bs) n h;
      begins = begins_digit b bs (first_digit_run b h.0).0;
      is = rw (ne_eqb b 48 no_zero, ne_eqb b 45 no_minus) (ap (option_map pos) (written_positive (b ∷ bs) n h l));
      some = omega arith;
    }

reads_negative : (digits : List ℕ) (n : ℕ) → WritesPositive digits (suc n) → suc n < 2 ^ 120 → ReadsNumber (45 ∷ digits) (negsuc n)
unfolding number_of
reads_negative digits n h l = record {
  bytes = (minus_run, positive_run digits (suc n) h);
  begins = begins_minus digits (suc n) h;
  is = ap (option_map (λ m. neg_ℤ (pos m))) (written_positive digits (suc n) h l);
  some = omega arith;
}

pub writes_number : (mark : List ℕ) (z : ℤ) → WritesNumber mark z → ReadsNumber mark z
writes_number mark (pos zero) h = subst (λ m. ReadsNumber m (pos 0)) (sym h) reads_zero
writes_number mark (pos (suc n)) h = reads_positive mark (suc n) h.0 h.1
writes_number mark (negsuc n) h = subst (λ m. ReadsNumber m (negsuc n)) (sym h.1) (reads_negative h.0 n h.2 h.3)

pub number_items : (at : ℕ) (mark : List ℕ) (z : ℤ) → ReadsNumber mark z → run_items at mark ≡ Ok (Number at z ∷ [])
unfolding run_items
number_items at mark z h = rw (h.begins, h.is) refl

-- words

-- a run that is read as a word
pub record ReadsWord (run : List ℕ) : Type 0 where
  pub bytes : AreRun run
  pub begins : begins_number run ≡ false
  pub ends : word_end run ≡ length run
  pub some : 0 < length run

pub word_items : (at : ℕ) (run : List ℕ) → ReadsWord run → run_items at run ≡ Ok (Name at run ∷ [])
unfolding run_items
word_items at run h = rw (h.begins, h.ends, eq-eqb (length run) (length run) refl) refl

names_end : (bs : List ℕ) → AllByRecursion (λ c. is_name_byte c ≡ true) bs → prefix_len is_name_byte bs ≡ length bs
names_end [] h = refl
names_end (b ∷ bs) h = ap (λ v. cond v (1 + prefix_len is_name_byte bs) 0) h.0 ∙ (let e = names_end bs h.1 in omega (arith, e))

name_run : (b : ℕ) → is_name_byte b ≡ true → is_run b ≡ true
unfolding is_run
name_run b h = rw h refl

names_run : (bs : List ℕ) → AllByRecursion (λ c. is_name_byte c ≡ true) bs → AreRun bs
names_run [] h = tt
names_run (b ∷ bs) h = (name_run b h.0, names_run bs h.1)

letter_run : (b : ℕ) → is_letter b ≡ true → (is_run b ≡ true) × (is_digit b ≡ false) × (eqb b 45 ≡ false)
unfolding is_run is_name_byte
letter_run b h = (grind (arith, nat_tests), grind (arith, nat_tests), grind (arith, nat_tests))

sign_run : (b : ℕ) → is_sign b ≡ true → (is_run b ≡ true) × (is_digit b ≡ false) × (is_letter b ≡ false)
unfolding is_run is_name_byte is_sign
sign_run b h = (grind (arith, nat_tests), grind (arith, nat_tests), grind (arith, nat_tests))

letter_no_number : (b : ℕ) (bs : List ℕ) → is_digit b ≡ false → eqb b 45 ≡ false → begins_number (b ∷ bs) ≡ false
unfolding begins_number
letter_no_number b [] h k = h
letter_no_number b (c ∷ cs) h k = rw (h, k) refl

reads_name : (b : ℕ) (bs : List ℕ) → is_letter b ≡ true → AllByRecursion (λ c. is_name_byte c ≡ true) bs → ReadsWord (b ∷ bs)
unfolding word_end
reads_name b bs h hs =
    let facts = letter_run b h in
    let names = names_end bs hs in
    record {
      bytes = (facts.0, names_run bs hs);
      begins = letter_no_number b bs facts.1 facts.2;
      ends = rw h (omega (arith, names));
      some = omega arith;
    }

reads_sign : (b : ℕ) → is_sign b ≡ true → ReadsWord (b ∷ [])
unfolding word_end begins_number
reads_sign b h =
    let facts = sign_run b h in
    record {
      bytes = (facts.0, tt);
      begins = facts.1;
      ends = rw (facts.2, h) refl;
      some = omega arith;
    }

reads_less : ReadsWord (60 ∷ [])
unfolding word_end begins_number is_run is_name_byte is_sign
reads_less = record { bytes = (refl, tt); begins = refl; ends = refl; some = omega arith }

reads_less_equal : ReadsWord (60 ∷ 61 ∷ [])
unfolding word_end begins_number is_run is_name_byte is_sign
reads_less_equal = record { bytes = (refl, (refl, tt)); begins = refl; ends = refl; some = omega arith }

pub writes_word : (w : List ℕ) → IsWord w → ReadsWord w
writes_word [] h = absurd h
writes_word (b ∷ bs) h =
    ⊎_elim (λ n. reads_name b bs n.0 n.1)
    (λ other. ⊎_elim
    (λ s. subst (λ cs. ReadsWord (b ∷ cs)) (sym s.1) (reads_sign b s.0))
    (λ l. subst (λ c. ReadsWord (c ∷ bs)) (sym l.0) (⊎_elim
    (λ e. subst (λ cs. ReadsWord (60 ∷ cs)) (sym e) reads_less)
    (λ e. subst (λ cs. ReadsWord (60 ∷ cs)) (sym e) reads_less_equal)
    l.1))
    other)
    h

names_all : (bs : List ℕ) → prefix_len is_name_byte bs ≡ length bs → AllByRecursion (λ c. is_name_byte c ≡ true) bs
names_all [] h = tt
names_all (b ∷ bs) h = let parts = prefix_len-all is_name_byte b bs h in (parts.0, names_all bs parts.1)

pub word_writes : (run : List ℕ) → word_end run ≡ length run → 0 < length run → IsWord run
unfolding word_end
word_writes [] h some = absurd (omega arith)
word_writes (b ∷ bs) h some = by_letter (is_letter b) refl h
  where
    last_equals : (xs : List ℕ) → length xs ≡ 1 → get_or xs 0 0 ≡ 61 → xs ≡ 61 ∷ []
    last_equals [] e g = absurd (omega arith)
    last_equals (x ∷ []) e g = ap (λ y. y ∷ []) g
    last_equals (x ∷ y ∷ xs) e g = absurd (omega arith)

    by_equals : (v : Bool) → eqb (get_or bs 0 0) 61 ≡ v → cond v 2 1 ≡ length (b ∷ bs) → (bs ≡ []) ⊎ (bs ≡ 61 ∷ [])
    by_equals true e h = inr (last_equals bs (omega arith) (eqb-true (get_or bs 0 0) 61 e))
    by_equals false e h = inl (no_bytes bs (omega arith))

    by_less : (v : Bool) → eqb b 60 ≡ v → cond v (cond (eqb (get_or bs 0 0) 61) 2 1) 0 ≡ length (b ∷ bs) → (b ≡ 60) × ((bs ≡ []) ⊎ (bs ≡ 61 ∷ []))
    by_less true e h = (eqb-true b 60 e, by_equals (eqb (get_or bs 0 0) 61) refl h)
    by_less false e h = absurd (omega arith)

    by_sign : (v : Bool) → is_sign b ≡ v → cond v 1 (cond (eqb b 60) (cond (eqb (get_or bs 0 0) 61) 2 1) 0) ≡ length (b ∷ bs) →
        ((is_sign b ≡ true) × (bs ≡ [])) ⊎ ((b ≡ 60) × ((bs ≡ []) ⊎ (bs ≡ 61 ∷ [])))
    by_sign true e h = inl (e, no_bytes bs (omega arith))
    by_sign false e h = inr (by_less (eqb b 60) refl h)

    by_letter : (v : Bool) → is_letter b ≡ v → cond v (prefix_len is_name_byte bs + 1) (cond (is_sign b) 1 (cond (eqb b 60) (cond (eqb (get_or bs 0 0) 61) 2 1) 0)) ≡ length (b ∷ bs) → IsWord (b ∷ bs)
    by_letter true e h = inl (e, names_all bs (omega arith))
    by_letter false e h = inr (by_sign (is_sign b) refl h)

-- what a run is read as
pub run_writes : (at : ℕ) (run : List ℕ) (xs : List Item) → 0 < length run → run_items at run ≡ Ok xs →
    ((z : ℤ) × (xs ≡ Number at z ∷ []) × WritesNumber run z) ⊎ ((xs ≡ Name at run ∷ []) × IsWord run)
unfolding run_items
run_writes at run xs some e = by_begin (begins_number run) refl e
  where
    by_number : (o : Option ℤ) → number_of run ≡ o → ok_or_fault (option_map (λ z. Number at z ∷ []) o) (Refused at word.Number) ≡ Ok xs →
        (z : ℤ) × (xs ≡ Number at z ∷ []) × WritesNumber run z
    by_number None n e = cc
    by_number (Some z) n e = (z, cc, number_writes run z n)

    by_end : (v : Bool) → eqb (word_end run) (length run) ≡ v → cond v (Ok (Name at run ∷ [])) (refused (at + word_end run) word.Byte) ≡ Ok xs →
        (xs ≡ Name at run ∷ []) × IsWord run
    by_end true t e = (cc, word_writes run (eqb-true (word_end run) (length run) t) some)
    by_end false t e = cc

    by_begin : (v : Bool) → begins_number run ≡ v →
        cond v (ok_or_fault (option_map (λ z. Number at z ∷ []) (number_of run)) (Refused at word.Number)) (cond (eqb (word_end run) (length run)) (Ok (Name at run ∷ [])) (refused (at + word_end run) word.Byte)) ≡ Ok xs →
        ((z : ℤ) × (xs ≡ Number at z ∷ []) × WritesNumber run z) ⊎ ((xs ≡ Name at run ∷ []) × IsWord run)
    by_begin true t e = inl (by_number (number_of run) refl e)
    by_begin false t e = inr (by_end (eqb (word_end run) (length run)) refl e)

names_before : (bs rest : List ℕ) → AllByRecursion (λ c. is_name_byte c ≡ true) bs → length bs ≤ prefix_len is_name_byte (bs ++ rest)
names_before [] rest h = omega arith
names_before (b ∷ bs) rest h =
    let more = names_before bs rest h.1 in
    subst (λ v. length (b ∷ bs) ≤ cond v (1 + prefix_len is_name_byte (bs ++ rest)) 0) (sym h.0) (omega (arith, more))

less_before : (rest : List ℕ) → length {A = ℕ} (60 ∷ []) ≤ word_end ((60 ∷ []) ++ rest)
unfolding word_end is_sign
less_before rest = one (eqb (get_or rest 0 0) 61)
  where
    one : (v : Bool) → length {A = ℕ} (60 ∷ []) ≤ cond v 2 1
    one true = omega arith
    one false = omega arith

less_equal_before : (rest : List ℕ) → length {A = ℕ} (60 ∷ 61 ∷ []) ≤ word_end ((60 ∷ 61 ∷ []) ++ rest)
unfolding word_end is_sign
less_equal_before rest = omega arith

sign_before : (b : ℕ) (rest : List ℕ) → is_sign b ≡ true → length (b ∷ []) ≤ word_end ((b ∷ []) ++ rest)
unfolding word_end
sign_before b rest h = rw ((sign_run b h).2, h) (omega arith)

name_before : (b : ℕ) (bs rest : List ℕ) → is_letter b ≡ true → AllByRecursion (λ c. is_name_byte c ≡ true) bs → length (b ∷ bs) ≤ word_end ((b ∷ bs) ++ rest)
unfolding word_end
name_before b bs rest h hs = let e = names_before bs rest hs in rw h (omega (arith, e))

-- no front that is a word is longer than the longest
pub word_longest : (w rest : List ℕ) → IsWord w → length w ≤ word_end (w ++ rest)
word_longest [] rest h = absurd h
word_longest (b ∷ bs) rest h =
    let P : List ℕ → Type 0 = λ w. length w ≤ word_end (w ++ rest) in
    ⊎_elim (λ n. name_before b bs rest n.0 n.1)
    (λ other. ⊎_elim
    (λ s. subst P (ap (λ cs. b ∷ cs) (sym s.1)) (sign_before b rest s.0))
    (λ l. subst P (ap (λ c. c ∷ bs) (sym l.0)) (⊎_elim
    (λ e. subst P (ap (λ cs. 60 ∷ cs) (sym e)) (less_before rest))
    (λ e. subst P (ap (λ cs. 60 ∷ cs) (sym e)) (less_equal_before rest))
    l.1))
    other)
    h
