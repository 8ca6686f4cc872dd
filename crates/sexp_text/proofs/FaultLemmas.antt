-- A fault other than `end` stays, whatever follows.
use Rattle.std.proofs.Common.{◌≡◌, ℕ, ℤ, pos, neg_ℤ, ◌+◌, ◌-◌, ◌*◌, ◌^◌, Bool, true, false, cond, eqb, ltb, ◌&&◌, ◌||◌, List, [], ◌∷◌, ◌++◌, length, get_or, Option, Some, None, Result, Ok, Err, refl, sym, ap, ◌∙◌, subst, length-append, arith}
use Rattle.std.proofs.lemmas.Bool.{eqb-true, eqb-false, ne_eqb}
use Rattle.std.specs.Option.{option_map}
use Rattle.std.specs.List.{prefix_len}
use Rattle.sexp_text.specs.declared.fault.TextFault.{TextFault}
use Rattle.sexp_text.specs.declared.fault.TextFault.TheVariants.{Refused, Limit, OutOfMemory}
use Rattle.sexp_text.specs.declared.fault.TextWord.TheVariants as word
use Rattle.sexp_text.specs.declared.reader.Mode.{Mode}
use Rattle.sexp_text.specs.declared.reader.Mode.TheVariants.{Between, Comment, Run, Quoted, Escape, Digit}
use Rattle.sexp_text.specs.Bytes.{is_between, is_letter, is_digit, is_name_byte, is_sign, is_run}
use Rattle.sexp_text.specs.Items.{Item, Number, Name}
use Rattle.sexp_text.specs.Reading.{◌>>=◌, refused, digits_from, positive, number_of, begins_number, word_end, ok_or_fault, run_items, Front, Before, Inside, After, with_items, between, step, finish, read_from}
use Rattle.sexp_text.specs.Faults.{IsNoEnd}
use Rattle.sexp_text.proofs.ByteLemmas.{word_end-le}
use Rattle.sexp_text.proofs.ReadLemmas.{go_on}

-- runs that are no number and no word stay so with one more byte

digits_stay : (bs : List ℕ) (n b : ℕ) → digits_from n bs ≡ None → digits_from n (bs ++ b ∷ []) ≡ None
digits_stay [] n b e = cc
digits_stay (c ∷ cs) n b e = by_test (is_digit c && ltb (10 * n + (c - 48)) (2 ^ 120)) (digits_stay cs (10 * n + (c - 48)) b) e
  where
    by_test : (v : Bool) → (digits_from (10 * n + (c - 48)) cs ≡ None → digits_from (10 * n + (c - 48)) (cs ++ b ∷ []) ≡ None) →
        cond v (digits_from (10 * n + (c - 48)) cs) None ≡ None → cond v (digits_from (10 * n + (c - 48)) (cs ++ b ∷ [])) None ≡ None
    by_test true more e = more e
    by_test false more e = refl

positive_stays : (c : ℕ) (cs : List ℕ) (b : ℕ) → positive (c ∷ cs) ≡ None → positive (c ∷ (cs ++ b ∷ [])) ≡ None
unfolding positive
positive_stays c cs b e = by_test (is_between 49 57 c) e
  where
    by_test : (v : Bool) → cond v (digits_from (c - 48) cs) None ≡ None → cond v (digits_from (c - 48) (cs ++ b ∷ [])) None ≡ None
    by_test true e = digits_stay cs (c - 48) b e
    by_test false e = refl

no_map : (f : ℕ → ℤ) (o : Option ℕ) → option_map f o ≡ None → o ≡ None
no_map f None e = refl
no_map f (Some n) e = cc

-- the run begins as a number
pub begins_again : (run : List ℕ) (b : ℕ) → begins_number run ≡ true → begins_number (run ++ b ∷ []) ≡ true
unfolding begins_number
begins_again [] b e = cc
begins_again (c ∷ []) b e = rw e refl
begins_again (c ∷ d ∷ ds) b e = e

number_stays : (run : List ℕ) (b : ℕ) → begins_number run ≡ true → number_of run ≡ None → number_of (run ++ b ∷ []) ≡ None
unfolding number_of begins_number
number_stays [] b h e = cc
number_stays (c ∷ cs) b h e = by_zero (eqb c 48) e
  where
    longer : eqb (length (cs ++ b ∷ [])) 0 ≡ false
    longer = ne_eqb (length (cs ++ b ∷ [])) 0 (λ k. omega (arith, k, length-append cs (b ∷ [])))

    minus : (cs : List ℕ) → begins_number (45 ∷ cs) ≡ true → positive cs ≡ None → positive (cs ++ b ∷ []) ≡ None
    minus [] h e = cc
    minus (d ∷ ds) h e = positive_stays d ds b e

    by_minus : (v : Bool) → eqb c 45 ≡ v → cond v (option_map (λ n. neg_ℤ (pos n)) (positive cs)) (option_map pos (positive (c ∷ cs))) ≡ None →
        cond v (option_map (λ n. neg_ℤ (pos n)) (positive (cs ++ b ∷ []))) (option_map pos (positive (c ∷ (cs ++ b ∷ [])))) ≡ None
    by_minus true t e =
        let m = minus cs (subst (λ d. begins_number (d ∷ cs) ≡ true) (eqb-true c 45 t) h) (no_map (λ n. neg_ℤ (pos n)) (positive cs) e) in
        ap (option_map (λ n. neg_ℤ (pos n))) m
    by_minus false t e = ap (option_map pos) (positive_stays c cs b (no_map pos (positive (c ∷ cs)) e))

    by_zero : (v : Bool) → cond v (cond (eqb (length cs) 0) (Some (pos 0)) None) (cond (eqb c 45) (option_map (λ n. neg_ℤ (pos n)) (positive cs)) (option_map pos (positive (c ∷ cs)))) ≡ None →
        cond v (cond (eqb (length (cs ++ b ∷ [])) 0) (Some (pos 0)) None) (cond (eqb c 45) (option_map (λ n. neg_ℤ (pos n)) (positive (cs ++ b ∷ []))) (option_map pos (positive (c ∷ (cs ++ b ∷ []))))) ≡ None
    by_zero true e = ap (λ v. cond v (Some (pos 0)) None) longer
    by_zero false e = by_minus (eqb c 45) refl e

names_stay : (bs : List ℕ) (b : ℕ) → (prefix_len is_name_byte bs ≡ length bs → ⊥) → prefix_len is_name_byte (bs ++ b ∷ []) ≡ prefix_len is_name_byte bs
names_stay [] b h = absurd (h refl)
names_stay (c ∷ cs) b h = by_name (is_name_byte c) (names_stay cs b) h
  where
    by_name : (v : Bool) → ((prefix_len is_name_byte cs ≡ length cs → ⊥) → prefix_len is_name_byte (cs ++ b ∷ []) ≡ prefix_len is_name_byte cs) →
        (cond v (1 + prefix_len is_name_byte cs) 0 ≡ length (c ∷ cs) → ⊥) →
        cond v (1 + prefix_len is_name_byte (cs ++ b ∷ [])) 0 ≡ cond v (1 + prefix_len is_name_byte cs) 0
    by_name true more h = ap (λ n. 1 + n) (more (λ e. h (omega (arith, e))))
    by_name false more h = refl

pub word_end_stays : (run : List ℕ) (b : ℕ) → (word_end run ≡ length run → ⊥) → word_end (run ++ b ∷ []) ≡ word_end run
unfolding word_end
word_end_stays [] b h = absurd (h refl)
word_end_stays (c ∷ cs) b h = by_letter (is_letter c) h
  where
    by_less : (cs : List ℕ) (v : Bool) → (cond v (cond (eqb (get_or cs 0 0) 61) 2 1) 0 ≡ length (c ∷ cs) → ⊥) →
        ◌≡◌ {A = ℕ} (cond v (cond (eqb (get_or (cs ++ b ∷ []) 0 0) 61) 2 1) 0) (cond v (cond (eqb (get_or cs 0 0) 61) 2 1) 0)
    by_less [] true h = absurd (h refl)
    by_less (d ∷ ds) true h = refl
    by_less cs false h = refl

    by_sign : (v : Bool) → (cond v 1 (cond (eqb c 60) (cond (eqb (get_or cs 0 0) 61) 2 1) 0) ≡ length (c ∷ cs) → ⊥) →
        ◌≡◌ {A = ℕ} (cond v 1 (cond (eqb c 60) (cond (eqb (get_or (cs ++ b ∷ []) 0 0) 61) 2 1) 0)) (cond v 1 (cond (eqb c 60) (cond (eqb (get_or cs 0 0) 61) 2 1) 0))
    by_sign true h = refl
    by_sign false h = by_less cs (eqb c 60) h

    by_letter : (v : Bool) → (cond v (prefix_len is_name_byte cs + 1) (cond (is_sign c) 1 (cond (eqb c 60) (cond (eqb (get_or cs 0 0) 61) 2 1) 0)) ≡ length (c ∷ cs) → ⊥) →
        cond v (prefix_len is_name_byte (cs ++ b ∷ []) + 1) (cond (is_sign c) 1 (cond (eqb c 60) (cond (eqb (get_or (cs ++ b ∷ []) 0 0) 61) 2 1) 0)) ≡
        cond v (prefix_len is_name_byte cs + 1) (cond (is_sign c) 1 (cond (eqb c 60) (cond (eqb (get_or cs 0 0) 61) 2 1) 0))
    by_letter true h = ap (λ n. n + 1) (names_stay cs b (λ e. h (omega (arith, e))))
    by_letter false h = by_sign (is_sign c) h

begins_never : (run : List ℕ) (b : ℕ) → begins_number run ≡ false → (word_end run ≡ length run → ⊥) → begins_number (run ++ b ∷ []) ≡ false
unfolding begins_number word_end is_sign
begins_never [] b e h = absurd (h refl)
begins_never (c ∷ []) b e h = by_minus (eqb c 45) refl
  where
    by_minus : (v : Bool) → eqb c 45 ≡ v → (is_digit c || (eqb c 45 && is_digit b)) ≡ false
    by_minus true t = absurd (h (subst (λ d. word_end (d ∷ []) ≡ 1) (sym (eqb-true c 45 t)) refl))
    by_minus false t = rw (e, t) refl
begins_never (c ∷ d ∷ ds) b e h = e

-- a run that has a fault keeps it with one more byte
run_stays : (from : ℕ) (run : List ℕ) (b : ℕ) (fault : TextFault) → run_items from run ≡ Err fault → run_items from (run ++ b ∷ []) ≡ Err fault
unfolding run_items
run_stays from run b fault e = by_begin (begins_number run) refl e
  where
    by_number : (o : Option ℤ) → number_of run ≡ o → begins_number run ≡ true →
        ok_or_fault (option_map (λ z. Number from z ∷ []) o) (Refused from word.Number) ≡ Err fault →
        cond (begins_number (run ++ b ∷ [])) (ok_or_fault (option_map (λ z. Number from z ∷ []) (number_of (run ++ b ∷ []))) (Refused from word.Number)) (cond (eqb (word_end (run ++ b ∷ [])) (length (run ++ b ∷ []))) (Ok (Name from (run ++ b ∷ []) ∷ [])) (refused (from + word_end (run ++ b ∷ [])) word.Byte)) ≡ Err fault
    by_number None n t e = rw (begins_again run b t, number_stays run b t n) e
    by_number (Some z) n t e = cc

    by_end : (v : Bool) → eqb (word_end run) (length run) ≡ v → begins_number run ≡ false →
        cond v (Ok (Name from run ∷ [])) (refused (from + word_end run) word.Byte) ≡ Err fault →
        cond (begins_number (run ++ b ∷ [])) (ok_or_fault (option_map (λ z. Number from z ∷ []) (number_of (run ++ b ∷ []))) (Refused from word.Number)) (cond (eqb (word_end (run ++ b ∷ [])) (length (run ++ b ∷ []))) (Ok (Name from (run ++ b ∷ []) ∷ [])) (refused (from + word_end (run ++ b ∷ [])) word.Byte)) ≡ Err fault
    by_end true t n e = cc
    by_end false t n e =
        let differ = eqb-false (word_end run) (length run) t in
        let same = word_end_stays run b differ in
        let below = word_end-le run in
        let longer : eqb (word_end run) (length (run ++ b ∷ [])) ≡ false =
        ne_eqb (word_end run) (length (run ++ b ∷ [])) (λ k. omega (arith, k, below, length-append run (b ∷ []))) in
        rw (begins_never run b n differ, same, longer) e

    by_begin : (v : Bool) → begins_number run ≡ v →
        cond v (ok_or_fault (option_map (λ z. Number from z ∷ []) (number_of run)) (Refused from word.Number)) (cond (eqb (word_end run) (length run)) (Ok (Name from run ∷ [])) (refused (from + word_end run) word.Byte)) ≡ Err fault →
        cond (begins_number (run ++ b ∷ [])) (ok_or_fault (option_map (λ z. Number from z ∷ []) (number_of (run ++ b ∷ []))) (Refused from word.Number)) (cond (eqb (word_end (run ++ b ∷ [])) (length (run ++ b ∷ []))) (Ok (Name from (run ++ b ∷ []) ∷ [])) (refused (from + word_end (run ++ b ∷ [])) word.Byte)) ≡ Err fault
    by_begin true t e = by_number (number_of run) refl t e
    by_begin false t e = by_end (eqb (word_end run) (length run)) refl t e

-- the rest of a text after a run with a fault does not matter
pub run_fault : (more : List ℕ) (p from : ℕ) (run : List ℕ) (front : Front) (fault : TextFault) → run_items from run ≡ Err fault →
    read_from p more front (Run from run) ≡ Err fault
unfolding step finish
run_fault [] p from run front fault e = rw e refl
run_fault (b ∷ bs) p from run front fault e = by_run (is_run b) (run_fault bs (p + 1) from (run ++ b ∷ []) front fault (run_stays from run b fault e))
  where
    by_run : (v : Bool) → read_from (p + 1) bs front (Run from (run ++ b ∷ [])) ≡ Err fault →
        go_on (p + 1) bs (cond v (Ok (front, Run from (run ++ b ∷ []))) (with_items front (run_items from run) >>= λ f. between p b f)) ≡ Err fault
    by_run true more = more
    by_run false more = rw e refl

is_end : (p : ℕ) (fault : TextFault) → ◌≡◌ {A = Result (List Item) TextFault} (refused p word.End) (Err fault) → IsNoEnd fault → ⊥
is_end p (Refused at w) e n = n (word_same e)
  where
    word_same : ◌≡◌ {A = Result (List Item) TextFault} (refused p word.End) (Err (Refused at w)) → w ≡ word.End
    word_same e = cc
is_end p (Limit at w) e n = cc
is_end p OutOfMemory e n = cc

-- at its end a text has no fault but `end` and that of its last run
pub end_fault : (p : ℕ) (front : Front) (mode : Mode) (fault : TextFault) → finish p front mode ≡ Err fault → IsNoEnd fault →
    (from : ℕ) × (run : List ℕ) × (mode ≡ Run from run) × (run_items from run ≡ Err fault)
unfolding finish
end_fault p Before Between fault e n = absurd (is_end p fault e n)
end_fault p (Inside items k) Between fault e n = absurd (is_end p fault e n)
end_fault p (After items) Between fault e n = cc
end_fault p Before Comment fault e n = absurd (is_end p fault e n)
end_fault p (Inside items k) Comment fault e n = absurd (is_end p fault e n)
end_fault p (After items) Comment fault e n = cc
end_fault p front (Run from run) fault e n = (from, run, refl, by_items (run_items from run) e)
  where
    by_items : (r : Result (List Item) TextFault) → ◌≡◌ {A = Result (List Item) TextFault} (with_items front r >>= λ f. refused p word.End) (Err fault) → r ≡ Err fault
    by_items (Ok xs) e = absurd (is_end p fault e n)
    by_items (Err d) e = cc
end_fault p front (Quoted from bytes) fault e n = absurd (is_end p fault e n)
end_fault p front (Escape from bytes) fault e n = absurd (is_end p fault e n)
end_fault p front (Digit from bytes high) fault e n = absurd (is_end p fault e n)

end_stays : (more : List ℕ) (p : ℕ) (front : Front) (mode : Mode) (fault : TextFault) → finish p front mode ≡ Err fault → IsNoEnd fault →
    read_from p more front mode ≡ Err fault
end_stays more p front mode fault e n =
    let f = end_fault p front mode fault e n in
    ap (λ m. read_from p more front m) f.2 ∙ run_fault more p f.0 f.1 front fault f.3

-- a fault other than `end` stays, whatever follows
pub stays : (text more : List ℕ) (p : ℕ) (front : Front) (mode : Mode) (fault : TextFault) → read_from p text front mode ≡ Err fault → IsNoEnd fault →
    read_from p (text ++ more) front mode ≡ Err fault
stays [] more p front mode fault e n = end_stays more p front mode fault e n
stays (b ∷ bs) more p front mode fault e n = by_step (step p b front mode) (λ next k. stays bs more (p + 1) next.0 next.1 fault k n) e
  where
    by_step : (r : Result (Front × Mode) TextFault) → ((next : Front × Mode) → read_from (p + 1) bs next.0 next.1 ≡ Err fault → read_from (p + 1) (bs ++ more) next.0 next.1 ≡ Err fault) →
        go_on (p + 1) bs r ≡ Err fault → go_on (p + 1) (bs ++ more) r ≡ Err fault
    by_step (Ok next) more e = more next e
    by_step (Err d) more e = e
