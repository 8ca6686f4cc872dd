-- The text before a fault can go on to spell a value.
use Rattle.std.proofs.Common.{◌≡◌, ℕ, zero, suc, ℤ, ◌+◌, ◌*◌, ◌<◌, Bool, true, false, cond, eqb, ltb, ◌⊎◌, inl, inr, ⊎_elim, List, [], ◌∷◌, ◌++◌, length, take, get_or, Option, Some, None, Result, Ok, Err, refl, sym, ap, ◌∙◌, subst, append_assoc, length-append, arith}
use Rattle.std.proofs.lemmas.Bool.{eqb-true}
use Rattle.std.proofs.lemmas.Bool.Decides.{nat_tests}
use Rattle.std.proofs.lemmas.List.{append-nil, take-append-le}
use Rattle.std.proofs.Math.Seq.{take-append_seam, take-append-add}
use Rattle.std.specs.Char.{digit_char}
use Rattle.std.specs.Option.{option_map}
use Rattle.std.specs.Str.{is_utf8}
use Rattle.std.specs.List.{AllByRecursion, prefix_len}
use Rattle.sexp_text.specs.declared.fault.TextFault.{TextFault}
use Rattle.sexp_text.specs.declared.fault.TextFault.TheVariants.{Refused, Limit}
use Rattle.sexp_text.specs.declared.fault.TextWord.TheVariants as word
use Rattle.wasm_values.specs.declared.limit.LimitWord.TheVariants.{Nesting}
use Rattle.sexp_text.specs.declared.reader.Mode.{Mode}
use Rattle.sexp_text.specs.declared.reader.Mode.TheVariants.{Between, Comment, Run, Quoted, Escape, Digit}
use Rattle.sexp_text.specs.declared.reader.OpenList.{OpenList}
use Rattle.sexp_text.specs.declared.reader.Progress.{Progress}
use Rattle.sexp_text.specs.declared.reader.Progress.TheVariants as progress
use Rattle.sexp_text.specs.declared.sexp.Node.TheVariants as node
use Rattle.sexp_text.specs.declared.sexp.Sexp.{Sexp}
use Rattle.sexp_text.specs.Bytes.{is_white, is_letter, is_name_byte, is_sign, is_run, is_plain, is_hex, hex_value}
use Rattle.sexp_text.specs.Items.{Item, Open, Number, Name, items_of}
use Rattle.sexp_text.specs.Reading.{◌>>=◌, refused, begins_number, number_of, word_end, ok_or_fault, run_items, string_items, Front, Before, Inside, After, opened, closed, begun, added, with_mode, with_items, between, in_string, begins_escape, first_digit, second_digit, step, finish, read_from, read}
use Rattle.sexp_text.specs.Spelling.{EndsRun, IsWord}
use Rattle.sexp_text.specs.Faults.{IsNoEnd, place_of, IsText, CanGoOn, IsCut}
use Rattle.sexp_text.specs.words.Fronts.{front_of}
use Rattle.sexp_text.proofs.ByteLemmas.{word_end-le}
use Rattle.sexp_text.proofs.FaultLemmas.{end_fault}
use Rattle.sexp_text.proofs.FrontLemmas.{open-before, open-inside, open-after, close-last, close-inside, close-before, close-after, add-inside}
use Rattle.sexp_text.proofs.NumberLemmas.{run_writes, writes_word, word_items}
use Rattle.sexp_text.proofs.PutLemmas.{bound, opened_room}
use Rattle.sexp_text.proofs.ReadLemmas.{AreRun, go_on, go_on-mode, step_open, step_close, step_line_feed, place, run_read, digit_of, step_second}
use Rattle.sexp_text.proofs.SoundLemmas.{begun_next, with_mode_next, string_item, spelled-read}

-- what is reached after some bytes
abbrev pub after : ℕ → List ℕ → Front → Mode → Result (Front × Mode) TextFault
after p [] front mode = Ok (front, mode)
after p (b ∷ bs) front mode = step p b front mode >>= λ next. after (p + 1) bs next.0 next.1

abbrev pub Reach : List ℕ → Front → Mode → Type 0
Reach text front mode = after 0 text Before Between ≡ Ok (front, mode)

pub read-after : (xs ys : List ℕ) (p : ℕ) (front : Front) (mode : Mode) →
    read_from p (xs ++ ys) front mode ≡ (after p xs front mode >>= λ s. read_from (p + length xs) ys s.0 s.1)
read-after [] ys p front mode = place _ _ ys front mode (omega arith)
read-after (b ∷ bs) ys p front mode = by_step (step p b front mode) (λ f m. read-after bs ys (p + 1) f m)
  where
    by_step : (r : Result (Front × Mode) TextFault) →
        ((f : Front) (m : Mode) → read_from (p + 1) (bs ++ ys) f m ≡ (after (p + 1) bs f m >>= λ s. read_from (p + 1 + length bs) ys s.0 s.1)) →
        go_on (p + 1) (bs ++ ys) r ≡ ((r >>= λ next. after (p + 1) bs next.0 next.1) >>= λ s. read_from (p + length (b ∷ bs)) ys s.0 s.1)
    by_step (Ok next) more =
        more next.0 next.1 ∙
        ap (λ q. after (p + 1) bs next.0 next.1 >>= λ s. read_from q ys s.0 s.1) (let e : p + 1 + length bs ≡ p + length (b ∷ bs) = omega arith in e)
    by_step (Err d) more = refl

pub after-push : (xs : List ℕ) (b p : ℕ) (front : Front) (mode : Mode) →
    after p (xs ++ b ∷ []) front mode ≡ (after p xs front mode >>= λ s. step (p + length xs) b s.0 s.1)
after-push [] b p front mode = same (step p b front mode) ∙ ap (λ q. step q b front mode) (let e : p ≡ p + 0 = omega arith in e)
  where
    same : (r : Result (Front × Mode) TextFault) → (r >>= λ next. Ok (next.0, next.1)) ≡ r
    same (Ok next) = refl
    same (Err d) = refl
after-push (c ∷ cs) b p front mode = by_step (step p c front mode) (λ f m. after-push cs b (p + 1) f m)
  where
    by_step : (r : Result (Front × Mode) TextFault) →
        ((f : Front) (m : Mode) → after (p + 1) (cs ++ b ∷ []) f m ≡ (after (p + 1) cs f m >>= λ s. step (p + 1 + length cs) b s.0 s.1)) →
        (r >>= λ next. after (p + 1) (cs ++ b ∷ []) next.0 next.1) ≡ ((r >>= λ next. after (p + 1) cs next.0 next.1) >>= λ s. step (p + length (c ∷ cs)) b s.0 s.1)
    by_step (Ok next) more =
        more next.0 next.1 ∙
        ap (λ q. after (p + 1) cs next.0 next.1 >>= λ s. step q b s.0 s.1) (let e : p + 1 + length cs ≡ p + length (c ∷ cs) = omega arith in e)
    by_step (Err d) more = refl

pub reach_more : (text : List ℕ) (b : ℕ) (front : Front) (mode : Mode) (next : Front × Mode) → Reach text front mode → step (length text) b front mode ≡ Ok next →
    Reach (text ++ b ∷ []) next.0 next.1
reach_more text b front mode next r e =
    after-push text b 0 Before Between ∙ ap (λ s. s >>= λ t. step (0 + length text) b t.0 t.1) r ∙
    ap (λ q. step q b front mode) (let z : 0 + length text ≡ length text = omega arith in z) ∙ e

pub reach_read : (text more : List ℕ) (front : Front) (mode : Mode) → Reach text front mode → read (text ++ more) ≡ read_from (length text) more front mode
unfolding read
reach_read text more front mode r =
    read-after text more 0 Before Between ∙ ap (λ s. s >>= λ t. read_from (0 + length text) more t.0 t.1) r ∙
    place _ _ more front mode (omega arith)

-- what was read is the progress of a reader
abbrev pub Real : Front → Type 0
Real front = (q : Progress) × (front_of q ≡ front)

-- the parentheses that close what is open
abbrev pub closes : ℕ → List ℕ
closes zero = 41 ∷ []
closes (suc k) = 41 ∷ closes k

abbrev pub closers : Front → List ℕ
closers Before = 40 ∷ 41 ∷ []
closers (Inside items k) = closes k
closers (After items) = []

last_of : (k : ℕ) (xs : List OpenList) → length xs ≡ suc k → (front : List OpenList) × (last : OpenList) × (xs ≡ front ++ last ∷ []) × (length front ≡ k)
last_of k [] e = absurd (omega arith)
last_of zero (x ∷ []) e = ([], x, refl, refl)
last_of (suc k) (x ∷ []) e = absurd (omega arith)
last_of zero (x ∷ y ∷ xs) e = absurd (omega arith)
last_of (suc k) (x ∷ y ∷ xs) e =
    let more = last_of k (y ∷ xs) (omega arith) in
    (x ∷ more.0, more.1, ap (λ ys. x ∷ ys) more.2, ap suc more.3)

close_read : (p : ℕ) (bs : List ℕ) (front f : Front) → closed p front ≡ Ok f → read_from p (41 ∷ bs) front Between ≡ read_from (p + 1) bs f Between
close_read p bs front f e =
    ap (go_on (p + 1) bs) (step_close p front) ∙ go_on-mode (p + 1) bs Between (closed p front) ∙ ap (λ r. r >>= λ g. read_from (p + 1) bs g Between) e

open_read : (p : ℕ) (bs : List ℕ) (front f : Front) → opened p front ≡ Ok f → read_from p (40 ∷ bs) front Between ≡ read_from (p + 1) bs f Between
open_read p bs front f e =
    ap (go_on (p + 1) bs) (step_open p front) ∙ go_on-mode (p + 1) bs Between (opened p front) ∙ ap (λ r. r >>= λ g. read_from (p + 1) bs g Between) e

done : (p : ℕ) (whole : Sexp) → read_from p [] (front_of (progress.After whole)) Between ≡ Ok (items_of whole)
unfolding finish front_of
done p whole = refl

close_all : (k : ℕ) (outer : List OpenList) (inner : OpenList) → length outer ≡ k → (p : ℕ) →
    (whole : Sexp) × (read_from p (closes k) (front_of (progress.Inside outer inner)) Between ≡ Ok (items_of whole))
close_all zero outer inner e p =
    let whole : Sexp = record { at = inner.at; node = node.List inner.parts p } in
    (whole, close_read p [] (front_of (progress.Inside outer inner)) (front_of (progress.After whole)) (close-last p (progress.Inside outer inner) outer inner refl (no_lists outer e)) ∙ done (p + 1) whole)
  where
    no_lists : (xs : List OpenList) → length xs ≡ 0 → xs ≡ []
    no_lists [] e = refl
    no_lists (x ∷ xs) e = absurd (omega arith)
close_all (suc k) outer inner e p =
    let l = last_of k outer e in
    let whole : Sexp = record { at = inner.at; node = node.List inner.parts p } in
    let around : OpenList = record { at = l.1.at; parts = l.1.parts ++ whole ∷ [] } in
    let more = close_all k l.0 around l.3 (p + 1) in (
      more.0,
      close_read p (closes k) (front_of (progress.Inside outer inner)) (front_of (progress.Inside l.0 around))
          (close-inside p (progress.Inside outer inner) outer l.0 inner l.1 (l.1.parts ++ whole ∷ []) refl l.2 refl) ∙ more.1,
    )

front_inside : (outer : List OpenList) (inner : OpenList) → closers (front_of (progress.Inside outer inner)) ≡ closes (length outer)
unfolding front_of
front_inside outer inner = refl

pub front_before : front_of progress.Before ≡ Before
unfolding front_of
front_before = refl

front_after : (whole : Sexp) → closers (front_of (progress.After whole)) ≡ []
unfolding front_of
front_after whole = refl

-- what is open can be closed
pub close_real : (q : Progress) (p : ℕ) → (whole : Sexp) × (read_from p (closers (front_of q)) (front_of q) Between ≡ Ok (items_of whole))
close_real progress.Before p =
    let inner : OpenList = record { at = p; parts = [] } in
    let more = close_all 0 [] inner refl (p + 1) in (
      more.0,
      ap (λ f. read_from p (closers f) (front_of progress.Before) Between) front_before ∙
          open_read p (41 ∷ []) (front_of progress.Before) (front_of (progress.Inside [] inner)) (open-before p progress.Before [] [] refl refl refl) ∙ more.1,
    )
close_real (progress.Inside outer inner) p =
    let all = close_all (length outer) outer inner refl p in
    (all.0, ap (λ bs. read_from p bs (front_of (progress.Inside outer inner)) Between) (front_inside outer inner) ∙ all.1)
close_real (progress.After whole) p =
    (whole, ap (λ bs. read_from p bs (front_of (progress.After whole)) Between) (front_after whole) ∙ done p whole)

closers_end : (front : Front) → EndsRun (closers front)
unfolding is_run is_name_byte is_sign
closers_end Before = refl
closers_end (Inside items zero) = refl
closers_end (Inside items (suc k)) = refl
closers_end (After items) = tt

from_read : (text more : List ℕ) (s : Sexp) → read (text ++ more) ≡ Ok (items_of s) → CanGoOn text
from_read text more s e = (more, s, spelled-read (text ++ more) s e)

pub between_goes : (text : List ℕ) (front : Front) → Reach text front Between → Real front → CanGoOn text
between_goes text front r real =
    let all = close_real real.0 (length text) in
    from_read text (closers front) all.0
    (reach_read text (closers front) front Between r ∙
    subst (λ f. read_from (length text) (closers f) f Between ≡ Ok (items_of all.0)) real.1 all.1)

abbrev pub IsInside : Front → Type 0
IsInside front = (items : List Item) × (k : ℕ) × (front ≡ Inside items k)

before_same : (items : List Item) → front_of progress.Before ≡ added items (front_of progress.Before)
unfolding front_of added
before_same items = refl

after_same : (items : List Item) (whole : Sexp) → front_of (progress.After whole) ≡ added items (front_of (progress.After whole))
unfolding front_of added
after_same items whole = refl

-- a part that was read is added to real progress
pub real_added : (front : Front) (part : Sexp) → Real front → Real (added (items_of part) front)
real_added front part real = subst (λ f. Real (added (items_of part) f)) real.1 (by_progress real.0)
  where
    by_progress : (q : Progress) → Real (added (items_of part) (front_of q))
    by_progress progress.Before = (progress.Before, before_same (items_of part))
    by_progress (progress.Inside outer inner) = (
      progress.Inside outer (record { at = inner.at; parts = inner.parts ++ part ∷ [] }),
      sym (add-inside (progress.Inside outer inner) part outer inner (inner.parts ++ part ∷ []) refl refl),
    )
    by_progress (progress.After whole) = (progress.After whole, after_same (items_of part) whole)

pub added_inside : (xs items : List Item) (k : ℕ) → added xs (Inside items k) ≡ Inside (items ++ xs) k
unfolding added
added_inside xs items k = refl

-- runs

-- what a run or a front of it is read as
pub run_part : (from : ℕ) (run : List ℕ) (xs : List Item) → 0 < length run → run_items from run ≡ Ok xs → (part : Sexp) × (xs ≡ items_of part)
unfolding items_of
run_part from run xs some e =
    ⊎_elim
    (λ z. (record { at = from; node = node.Num z.0 }, z.1))
    (λ w. (record { at = from; node = node.Word run }, w.0))
    (run_writes from run xs some e)

-- a run in a list, which is closed after it
pub run_text : (text run : List ℕ) (front : Front) (xs : List Item) → Reach text front Between → Real front → (inside : IsInside front) → AreRun run → 0 < length run →
    run_items (length text) run ≡ Ok xs → IsText ((text ++ run) ++ closes inside.1)
run_text text [] front xs r real inside bytes some e = absurd (omega arith)
run_text text (b ∷ bs) front xs r real inside bytes some e =
    let part = run_part (length text) (b ∷ bs) xs some e in
    let items = inside.0 in
    let k = inside.1 in
    let grown : Front = Inside (items ++ xs) k in
    let next : Real grown =
    subst Real (ap (λ f. added (items_of part.0) f) inside.2 ∙ (added_inside (items_of part.0) items k) ∙ ap (λ ys. Inside (items ++ ys) k) (sym part.1)) (real_added front part.0 real) in
    let all = close_real next.0 (length text + length (b ∷ bs)) in
    let ends : read_from (length text + length (b ∷ bs)) (closers grown) grown Between ≡ Ok (items_of all.0) =
    subst (λ f. read_from (length text + length (b ∷ bs)) (closers f) f Between ≡ Ok (items_of all.0)) next.1 all.1 in
    let whole : read ((text ++ b ∷ bs) ++ closers grown) ≡ Ok (items_of all.0) =
    ap read (append_assoc text (b ∷ bs) (closers grown)) ∙
    reach_read text ((b ∷ bs) ++ closers grown) front Between r ∙
    ap (λ f. read_from (length text) ((b ∷ bs) ++ closers grown) f Between) inside.2 ∙
    run_read b bs (closers grown) (length text) k items xs bytes (closers_end grown) e ∙ ends in
    (all.0, spelled-read ((text ++ b ∷ bs) ++ closers grown) all.0 whole)

run_goes : (text run : List ℕ) (front : Front) (xs : List Item) → Reach text front Between → Real front → IsInside front → AreRun run → 0 < length run →
    run_items (length text) run ≡ Ok xs → CanGoOn (text ++ run)
run_goes text run front xs r real inside bytes some e =
    let t = run_text text run front xs r real inside bytes some e in (closes inside.1, t.0, t.1)

-- the longest front of a run that is a word

take_names : (bs : List ℕ) → AllByRecursion (λ c. is_name_byte c ≡ true) (take (prefix_len is_name_byte bs) bs)
take_names [] = tt
take_names (b ∷ bs) = by_name (is_name_byte b) refl (take_names bs)
  where
    by_name : (v : Bool) → is_name_byte b ≡ v → AllByRecursion (λ c. is_name_byte c ≡ true) (take (prefix_len is_name_byte bs) bs) →
        AllByRecursion (λ c. is_name_byte c ≡ true) (take (cond v (1 + prefix_len is_name_byte bs) 0) (b ∷ bs))
    by_name true t more =
        let e : suc (prefix_len is_name_byte bs) ≡ 1 + prefix_len is_name_byte bs = omega arith in
        subst (λ n. AllByRecursion (λ c. is_name_byte c ≡ true) (take n (b ∷ bs))) e (t, more)
    by_name false t more = tt

-- it is a word, or there is none
pub word_front : (run : List ℕ) → (word_end run ≡ 0) ⊎ IsWord (take (word_end run) run)
unfolding word_end
word_front [] = inl refl
word_front (b ∷ bs) = by_letter (is_letter b) refl
  where
    by_equals : (cs : List ℕ) (v : Bool) → eqb (get_or cs 0 0) 61 ≡ v → b ≡ 60 → IsWord (take (cond v 2 1) (b ∷ cs))
    by_equals [] true t e = inr (inr (e, inl refl))
    by_equals (c ∷ cs) true t e = inr (inr (e, inr (ap (λ d. d ∷ []) (eqb-true c 61 t))))
    by_equals cs false t e = inr (inr (e, inl refl))

    by_less : (v : Bool) → eqb b 60 ≡ v → (◌≡◌ {A = ℕ} (cond v (cond (eqb (get_or bs 0 0) 61) 2 1) 0) 0) ⊎ IsWord (take (cond v (cond (eqb (get_or bs 0 0) 61) 2 1) 0) (b ∷ bs))
    by_less true t = inr (by_equals bs (eqb (get_or bs 0 0) 61) refl (eqb-true b 60 t))
    by_less false t = inl refl

    by_sign : (v : Bool) → is_sign b ≡ v →
        (◌≡◌ {A = ℕ} (cond v 1 (cond (eqb b 60) (cond (eqb (get_or bs 0 0) 61) 2 1) 0)) 0) ⊎ IsWord (take (cond v 1 (cond (eqb b 60) (cond (eqb (get_or bs 0 0) 61) 2 1) 0)) (b ∷ bs))
    by_sign true t = inr (inr (inl (t, refl)))
    by_sign false t = by_less (eqb b 60) refl

    by_letter : (v : Bool) → is_letter b ≡ v →
        (◌≡◌ {A = ℕ} (cond v (prefix_len is_name_byte bs + 1) (cond (is_sign b) 1 (cond (eqb b 60) (cond (eqb (get_or bs 0 0) 61) 2 1) 0))) 0) ⊎
        IsWord (take (cond v (prefix_len is_name_byte bs + 1) (cond (is_sign b) 1 (cond (eqb b 60) (cond (eqb (get_or bs 0 0) 61) 2 1) 0))) (b ∷ bs))
    by_letter true t =
        let e : suc (prefix_len is_name_byte bs) ≡ prefix_len is_name_byte bs + 1 = omega arith in
        inr (subst (λ n. IsWord (take n (b ∷ bs))) e (inl (t, take_names bs)))
    by_letter false t = by_sign (is_sign b) refl

-- the places of the faults of a run
run_place : (from : ℕ) (run : List ℕ) (fault : TextFault) → run_items from run ≡ Err fault → (place_of fault ≡ from) ⊎ (place_of fault ≡ from + word_end run)
unfolding run_items
run_place from run fault e = by_begin (begins_number run) e
  where
    fault_place : (at : ℕ) (w : _) → ◌≡◌ {A = Result (List Item) TextFault} (refused at w) (Err fault) → place_of fault ≡ at
    fault_place at w e = let same : Refused at w ≡ fault = cc in ap place_of (sym same)

    by_number : (o : Option ℤ) → ok_or_fault {A = List Item} (option_map (λ z. Number from z ∷ []) o) (Refused from word.Number) ≡ Err fault → place_of fault ≡ from
    by_number None e = fault_place from word.Number e
    by_number (Some z) e = cc

    by_end : (v : Bool) → cond v (Ok (Name from run ∷ [])) (refused (from + word_end run) word.Byte) ≡ Err fault → place_of fault ≡ from + word_end run
    by_end true e = cc
    by_end false e = fault_place (from + word_end run) word.Byte e

    by_begin : (v : Bool) → cond v (ok_or_fault (option_map (λ z. Number from z ∷ []) (number_of run)) (Refused from word.Number)) (cond (eqb (word_end run) (length run)) (Ok (Name from run ∷ [])) (refused (from + word_end run) word.Byte)) ≡ Err fault →
        (place_of fault ≡ from) ⊎ (place_of fault ≡ from + word_end run)
    by_begin true e = inl (by_number (number_of run) e)
    by_begin false e = inr (by_end (eqb (word_end run) (length run)) e)

pub run_front : (bs : List ℕ) (n : ℕ) → AreRun bs → AreRun (take n bs)
run_front [] zero h = tt
run_front [] (suc n) h = tt
run_front (b ∷ bs) zero h = tt
run_front (b ∷ bs) (suc n) h = (h.0, run_front bs n h.1)

-- before the fault of a run the text can go on
run_fault_goes : (text run more : List ℕ) (front : Front) (fault : TextFault) → Reach text front Between → Real front → IsInside front → AreRun run →
    run_items (length text) run ≡ Err fault → CanGoOn (take (place_of fault) (text ++ (run ++ more)))
run_fault_goes text run more front fault r real inside bytes e =
    ⊎_elim
    (λ here. subst (λ n. CanGoOn (take n (text ++ (run ++ more)))) (sym here) at_run)
    (λ there. subst (λ n. CanGoOn (take n (text ++ (run ++ more)))) (sym there)
    (⊎_elim
    (λ none. subst (λ n. CanGoOn (take n (text ++ (run ++ more)))) (let z : length text ≡ length text + word_end run = omega (arith, none) in z) at_run)
    (λ w. subst CanGoOn (sym (take-append-add text (run ++ more) (word_end run) ∙ ap (λ bs. text ++ bs) (take-append-le (word_end run) run more (word_end-le run))))
    (run_goes text (take (word_end run) run) front (Name (length text) (take (word_end run) run) ∷ []) r real inside (run_front run (word_end run) bytes)
    (writes_word (take (word_end run) run) w).some (word_items (length text) (take (word_end run) run) (writes_word (take (word_end run) run) w))))
    (word_front run)))
    (run_place (length text) run fault e)
  where
    at_run : CanGoOn (take (length text) (text ++ (run ++ more)))
    at_run = subst CanGoOn (sym (take-append_seam text (run ++ more))) (between_goes text front r real)

-- what is known while a text is read

-- some escape has this first digit
abbrev pub Escapes : ℕ → Type 0
Escapes high = (low : ℕ) × (low < 16) × (is_plain (16 * high + low) ≡ false)

last_digit : ℕ → ℕ
last_digit high = cond (eqb high 2) 2 (cond (eqb high 5) 12 (cond (eqb high 7) 15 0))

last_digit_small : (high : ℕ) → last_digit high < 16
unfolding last_digit
last_digit_small high = grind (arith, nat_tests)

last_digit_escapes : (b : ℕ) → begins_escape b ≡ true → is_plain (16 * hex_value b + last_digit (hex_value b)) ≡ false
unfolding last_digit begins_escape hex_value is_plain
last_digit_escapes b h = grind (arith, nat_tests)

pub escapes : (b : ℕ) → begins_escape b ≡ true → Escapes (hex_value b)
escapes b h = (last_digit (hex_value b), last_digit_small (hex_value b), last_digit_escapes b h)

-- a string begins at this place, and the text before it can go on
abbrev pub InString : List ℕ → ℕ → Type 0
InString text from = (before rest : List ℕ) × (text ≡ before ++ rest) × (length before ≡ from) × CanGoOn before

abbrev pub InRun : List ℕ → ℕ → List ℕ → Front → Type 0
InRun text from run front = (before : List ℕ) × (text ≡ before ++ run) × (length before ≡ from) × Reach before front Between × AreRun run × IsInside front

abbrev pub Known : List ℕ → Front → Mode → Type 0
Known text front Between = Unit {0}
Known text front Comment = Unit {0}
Known text front (Run from run) = InRun text from run front × (0 < length run)
Known text front (Quoted from bytes) = InString text from
Known text front (Escape from bytes) = InString text from
Known text front (Digit from bytes high) = InString text from × Escapes high

string_more : (text : List ℕ) (b from : ℕ) → InString text from → InString (text ++ b ∷ []) from
string_more text b from s = (s.0, s.1 ++ b ∷ [], ap (λ xs. xs ++ b ∷ []) s.2 ∙ append_assoc s.0 s.1 (b ∷ []), s.3, s.4)

run_push : (run : List ℕ) (b : ℕ) → AreRun run → is_run b ≡ true → AreRun (run ++ b ∷ [])
run_push [] b h t = (t, tt)
run_push (c ∷ cs) b h t = (h.0, run_push cs b h.1 t)

real_is : (f g : Front) → Real f → ◌≡◌ {A = Result Front TextFault} (Ok f) (Ok g) → Real g
real_is f g real e = let same : f ≡ g = cc in subst Real same real

room_inside : (p : ℕ) (outer : List OpenList) (inner : OpenList) (g : Front) → opened p (front_of (progress.Inside outer inner)) ≡ Ok g → length outer + 1 < 500
unfolding front_of
room_inside p outer inner g e = (opened_room p (length outer) _ g e).0

real_opened : (p : ℕ) (front f : Front) → Real front → opened p front ≡ Ok f → Real f
real_opened p front f real e = by_progress real.0 (subst (λ g. opened p g ≡ Ok f) (sym real.1) e)
  where
    by_progress : (q : Progress) → opened p (front_of q) ≡ Ok f → Real f
    by_progress progress.Before e =
        let new : Progress = progress.Inside [] (record { at = p; parts = [] }) in
        real_is (front_of new) f (new, refl) (sym (open-before p progress.Before [] [] refl refl refl) ∙ e)
    by_progress (progress.Inside outer inner) e =
        let new : Progress = progress.Inside (outer ++ inner ∷ []) (record { at = p; parts = [] }) in
        real_is (front_of new) f (new, refl)
        (sym (open-inside p (length outer) (progress.Inside outer inner) outer (outer ++ inner ∷ []) inner [] refl refl (room_inside p outer inner f e) refl refl) ∙ e)
    by_progress (progress.After whole) e = let bad = open-after p (progress.After whole) whole refl in cc

real_closed : (p : ℕ) (front f : Front) → Real front → closed p front ≡ Ok f → Real f
real_closed p front f real e = by_progress real.0 (subst (λ g. closed p g ≡ Ok f) (sym real.1) e)
  where
    by_progress : (q : Progress) → closed p (front_of q) ≡ Ok f → Real f
    by_progress progress.Before e = let bad = close-before p progress.Before refl in cc
    by_progress (progress.Inside [] inner) e =
        let new : Progress = progress.After (record { at = inner.at; node = node.List inner.parts p }) in
        real_is (front_of new) f (new, refl) (sym (close-last p (progress.Inside [] inner) [] inner refl refl) ∙ e)
    by_progress (progress.Inside (x ∷ xs) inner) e =
        let l = last_of (length xs) (x ∷ xs) refl in
        let whole : Sexp = record { at = inner.at; node = node.List inner.parts p } in
        let new : Progress = progress.Inside l.0 (record { at = l.1.at; parts = l.1.parts ++ whole ∷ [] }) in
        real_is (front_of new) f (new, refl)
        (sym (close-inside p (progress.Inside (x ∷ xs) inner) (x ∷ xs) l.0 inner l.1 (l.1.parts ++ whole ∷ []) refl l.2 refl) ∙ e)
    by_progress (progress.After whole) e = let bad = close-after p (progress.After whole) whole refl in cc

abbrev pub Holds : List ℕ → Front × Mode → Type 0
Holds text next = Real next.0 × Known text next.0 next.1

between_known : (text : List ℕ) (b : ℕ) (front : Front) (next : Front × Mode) → CanGoOn text → Real front → (is_run b ≡ true → Reach text front Between) →
    between (length text) b front ≡ Ok next → Holds (text ++ b ∷ []) next
unfolding between
between_known text b front next goes real reach e = by_white (is_white b) e
  where
    p : ℕ
    p = length text

    by_run : (v : Bool) → is_run b ≡ v → cond v (begun p (Run p (b ∷ [])) front) (refused p word.Byte) ≡ Ok next → Holds (text ++ b ∷ []) next
    by_run true t e =
        let i = begun_next p (Run p (b ∷ [])) front next e in
        subst (Holds (text ++ b ∷ [])) i.1 (real, ((text, refl, refl, reach t, (t, tt), i.0), omega arith))
    by_run false t e = cc

    by_quote : (v : Bool) → cond v (begun p (Quoted p []) front) (cond (is_run b) (begun p (Run p (b ∷ [])) front) (refused p word.Byte)) ≡ Ok next → Holds (text ++ b ∷ []) next
    by_quote true e =
        let i = begun_next p (Quoted p []) front next e in
        subst (Holds (text ++ b ∷ [])) i.1 (real, (text, b ∷ [], refl, refl, goes))
    by_quote false e = by_run (is_run b) refl e

    by_close : (v : Bool) →
        cond v (with_mode Between (closed p front)) (cond (eqb b 34) (begun p (Quoted p []) front) (cond (is_run b) (begun p (Run p (b ∷ [])) front) (refused p word.Byte))) ≡ Ok next →
        Holds (text ++ b ∷ []) next
    by_close true e =
        let i = with_mode_next Between (closed p front) next e in
        subst (Holds (text ++ b ∷ [])) i.2 (real_closed p front i.0 real i.1, tt)
    by_close false e = by_quote (eqb b 34) e

    by_open : (v : Bool) →
        cond v (with_mode Between (opened p front)) (cond (eqb b 41) (with_mode Between (closed p front)) (cond (eqb b 34) (begun p (Quoted p []) front) (cond (is_run b) (begun p (Run p (b ∷ [])) front) (refused p word.Byte)))) ≡ Ok next →
        Holds (text ++ b ∷ []) next
    by_open true e =
        let i = with_mode_next Between (opened p front) next e in
        subst (Holds (text ++ b ∷ [])) i.2 (real_opened p front i.0 real i.1, tt)
    by_open false e = by_close (eqb b 41) e

    by_semicolon : (v : Bool) →
        cond v (Ok (front, Comment)) (cond (eqb b 40) (with_mode Between (opened p front)) (cond (eqb b 41) (with_mode Between (closed p front)) (cond (eqb b 34) (begun p (Quoted p []) front) (cond (is_run b) (begun p (Run p (b ∷ [])) front) (refused p word.Byte))))) ≡ Ok next →
        Holds (text ++ b ∷ []) next
    by_semicolon true e = let i : (front, Comment) ≡ next = cc in subst (Holds (text ++ b ∷ [])) i (real, tt)
    by_semicolon false e = by_open (eqb b 40) e

    by_white : (v : Bool) →
        cond v (Ok (front, Between)) (cond (eqb b 59) (Ok (front, Comment)) (cond (eqb b 40) (with_mode Between (opened p front)) (cond (eqb b 41) (with_mode Between (closed p front)) (cond (eqb b 34) (begun p (Quoted p []) front) (cond (is_run b) (begun p (Run p (b ∷ [])) front) (refused p word.Byte)))))) ≡ Ok next →
        Holds (text ++ b ∷ []) next
    by_white true e = let i : (front, Between) ≡ next = cc in subst (Holds (text ++ b ∷ [])) i (real, tt)
    by_white false e = by_semicolon (eqb b 59) e

pub step_between : (p b : ℕ) (front : Front) → step p b front Between ≡ between p b front
unfolding step
step_between p b front = refl

comment_known : (text : List ℕ) (b : ℕ) (front : Front) (next : Front × Mode) → Real front → step (length text) b front Comment ≡ Ok next → Holds (text ++ b ∷ []) next
unfolding step
comment_known text b front next real e = by_line_feed (eqb b 10) e
  where
    by_line_feed : (v : Bool) → ◌≡◌ {A = Result (Front × Mode) TextFault} (cond v (Ok (front, Between)) (Ok (front, Comment))) (Ok next) → Holds (text ++ b ∷ []) next
    by_line_feed true e = let i : (front, Between) ≡ next = cc in subst (Holds (text ++ b ∷ [])) i (real, tt)
    by_line_feed false e = let i : (front, Comment) ≡ next = cc in subst (Holds (text ++ b ∷ [])) i (real, tt)

-- where a run ends well, the text before it and the run can go on
whole_run_goes : (text : List ℕ) (from : ℕ) (run : List ℕ) (front : Front) (xs : List Item) → Real front → InRun text from run front → 0 < length run →
    run_items from run ≡ Ok xs → CanGoOn text
whole_run_goes text from run front xs real k some e =
    subst CanGoOn (sym k.1) (run_goes k.0 run front xs k.3 real k.5 k.4 some (ap (λ q. run_items q run) k.2 ∙ e))

run_known : (text : List ℕ) (b from : ℕ) (run : List ℕ) (front : Front) (next : Front × Mode) → Real front → Known text front (Run from run) →
    step (length text) b front (Run from run) ≡ Ok next → Holds (text ++ b ∷ []) next
unfolding step
run_known text b from run front next real known e = by_run (is_run b) refl e
  where
    k : InRun text from run front
    k = known.0

    by_run : (v : Bool) → is_run b ≡ v → cond v (Ok (front, Run from (run ++ b ∷ []))) (with_items front (run_items from run) >>= λ f. between (length text) b f) ≡ Ok next →
        Holds (text ++ b ∷ []) next
    by_run true t e =
        let i : (front, Run from (run ++ b ∷ [])) ≡ next = cc in
        subst (Holds (text ++ b ∷ [])) i
        (real, ((k.0, ap (λ xs. xs ++ b ∷ []) k.1 ∙ append_assoc k.0 run (b ∷ []), k.2, k.3, run_push run b k.4 t, k.5), omega (arith, length-append run (b ∷ []))))
    by_run false t e =
        let one = bound (with_items front (run_items from run)) (λ f. between (length text) b f) next e in
        let two = bound (run_items from run) (λ more. Ok (added more front)) one.0 one.1 in
        let part = run_part from run two.0 known.1 two.1 in
        let grown : Real (added two.0 front) = subst (λ xs. Real (added xs front)) (sym part.1) (real_added front part.0 real) in
        let there : Real one.0 = real_is (added two.0 front) one.0 grown two.2 in
        between_known text b one.0 next (whole_run_goes text from run front two.0 real k known.1 two.1) there (λ run. absurd (differ run t)) one.2
      where
        differ : is_run b ≡ true → is_run b ≡ false → ⊥
        differ h k = cc

string_known : (text : List ℕ) (b from : ℕ) (bytes : List ℕ) (front : Front) (next : Front × Mode) → Real front → InString text from →
    step (length text) b front (Quoted from bytes) ≡ Ok next → Holds (text ++ b ∷ []) next
unfolding step in_string items_of
string_known text b from bytes front next real k e = by_quote (eqb b 34) e
  where
    more : InString (text ++ b ∷ []) from
    more = string_more text b from k

    by_plain : (v : Bool) → cond v (Ok (front, Quoted from (bytes ++ b ∷ []))) (refused from word.String) ≡ Ok next → Holds (text ++ b ∷ []) next
    by_plain true e = let i : (front, Quoted from (bytes ++ b ∷ [])) ≡ next = cc in subst (Holds (text ++ b ∷ [])) i (real, more)
    by_plain false e = cc

    by_backslash : (v : Bool) → cond v (Ok (front, Escape from bytes)) (cond (is_plain b) (Ok (front, Quoted from (bytes ++ b ∷ []))) (refused from word.String)) ≡ Ok next →
        Holds (text ++ b ∷ []) next
    by_backslash true e = let i : (front, Escape from bytes) ≡ next = cc in subst (Holds (text ++ b ∷ [])) i (real, more)
    by_backslash false e = by_plain (is_plain b) e

    by_quote : (v : Bool) →
        cond v (with_mode Between (with_items front (string_items from bytes))) (cond (eqb b 92) (Ok (front, Escape from bytes)) (cond (is_plain b) (Ok (front, Quoted from (bytes ++ b ∷ []))) (refused from word.String))) ≡ Ok next →
        Holds (text ++ b ∷ []) next
    by_quote true e =
        let one = with_mode_next Between (with_items front (string_items from bytes)) next e in
        let two = bound (string_items from bytes) (λ more. Ok (added more front)) one.0 one.1 in
        let item = string_item from bytes two.0 two.1 in
        let part : Sexp = record { at = from; node = node.Str bytes } in
        let grown : Real (added two.0 front) = subst (λ xs. Real (added xs front)) (sym item.0) (real_added front part real) in
        subst (Holds (text ++ b ∷ [])) one.2 (real_is (added two.0 front) one.0 grown two.2, tt)
    by_quote false e = by_backslash (eqb b 92) e

escape_known : (text : List ℕ) (b from : ℕ) (bytes : List ℕ) (front : Front) (next : Front × Mode) → Real front → InString text from →
    step (length text) b front (Escape from bytes) ≡ Ok next → Holds (text ++ b ∷ []) next
unfolding step first_digit
escape_known text b from bytes front next real k e = by_first (begins_escape b) refl e
  where
    by_first : (v : Bool) → begins_escape b ≡ v → cond v (Ok (front, Digit from bytes (hex_value b))) (refused from word.String) ≡ Ok next → Holds (text ++ b ∷ []) next
    by_first true t e =
        let i : (front, Digit from bytes (hex_value b)) ≡ next = cc in
        subst (Holds (text ++ b ∷ [])) i (real, (string_more text b from k, escapes b t))
    by_first false t e = cc

digit_known : (text : List ℕ) (b from : ℕ) (bytes : List ℕ) (high : ℕ) (front : Front) (next : Front × Mode) → Real front → InString text from →
    step (length text) b front (Digit from bytes high) ≡ Ok next → Holds (text ++ b ∷ []) next
unfolding step second_digit
digit_known text b from bytes high front next real k e = by_hex (is_hex b) e
  where
    by_plain : (v : Bool) → cond v (refused from word.String) (Ok (front, Quoted from (bytes ++ (16 * high + hex_value b) ∷ []))) ≡ Ok next → Holds (text ++ b ∷ []) next
    by_plain true e = cc
    by_plain false e = let i : (front, Quoted from (bytes ++ (16 * high + hex_value b) ∷ [])) ≡ next = cc in subst (Holds (text ++ b ∷ [])) i (real, string_more text b from k)

    by_hex : (v : Bool) →
        cond v (cond (is_plain (16 * high + hex_value b)) (refused from word.String) (Ok (front, Quoted from (bytes ++ (16 * high + hex_value b) ∷ [])))) (refused from word.String) ≡ Ok next →
        Holds (text ++ b ∷ []) next
    by_hex true e = by_plain (is_plain (16 * high + hex_value b)) e
    by_hex false e = cc

pub step_known : (text : List ℕ) (b : ℕ) (front : Front) (mode : Mode) (next : Front × Mode) → Reach text front mode → Holds text (front, mode) →
    step (length text) b front mode ≡ Ok next → Holds (text ++ b ∷ []) next
step_known text b front Between next r h e =
    between_known text b front next (between_goes text front r h.0) h.0 (λ _. r) (sym (step_between (length text) b front) ∙ e)
step_known text b front Comment next r h e = comment_known text b front next h.0 e
step_known text b front (Run from run) next r h e = run_known text b from run front next h.0 h.1 e
step_known text b front (Quoted from bytes) next r h e = string_known text b from bytes front next h.0 h.1 e
step_known text b front (Escape from bytes) next r h e = escape_known text b from bytes front next h.0 h.1 e
step_known text b front (Digit from bytes high) next r h e = digit_known text b from bytes high front next h.0 h.1.0 e

-- the faults that a step may have

abbrev pub Errs : {A : Type 0} → (TextFault → Type 0) → Result A TextFault → Type 0
Errs P (Ok x) = Unit {0}
Errs P (Err e) = P e

pub cond_errs : {A : Type 0} (P : TextFault → Type 0) (v : Bool) (r s : Result A TextFault) → Errs P r → Errs P s → Errs P (cond v r s)
cond_errs P true r s h k = h
cond_errs P false r s h k = k

pub bind_errs : {A B : Type 0} (P : TextFault → Type 0) (r : Result A TextFault) (f : A → Result B TextFault) → Errs P r → ((x : A) → Errs P (f x)) → Errs P (r >>= f)
bind_errs P (Ok x) f h k = k x
bind_errs P (Err e) f h k = h

pub errs_at : {A : Type 0} (P : TextFault → Type 0) (r : Result A TextFault) (fault : TextFault) → Errs P r → r ≡ Err fault → P fault
errs_at P (Ok x) fault h e = cc
errs_at P (Err d) fault h e = let same : d ≡ fault = cc in subst P same h

-- what a fault between the parts may be
abbrev Stops : ℕ → TextFault → Type 0
Stops p fault = (place_of fault ≡ p) × IsNoEnd fault

byte_stops : (p : ℕ) → Stops p (Refused p word.Byte)
byte_stops p = (refl, λ e. cc)

rest_stops : (p : ℕ) → Stops p (Refused p word.Rest)
rest_stops p = (refl, λ e. cc)

close_stops : (p : ℕ) → Stops p (Refused p word.Close)
close_stops p = (refl, λ e. cc)

string_stops : (p : ℕ) → Stops p (Refused p word.String)
string_stops p = (refl, λ e. cc)

utf8_stops : (p : ℕ) → Stops p (Refused p word.Utf8)
utf8_stops p = (refl, λ e. cc)

opened_errs : (p : ℕ) (front : Front) → Errs (Stops p) (opened p front)
unfolding opened
opened_errs p Before = tt
opened_errs p (Inside items k) =
    cond_errs (Stops p) (ltb (k + 1) 500) (Ok (Inside (items ++ Open p ∷ []) (k + 1))) (Err (Limit p Nesting)) tt (refl, tt)
opened_errs p (After items) = rest_stops p

closed_errs : (p : ℕ) (front : Front) → Errs (Stops p) (closed p front)
unfolding closed
closed_errs p Before = close_stops p
closed_errs p (Inside items zero) = tt
closed_errs p (Inside items (suc k)) = tt
closed_errs p (After items) = close_stops p

begun_errs : (p : ℕ) (mode : Mode) (front : Front) → Errs (Stops p) (begun p mode front)
unfolding begun
begun_errs p mode Before = byte_stops p
begun_errs p mode (Inside items k) = tt
begun_errs p mode (After items) = rest_stops p

between_errs : (p b : ℕ) (front : Front) → Errs (Stops p) (between p b front)
unfolding between
between_errs p b front =
    cond_errs (Stops p) (is_white b) _ _ tt
    (cond_errs (Stops p) (eqb b 59) _ _ tt
    (cond_errs (Stops p) (eqb b 40) _ _ (bind_errs (Stops p) (opened p front) (λ f. Ok (f, Between)) (opened_errs p front) (λ f. tt))
    (cond_errs (Stops p) (eqb b 41) _ _ (bind_errs (Stops p) (closed p front) (λ f. Ok (f, Between)) (closed_errs p front) (λ f. tt))
    (cond_errs (Stops p) (eqb b 34) _ _ (begun_errs p (Quoted p []) front)
    (cond_errs (Stops p) (is_run b) _ _ (begun_errs p (Run p (b ∷ [])) front) (byte_stops p))))))

string_items_errs : (from : ℕ) (bytes : List ℕ) → Errs (Stops from) (string_items from bytes)
unfolding string_items
string_items_errs from bytes = cond_errs (Stops from) (is_utf8 bytes) _ _ tt (utf8_stops from)

in_string_errs : (b from : ℕ) (bytes : List ℕ) (front : Front) → Errs (Stops from) (in_string b from bytes front)
unfolding in_string
in_string_errs b from bytes front =
    cond_errs (Stops from) (eqb b 34) _ _
    (bind_errs (Stops from) (with_items front (string_items from bytes)) (λ f. Ok (f, Between))
    (bind_errs (Stops from) (string_items from bytes) (λ more. Ok (added more front)) (string_items_errs from bytes) (λ more. tt)) (λ f. tt))
    (cond_errs (Stops from) (eqb b 92) _ _ tt (cond_errs (Stops from) (is_plain b) _ _ tt (string_stops from)))

first_digit_errs : (b from : ℕ) (bytes : List ℕ) (front : Front) → Errs (Stops from) (first_digit b from bytes front)
unfolding first_digit
first_digit_errs b from bytes front = cond_errs (Stops from) (begins_escape b) _ _ tt (string_stops from)

second_digit_errs : (b from : ℕ) (bytes : List ℕ) (high : ℕ) (front : Front) → Errs (Stops from) (second_digit b from bytes high front)
unfolding second_digit
second_digit_errs b from bytes high front =
    cond_errs (Stops from) (is_hex b) _ _ (cond_errs (Stops from) (is_plain (16 * high + hex_value b)) _ _ (string_stops from) tt) (string_stops from)

-- before the fault of a step the text can go on

place_goes : (before rest : List ℕ) (fault : TextFault) → CanGoOn before → place_of fault ≡ length before → CanGoOn (take (place_of fault) (before ++ rest))
place_goes before rest fault goes e =
    subst (λ n. CanGoOn (take n (before ++ rest))) (sym e) (subst CanGoOn (sym (take-append_seam before rest)) goes)

string_goes : (text rest : List ℕ) (from : ℕ) (fault : TextFault) → InString text from → place_of fault ≡ from → CanGoOn (take (place_of fault) (text ++ rest))
string_goes text rest from fault k e =
    subst (λ bs. CanGoOn (take (place_of fault) bs)) (sym (ap (λ xs. xs ++ rest) k.2 ∙ append_assoc k.0 k.1 rest))
    (place_goes k.0 (k.1 ++ rest) fault k.4 (e ∙ sym k.3))

in_run_goes : (text rest : List ℕ) (from : ℕ) (run : List ℕ) (front : Front) (fault : TextFault) → Real front → InRun text from run front → run_items from run ≡ Err fault →
    CanGoOn (take (place_of fault) (text ++ rest))
in_run_goes text rest from run front fault real k e =
    subst (λ bs. CanGoOn (take (place_of fault) bs)) (sym (ap (λ xs. xs ++ rest) k.1 ∙ append_assoc k.0 run rest))
    (run_fault_goes k.0 run rest front fault k.3 real k.5 k.4 (ap (λ q. run_items q run) k.2 ∙ e))

pub comment_fault : (p b : ℕ) (front : Front) (fault : TextFault) → step p b front Comment ≡ Err fault → ⊥
unfolding step
comment_fault p b front fault e = by_line_feed (eqb b 10) e
  where
    by_line_feed : (v : Bool) → ◌≡◌ {A = Result (Front × Mode) TextFault} (cond v (Ok (front, Between)) (Ok (front, Comment))) (Err fault) → ⊥
    by_line_feed true e = cc
    by_line_feed false e = cc

run_step_goes : (text rest : List ℕ) (b from : ℕ) (run : List ℕ) (front : Front) (fault : TextFault) → Real front → Known text front (Run from run) →
    step (length text) b front (Run from run) ≡ Err fault → CanGoOn (take (place_of fault) (text ++ rest))
unfolding step
run_step_goes text rest b from run front fault real known e = by_run (is_run b) e
  where
    by_items : (r : Result (List Item) TextFault) → run_items from run ≡ r → ◌≡◌ {A = Result (Front × Mode) TextFault} (with_items front r >>= λ f. between (length text) b f) (Err fault) →
        CanGoOn (take (place_of fault) (text ++ rest))
    by_items (Ok xs) i e =
        place_goes text rest fault (whole_run_goes text from run front xs real known.0 known.1 i) (errs_at (Stops (length text)) (between (length text) b (added xs front)) fault (between_errs (length text) b (added xs front)) e).0
    by_items (Err d) i e = in_run_goes text rest from run front fault real known.0 (i ∙ error_same e)
      where
        error_same : ◌≡◌ {A = Result (Front × Mode) TextFault} (Err d) (Err fault) → ◌≡◌ {A = Result (List Item) TextFault} (Err d) (Err fault)
        error_same e = cc

    by_run : (v : Bool) → cond v (Ok (front, Run from (run ++ b ∷ []))) (with_items front (run_items from run) >>= λ f. between (length text) b f) ≡ Err fault →
        CanGoOn (take (place_of fault) (text ++ rest))
    by_run true e = cc
    by_run false e = by_items (run_items from run) refl e

pub step_string : (p b from : ℕ) (bytes : List ℕ) (front : Front) → step p b front (Quoted from bytes) ≡ in_string b from bytes front
unfolding step
step_string p b from bytes front = refl

pub step_escape : (p b from : ℕ) (bytes : List ℕ) (front : Front) → step p b front (Escape from bytes) ≡ first_digit b from bytes front
unfolding step
step_escape p b from bytes front = refl

pub step_digit : (p b from : ℕ) (bytes : List ℕ) (high : ℕ) (front : Front) → step p b front (Digit from bytes high) ≡ second_digit b from bytes high front
unfolding step
step_digit p b from bytes high front = refl

step_goes : (text rest : List ℕ) (b : ℕ) (front : Front) (mode : Mode) (fault : TextFault) → Reach text front mode → Holds text (front, mode) →
    step (length text) b front mode ≡ Err fault → CanGoOn (take (place_of fault) (text ++ rest))
step_goes text rest b front Between fault r h e =
    place_goes text rest fault (between_goes text front r h.0)
    (errs_at (Stops (length text)) (between (length text) b front) fault (between_errs (length text) b front) (sym (step_between (length text) b front) ∙ e)).0
step_goes text rest b front Comment fault r h e = absurd (comment_fault (length text) b front fault e)
step_goes text rest b front (Run from run) fault r h e = run_step_goes text rest b from run front fault h.0 h.1 e
step_goes text rest b front (Quoted from bytes) fault r h e =
    string_goes text rest from fault h.1 (errs_at (Stops from) (in_string b from bytes front) fault (in_string_errs b from bytes front) (sym (step_string (length text) b from bytes front) ∙ e)).0
step_goes text rest b front (Escape from bytes) fault r h e =
    string_goes text rest from fault h.1 (errs_at (Stops from) (first_digit b from bytes front) fault (first_digit_errs b from bytes front) (sym (step_escape (length text) b from bytes front) ∙ e)).0
step_goes text rest b front (Digit from bytes high) fault r h e =
    string_goes text rest from fault h.1.0 (errs_at (Stops from) (second_digit b from bytes high front) fault (second_digit_errs b from bytes high front) (sym (step_digit (length text) b from bytes high front) ∙ e)).0

end_goes : (text : List ℕ) (front : Front) (mode : Mode) (fault : TextFault) → Holds text (front, mode) → finish (length text) front mode ≡ Err fault → IsNoEnd fault →
    CanGoOn (take (place_of fault) (text ++ []))
end_goes text front mode fault h e n =
    let f = end_fault (length text) front mode fault e n in
    let known : Known text front (Run f.0 f.1) = subst (Known text front) f.2 h.1 in
    in_run_goes text [] f.0 f.1 front fault h.0 known.0 f.3

-- from what is known after some text
goes : (rest text : List ℕ) (front : Front) (mode : Mode) (fault : TextFault) → Reach text front mode → Holds text (front, mode) →
    read_from (length text) rest front mode ≡ Err fault → IsNoEnd fault → CanGoOn (take (place_of fault) (text ++ rest))
goes [] text front mode fault r h e n = end_goes text front mode fault h e n
goes (b ∷ bs) text front mode fault r h e n =
    by_step (step (length text) b front mode) refl (λ next r2 h2 e2. goes bs (text ++ b ∷ []) next.0 next.1 fault r2 h2 e2 n) e
  where
    by_step : (s : Result (Front × Mode) TextFault) → step (length text) b front mode ≡ s →
        ((next : Front × Mode) → Reach (text ++ b ∷ []) next.0 next.1 → Holds (text ++ b ∷ []) next → read_from (length (text ++ b ∷ [])) bs next.0 next.1 ≡ Err fault →
        CanGoOn (take (place_of fault) ((text ++ b ∷ []) ++ bs))) →
        go_on (length text + 1) bs s ≡ Err fault → CanGoOn (take (place_of fault) (text ++ b ∷ bs))
    by_step (Ok next) i more e =
        let longer : length (text ++ b ∷ []) ≡ length text + 1 = omega (arith, length-append text (b ∷ [])) in
        subst (λ xs. CanGoOn (take (place_of fault) xs)) (append_assoc text (b ∷ []) bs)
        (more next (reach_more text b front mode next r i) (step_known text b front mode next r h i) (place _ _ bs next.0 next.1 longer ∙ e))
    by_step (Err d) i more e = step_goes text (b ∷ bs) b front mode fault r h (i ∙ error_same e)
      where
        error_same : ◌≡◌ {A = Result (List Item) TextFault} (Err d) (Err fault) → ◌≡◌ {A = Result (Front × Mode) TextFault} (Err d) (Err fault)
        error_same e = cc

pub fault_front : (text : List ℕ) (fault : TextFault) → read text ≡ Err fault → IsNoEnd fault → CanGoOn (take (place_of fault) text)
unfolding read
fault_front text fault e n = goes text [] Before Between fault refl ((progress.Before, front_before), tt) e n

-- a text that ends too early is refused at its length

no_end : {A : Type 0} (p : ℕ) (r : Result A TextFault) → Errs (Stops p) r → Errs IsNoEnd r
no_end p (Ok x) h = tt
no_end p (Err d) h = h.1

number_no_end : (from : ℕ) → IsNoEnd (Refused from word.Number)
number_no_end from e = cc

byte_no_end : (at : ℕ) → IsNoEnd (Refused at word.Byte)
byte_no_end at e = cc

run_items_errs : (from : ℕ) (run : List ℕ) → Errs IsNoEnd (run_items from run)
unfolding run_items
run_items_errs from run =
    cond_errs IsNoEnd (begins_number run) _ _ (by_number (number_of run))
    (cond_errs IsNoEnd (eqb (word_end run) (length run)) _ _ tt (byte_no_end (from + word_end run)))
  where
    by_number : (o : Option ℤ) → Errs {A = List Item} IsNoEnd (ok_or_fault (option_map (λ z. Number from z ∷ []) o) (Refused from word.Number))
    by_number None = number_no_end from
    by_number (Some z) = tt

step_errs : (p b : ℕ) (front : Front) (mode : Mode) → Errs IsNoEnd (step p b front mode)
unfolding step
step_errs p b front Between = no_end p (between p b front) (between_errs p b front)
step_errs p b front Comment = cond_errs IsNoEnd (eqb b 10) (Ok (front, Between)) (Ok (front, Comment)) tt tt
step_errs p b front (Run from run) =
    cond_errs IsNoEnd (is_run b) (Ok (front, Run from (run ++ b ∷ []))) (with_items front (run_items from run) >>= λ f. between p b f) tt
    (bind_errs IsNoEnd (with_items front (run_items from run)) (λ f. between p b f)
    (bind_errs IsNoEnd (run_items from run) (λ more. Ok (added more front)) (run_items_errs from run) (λ more. tt)) (λ f. no_end p (between p b f) (between_errs p b f)))
step_errs p b front (Quoted from bytes) = no_end from (in_string b from bytes front) (in_string_errs b from bytes front)
step_errs p b front (Escape from bytes) = no_end from (first_digit b from bytes front) (first_digit_errs b from bytes front)
step_errs p b front (Digit from bytes high) = no_end from (second_digit b from bytes high front) (second_digit_errs b from bytes high front)

end_place : (at p : ℕ) (front : Front) (mode : Mode) → finish p front mode ≡ Err (Refused at word.End) → at ≡ p
unfolding finish
end_place at p Before Between e = cc
end_place at p (Inside items k) Between e = cc
end_place at p (After items) Between e = cc
end_place at p Before Comment e = cc
end_place at p (Inside items k) Comment e = cc
end_place at p (After items) Comment e = cc
end_place at p front (Run from run) e = by_items (run_items from run) (run_items_errs from run) e
  where
    by_items : (r : Result (List Item) TextFault) → Errs IsNoEnd r → ◌≡◌ {A = Result (List Item) TextFault} (with_items front r >>= λ f. refused p word.End) (Err (Refused at word.End)) → at ≡ p
    by_items (Ok xs) h e = cc
    by_items (Err d) h e = absurd (errs_at IsNoEnd (Err d) (Refused at word.End) h e refl)
end_place at p front (Quoted from bytes) e = cc
end_place at p front (Escape from bytes) e = cc
end_place at p front (Digit from bytes high) e = cc

end_at : (rest : List ℕ) (at p : ℕ) (front : Front) (mode : Mode) → read_from p rest front mode ≡ Err (Refused at word.End) → at ≡ p + length rest
end_at [] at p front mode e = let here = end_place at p front mode e in omega (arith, here)
end_at (b ∷ bs) at p front mode e = by_step (step p b front mode) (step_errs p b front mode) (λ next e. end_at bs at (p + 1) next.0 next.1 e) e
  where
    by_step : (s : Result (Front × Mode) TextFault) → Errs IsNoEnd s →
        ((next : Front × Mode) → read_from (p + 1) bs next.0 next.1 ≡ Err (Refused at word.End) → at ≡ p + 1 + length bs) →
        go_on (p + 1) bs s ≡ Err (Refused at word.End) → at ≡ p + length (b ∷ bs)
    by_step (Ok next) h more e = let there = more next e in omega (arith, there)
    by_step (Err d) h more e = absurd (errs_at IsNoEnd (errors d) (Refused at word.End) h e refl)
      where
        errors : TextFault → Result (List Item) TextFault
        errors d = Err d

pub end_of_text : (text : List ℕ) (at : ℕ) → read text ≡ Err (Refused at word.End) → at ≡ length text
unfolding read
end_of_text text at e = let there = end_at text at 0 Before Between e in omega (arith, there)

-- a text that ends too early can be mended

cut_by : (text : List ℕ) (b : ℕ) → IsCut (text ++ b ∷ []) → IsCut text
cut_by text b c =
    (b ∷ c.0, subst (λ bs. CanGoOn bs ⊎ ((from : ℕ) × (read bs ≡ refused from word.Utf8))) (append_assoc text (b ∷ []) c.0) c.1)

cut_here : (text : List ℕ) → CanGoOn text → IsCut text
cut_here text h = ([], inl (subst CanGoOn (sym (append-nil text)) h))

string_items_fault : (from : ℕ) (bytes : List ℕ) → Errs (λ f. f ≡ Refused from word.Utf8) (string_items from bytes)
unfolding string_items
string_items_fault from bytes = cond_errs (λ f. f ≡ Refused from word.Utf8) (is_utf8 bytes) _ _ tt refl

ends : (from : ℕ) (bytes : List ℕ) (xs : List Item) (front : Front) → string_items from bytes ≡ Ok xs → in_string 34 from bytes front ≡ Ok (added xs front, Between)
unfolding in_string
ends from bytes xs front e = rw e refl

fails : (from : ℕ) (bytes : List ℕ) (d : TextFault) (front : Front) → string_items from bytes ≡ Err d → in_string 34 from bytes front ≡ Err d
unfolding in_string
fails from bytes d front e = rw e refl

zero_digit : (p from : ℕ) (bytes : List ℕ) (front : Front) → step p 48 front (Escape from bytes) ≡ Ok (front, Digit from bytes 0)
unfolding step first_digit begins_escape hex_value
zero_digit p from bytes front = refl

string_cut : (text : List ℕ) (from : ℕ) (bytes : List ℕ) (front : Front) → Reach text front (Quoted from bytes) → Holds text (front, Quoted from bytes) → IsCut text
string_cut text from bytes front r h = by_items (string_items from bytes) refl (string_items_fault from bytes)
  where
    by_items : (r : Result (List Item) TextFault) → string_items from bytes ≡ r → Errs (λ f. f ≡ Refused from word.Utf8) r → IsCut text
    by_items (Ok xs) i u =
        let closes_it : step (length text) 34 front (Quoted from bytes) ≡ Ok (added xs front, Between) = step_string (length text) 34 from bytes front ∙ ends from bytes xs front i in
        cut_by text 34 (cut_here (text ++ 34 ∷ [])
        (between_goes (text ++ 34 ∷ []) (added xs front) (reach_more text 34 front (Quoted from bytes) (added xs front, Between) r closes_it)
        (step_known text 34 front (Quoted from bytes) (added xs front, Between) r h closes_it).0))
    by_items (Err d) i u = (
      34 ∷ [],
      inr (
        from,
        reach_read text (34 ∷ []) front (Quoted from bytes) r ∙
            ap (go_on (length text + 1) []) (step_string (length text) 34 from bytes front ∙ fails from bytes (Refused from word.Utf8) front (i ∙ ap (λ f. Err f) u)),
      ),
    )

digit_cut : (text : List ℕ) (from : ℕ) (bytes : List ℕ) (high : ℕ) (front : Front) → Reach text front (Digit from bytes high) → Holds text (front, Digit from bytes high) → IsCut text
digit_cut text from bytes high front r h =
    let low = h.1.1.0 in
    let d = digit_of low h.1.1.1 in
    let next : Front × Mode = (front, Quoted from (bytes ++ (16 * high + low) ∷ [])) in
    let e : step (length text) (digit_char low) front (Digit from bytes high) ≡ Ok next =
    step_second (length text) high low (16 * high + low) from bytes front d.0 d.1 refl h.1.1.2 in
    cut_by text (digit_char low)
    (string_cut (text ++ digit_char low ∷ []) from (bytes ++ (16 * high + low) ∷ []) front (reach_more text (digit_char low) front (Digit from bytes high) next r e)
    (step_known text (digit_char low) front (Digit from bytes high) next r h e))

escape_cut : (text : List ℕ) (from : ℕ) (bytes : List ℕ) (front : Front) → Reach text front (Escape from bytes) → Holds text (front, Escape from bytes) → IsCut text
escape_cut text from bytes front r h =
    let next : Front × Mode = (front, Digit from bytes 0) in
    let e : step (length text) 48 front (Escape from bytes) ≡ Ok next = zero_digit (length text) from bytes front in
    cut_by text 48
    (digit_cut (text ++ 48 ∷ []) from bytes 0 front (reach_more text 48 front (Escape from bytes) next r e) (step_known text 48 front (Escape from bytes) next r h e))

comment_cut : (text : List ℕ) (front : Front) → Reach text front Comment → Holds text (front, Comment) → IsCut text
comment_cut text front r h =
    let e = step_line_feed (length text) front in
    cut_by text 10 (cut_here (text ++ 10 ∷ []) (between_goes (text ++ 10 ∷ []) front (reach_more text 10 front Comment (front, Between) r e) h.0))

end_cut : (text : List ℕ) (at : ℕ) (front : Front) (mode : Mode) → Reach text front mode → Holds text (front, mode) → finish (length text) front mode ≡ Err (Refused at word.End) → IsCut text
unfolding finish
end_cut text at front Between r h e = cut_here text (between_goes text front r h.0)
end_cut text at front Comment r h e = comment_cut text front r h
end_cut text at front (Run from run) r h e = by_items (run_items from run) refl (run_items_errs from run) e
  where
    by_items : (r : Result (List Item) TextFault) → run_items from run ≡ r → Errs IsNoEnd r → ◌≡◌ {A = Result (List Item) TextFault} (with_items front r >>= λ f. refused (length text) word.End) (Err (Refused at word.End)) → IsCut text
    by_items (Ok xs) i n e = cut_here text (whole_run_goes text from run front xs h.0 h.1.0 h.1.1 i)
    by_items (Err d) i n e = absurd (errs_at IsNoEnd (Err d) (Refused at word.End) n e refl)
end_cut text at front (Quoted from bytes) r h e = string_cut text from bytes front r h
end_cut text at front (Escape from bytes) r h e = escape_cut text from bytes front r h
end_cut text at front (Digit from bytes high) r h e = digit_cut text from bytes high front r h

cut : (rest text : List ℕ) (at : ℕ) (front : Front) (mode : Mode) → Reach text front mode → Holds text (front, mode) →
    read_from (length text) rest front mode ≡ Err (Refused at word.End) → IsCut (text ++ rest)
cut [] text at front mode r h e = subst IsCut (sym (append-nil text)) (end_cut text at front mode r h e)
cut (b ∷ bs) text at front mode r h e =
    by_step (step (length text) b front mode) refl (step_errs (length text) b front mode) (λ next r2 h2 e2. cut bs (text ++ b ∷ []) at next.0 next.1 r2 h2 e2) e
  where
    by_step : (s : Result (Front × Mode) TextFault) → step (length text) b front mode ≡ s → Errs IsNoEnd s →
        ((next : Front × Mode) → Reach (text ++ b ∷ []) next.0 next.1 → Holds (text ++ b ∷ []) next → read_from (length (text ++ b ∷ [])) bs next.0 next.1 ≡ Err (Refused at word.End) →
        IsCut ((text ++ b ∷ []) ++ bs)) →
        go_on (length text + 1) bs s ≡ Err (Refused at word.End) → IsCut (text ++ b ∷ bs)
    by_step (Ok next) i n more e =
        let longer : length (text ++ b ∷ []) ≡ length text + 1 = omega (arith, length-append text (b ∷ [])) in
        subst IsCut (append_assoc text (b ∷ []) bs)
        (more next (reach_more text b front mode next r i) (step_known text b front mode next r h i) (place _ _ bs next.0 next.1 longer ∙ e))
    by_step (Err d) i n more e = absurd (errs_at IsNoEnd (errors d) (Refused at word.End) n e refl)
      where
        errors : TextFault → Result (List Item) TextFault
        errors d = Err d

pub text_cut : (text : List ℕ) (at : ℕ) → read text ≡ Err (Refused at word.End) → IsCut text
unfolding read
text_cut text at e = cut text [] at Before Between refl ((progress.Before, front_before), tt) e
