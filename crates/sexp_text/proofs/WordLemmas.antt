-- What is refused, and with which word.
use Rattle.std.proofs.Common.{◌≡◌, ℕ, zero, suc, ℤ, ◌+◌, ◌*◌, ◌/◌, ◌%◌, ◌<◌, ◌≤◌, Bool, true, false, cond, eqb, ltb, ◌⊎◌, inl, inr, ⊎_elim, List, [], ◌∷◌, ◌++◌, length, take, drop, replicate, Option, Some, None, Result, Ok, Err, refl, sym, ap, ◌∙◌, subst, append_assoc, length-append, arith}
use Rattle.std.proofs.lemmas.Bool.{eqb-true, eqb-false, ltb-false, cases_lt}
use Rattle.std.proofs.lemmas.Bool.Decides.{nat_tests}
use Rattle.std.proofs.lemmas.Grind.{flat_map-append}
use Rattle.std.proofs.lemmas.List.{append-nil, take-append-drop, length-take-le}
use Rattle.std.proofs.lemmas.Str.{is_utf8-from_IsUtf8}
use Rattle.std.specs.Char.{digit_char}
use Rattle.std.specs.Option.{option_map}
use Rattle.std.specs.Str.{is_utf8}
use Rattle.std.specs.List.{flat_map}
use Rattle.sexp_text.specs.declared.fault.TextFault.{TextFault}
use Rattle.sexp_text.specs.declared.fault.TextFault.TheVariants.{Refused, Limit}
use Rattle.sexp_text.specs.declared.fault.TextWord.TheVariants as word
use Rattle.wasm_values.specs.declared.limit.LimitWord.TheVariants.{Nesting}
use Rattle.sexp_text.specs.declared.reader.Mode.{Mode}
use Rattle.sexp_text.specs.declared.reader.Mode.TheVariants.{Between, Comment, Run, Quoted, Escape, Digit}
use Rattle.sexp_text.specs.declared.reader.Progress.{Progress}
use Rattle.sexp_text.specs.declared.reader.Progress.TheVariants as progress
use Rattle.sexp_text.specs.declared.sexp.Sexp.{Sexp}
use Rattle.sexp_text.specs.Bytes.{is_white, is_name_byte, is_sign, is_run, is_plain, is_hex, hex_value}
use Rattle.sexp_text.specs.Items.{Item, Open, Number, Name, Quote, items_of}
use Rattle.sexp_text.specs.Reading.{◌>>=◌, refused, begins_number, number_of, word_end, ok_or_fault, run_items, string_items, Front, Before, Inside, After, opened, closed, begun, added, with_mode, with_items, between, in_string, begins_escape, first_digit, second_digit, step, finish, read_from, read}
use Rattle.sexp_text.specs.Spelling.{EndsRun, IsWord, WritesNumber, string_byte, SexpSpells}
use Rattle.sexp_text.specs.words.Fronts.{front_of}
use Rattle.sexp_text.specs.Faults.{IsNoEnd, place_of, IsText, IsBefore, IsInside, IsAfter, BeginsPart, IsRunIn, GoesOnNoWord, IsNoString, IsRefused, Refusal}
use Rattle.sexp_text.proofs.ByteLemmas.{word_end-le, begins_escape-hex}
use Rattle.sexp_text.proofs.CompleteLemmas.{read-spelled}
use Rattle.sexp_text.proofs.FaultLemmas.{begins_again, word_end_stays, run_fault, end_fault}
use Rattle.sexp_text.proofs.GoOnLemmas as known
use Rattle.sexp_text.proofs.GoOnLemmas.{Reach, reach_more, reach_read, Real, closes, closers, close_real, InRun, Known, Holds, step_known, run_text, added_inside, Errs, bind_errs, errs_at, step_between, step_string, step_escape, step_digit, comment_fault, front_before, word_front}
use Rattle.sexp_text.proofs.NumberLemmas.{writes_number, word_writes, word_longest}
use Rattle.sexp_text.proofs.PutLemmas.{bound}
use Rattle.sexp_text.proofs.ReadLemmas.{AreRun, go_on, step_close, step_run, begun_inside, run_more, place, digit_of, first_of_escape}
use Rattle.sexp_text.proofs.SoundLemmas.{begun_next, with_mode_next, char_of_digit, spelled-read}
use Rattle.sexp_text.proofs.Utf8Lemmas.{AreBytes, AreBytes-append}

-- what is refused is no text
pub no_text : (text : List ℕ) (fault : TextFault) → read text ≡ Err fault → IsText text → ⊥
no_text text fault e t = let o = read-spelled text t.0 t.1 in cc

closes-replicate : (k : ℕ) → closes k ≡ replicate (suc k) 41
closes-replicate zero = refl
closes-replicate (suc k) = ap (λ xs. 41 ∷ xs) (closes-replicate k)

closed_text : (text : List ℕ) (front : Front) → Reach text front Between → Real front → IsText (text ++ closers front)
closed_text text front r real =
    let all = close_real real.0 (length text) in (
      all.0,
      spelled-read (text ++ closers front) all.0
          (reach_read text (closers front) front Between r ∙
          subst (λ f. read_from (length text) (closers f) f Between ≡ Ok (items_of all.0)) real.1 all.1),
    )

pub read_here : (text : List ℕ) (front : Front) (mode : Mode) → Reach text front mode → read text ≡ finish (length text) front mode
read_here text front mode r = ap read (sym (append-nil text)) ∙ reach_read text [] front mode r

-- where the bytes before a place end: before the list, inside lists or after the list
abbrev PlaceOf : Front → List ℕ → Type 0
PlaceOf Before text = IsBefore text
PlaceOf (Inside items k) text = IsInside (suc k) text
PlaceOf (After items) text = IsAfter text

after_close : (p : ℕ) (items : List Item) → go_on (p + 1) [] (step p 41 (After items) Between) ≡ Err (Refused p word.Close)
unfolding closed
after_close p items = ap (go_on (p + 1) []) (step_close p (After items))

between_place : (text : List ℕ) (front : Front) → Reach text front Between → Real front → PlaceOf front text
unfolding finish
between_place text Before r real =
    (closed_text text Before r real, no_text text (Refused (length text) word.End) (read_here text Before Between r))
between_place text (Inside items k) r real = (
  subst (λ bs. IsText (text ++ bs)) (closes-replicate k) (closed_text text (Inside items k) r real),
  no_text text (Refused (length text) word.End) (read_here text (Inside items k) Between r),
)
between_place text (After items) r real = (
  subst IsText (append-nil text) (closed_text text (After items) r real),
  no_text (text ++ 41 ∷ []) (Refused (length text) word.Close)
      (reach_read text (41 ∷ []) (After items) Between r ∙ after_close (length text) items),
)

run_end : (p from : ℕ) (run : List ℕ) (front : Front) (xs : List Item) → run_items from run ≡ Ok xs → finish p front (Run from run) ≡ refused p word.End
unfolding finish
run_end p from run front xs e = rw e refl

run_inside : (text : List ℕ) (from : ℕ) (run : List ℕ) (front : Front) (xs : List Item) → Reach text front (Run from run) → Real front → (k : InRun text from run front) →
    0 < length run → run_items from run ≡ Ok xs → IsInside (suc k.5.1) text
run_inside text from run front xs r real k some e = (
  subst (λ bs. IsText (text ++ bs)) (closes-replicate k.5.1)
      (subst (λ bs. IsText (bs ++ closes k.5.1)) (sym k.1) (run_text k.0 run front xs k.3 real k.5 k.4 some (ap (λ q. run_items q run) k.2 ∙ e))),
  no_text text (Refused (length text) word.End) (read_here text front (Run from run) r ∙ run_end (length text) from run front xs e),
)

run_place : (text : List ℕ) (from : ℕ) (run : List ℕ) (front : Front) (xs : List Item) → Reach text front (Run from run) → Real front → InRun text from run front →
    0 < length run → run_items from run ≡ Ok xs → PlaceOf (added xs front) text
run_place text from run front xs r real k some e =
    subst (λ f. PlaceOf (added xs f) text) (sym k.5.2)
    (subst (λ f. PlaceOf f text) (sym (added_inside xs k.5.0 k.5.1)) (run_inside text from run front xs r real k some e))

-- after a step that fails no text goes on

step_fault : (text more : List ℕ) (b : ℕ) (front : Front) (mode : Mode) (fault : TextFault) → Reach text front mode → step (length text) b front mode ≡ Err fault →
    read ((text ++ b ∷ []) ++ more) ≡ Err fault
step_fault text more b front mode fault r e =
    ap read (append_assoc text (b ∷ []) more) ∙ reach_read text (b ∷ more) front mode r ∙ ap (go_on (length text + 1) more) e

step_never : (text : List ℕ) (b : ℕ) (front : Front) (mode : Mode) (fault : TextFault) → Reach text front mode → step (length text) b front mode ≡ Err fault →
    (more : List ℕ) → IsText ((text ++ b ∷ []) ++ more) → ⊥
step_never text b front mode fault r e more = no_text ((text ++ b ∷ []) ++ more) fault (step_fault text more b front mode fault r e)

-- a byte between the parts

abbrev Refuses : List ℕ → ℕ → List ℕ → TextFault → Type 0
Refuses text b rest fault = IsRefused fault text (b ∷ []) rest × (place_of fault ≡ length text)

opened_refuses : (text rest : List ℕ) (front : Front) → PlaceOf front text → Errs (Refuses text 40 rest) (opened (length text) front)
unfolding opened
opened_refuses text rest Before h = tt
opened_refuses text rest (Inside items k) h = by_room (ltb (k + 1) 500) refl
  where
    by_room : (v : Bool) → ltb (k + 1) 500 ≡ v →
        Errs {A = Front} (Refuses text 40 rest) (cond v (Ok (Inside (items ++ Open (length text) ∷ []) (k + 1))) (Err (Limit (length text) Nesting)))
    by_room true t = tt
    by_room false t = let l : 500 ≤ k + 1 = ltb-false (k + 1) 500 t in ((refl, (suc k, omega (arith, l), h)), refl)
opened_refuses text rest (After items) h = ((40, refl, inl refl, h), refl)

closed_refuses : (text rest : List ℕ) (front : Front) → PlaceOf front text → Errs (Refuses text 41 rest) (closed (length text) front)
unfolding closed
closed_refuses text rest Before h = ((refl, inl h), refl)
closed_refuses text rest (Inside items zero) h = tt
closed_refuses text rest (Inside items (suc k)) h = tt
closed_refuses text rest (After items) h = ((refl, inr h), refl)

begun_refuses : (text rest : List ℕ) (b : ℕ) (mode : Mode) (front : Front) → PlaceOf front text → BeginsPart b → Errs (Refuses text b rest) (begun (length text) mode front)
unfolding begun
begun_refuses text rest b mode Before h part = ((b, refl, inr (inl (part, h))), refl)
begun_refuses text rest b mode (Inside items k) h part = tt
begun_refuses text rest b mode (After items) h part = ((b, refl, inr part, h), refl)

anywhere : (text : List ℕ) (front : Front) → PlaceOf front text → IsBefore text ⊎ (IsAfter text ⊎ ((depth : ℕ) × IsInside depth text))
anywhere text Before h = inl h
anywhere text (Inside items k) h = inr (inr (suc k, h))
anywhere text (After items) h = inr (inl h)

between_refuses : (text rest : List ℕ) (b : ℕ) (front : Front) → PlaceOf front text → Errs (Refuses text b rest) (between (length text) b front)
unfolding between
between_refuses text rest b front h = by_white (is_white b) refl
  where
    p : ℕ
    p = length text

    P : TextFault → Type 0
    P = Refuses text b rest

    by_run : (v : Bool) → is_run b ≡ v → is_white b ≡ false → (b ≡ 59 → ⊥) → (b ≡ 40 → ⊥) → (b ≡ 41 → ⊥) → (b ≡ 34 → ⊥) →
        Errs P (cond v (begun p (Run p (b ∷ [])) front) (refused p word.Byte))
    by_run true t w c o d q = begun_refuses text rest b (Run p (b ∷ [])) front h (inl t)
    by_run false t w c o d q = (
      (b, refl, inl (record { white = w; run = t; quote = q; open_list = o; close_list = d; comment = c }, anywhere text front h)),
      refl,
    )

    by_quote : (v : Bool) → eqb b 34 ≡ v → is_white b ≡ false → (b ≡ 59 → ⊥) → (b ≡ 40 → ⊥) → (b ≡ 41 → ⊥) →
        Errs P (cond v (begun p (Quoted p []) front) (cond (is_run b) (begun p (Run p (b ∷ [])) front) (refused p word.Byte)))
    by_quote true t w c o d = begun_refuses text rest b (Quoted p []) front h (inr (eqb-true b 34 t))
    by_quote false t w c o d = by_run (is_run b) refl w c o d (eqb-false b 34 t)

    closing : b ≡ 41 → Errs P (closed p front)
    closing e = subst (λ c. Errs (Refuses text c rest) (closed p front)) (sym e) (closed_refuses text rest front h)

    by_close : (v : Bool) → eqb b 41 ≡ v → is_white b ≡ false → (b ≡ 59 → ⊥) → (b ≡ 40 → ⊥) →
        Errs P (cond v (with_mode Between (closed p front)) (cond (eqb b 34) (begun p (Quoted p []) front) (cond (is_run b) (begun p (Run p (b ∷ [])) front) (refused p word.Byte))))
    by_close true t w c o = bind_errs P (closed p front) (λ f. Ok (f, Between)) (closing (eqb-true b 41 t)) (λ f. tt)
    by_close false t w c o = by_quote (eqb b 34) refl w c o (eqb-false b 41 t)

    opening : b ≡ 40 → Errs P (opened p front)
    opening e = subst (λ c. Errs (Refuses text c rest) (opened p front)) (sym e) (opened_refuses text rest front h)

    by_open : (v : Bool) → eqb b 40 ≡ v → is_white b ≡ false → (b ≡ 59 → ⊥) →
        Errs P (cond v (with_mode Between (opened p front)) (cond (eqb b 41) (with_mode Between (closed p front)) (cond (eqb b 34) (begun p (Quoted p []) front) (cond (is_run b) (begun p (Run p (b ∷ [])) front) (refused p word.Byte)))))
    by_open true t w c = bind_errs P (opened p front) (λ f. Ok (f, Between)) (opening (eqb-true b 40 t)) (λ f. tt)
    by_open false t w c = by_close (eqb b 41) refl w c (eqb-false b 40 t)

    by_comment : (v : Bool) → eqb b 59 ≡ v → is_white b ≡ false →
        Errs P (cond v (Ok (front, Comment)) (cond (eqb b 40) (with_mode Between (opened p front)) (cond (eqb b 41) (with_mode Between (closed p front)) (cond (eqb b 34) (begun p (Quoted p []) front) (cond (is_run b) (begun p (Run p (b ∷ [])) front) (refused p word.Byte))))))
    by_comment true t w = tt
    by_comment false t w = by_open (eqb b 40) refl w (eqb-false b 59 t)

    by_white : (v : Bool) → is_white b ≡ v →
        Errs P (cond v (Ok (front, Between)) (cond (eqb b 59) (Ok (front, Comment)) (cond (eqb b 40) (with_mode Between (opened p front)) (cond (eqb b 41) (with_mode Between (closed p front)) (cond (eqb b 34) (begun p (Quoted p []) front) (cond (is_run b) (begun p (Run p (b ∷ [])) front) (refused p word.Byte)))))))
    by_white true t = tt
    by_white false t = by_comment (eqb b 59) refl t

-- the refusal of a step that fails at its own byte
at_byte : (text rest : List ℕ) (b : ℕ) (front : Front) (mode : Mode) (fault : TextFault) → Reach text front mode → step (length text) b front mode ≡ Err fault →
    Refuses text b rest fault → Refusal (text ++ b ∷ rest) fault
at_byte text rest b front mode fault r e h = record {
  front = text;
  part = b ∷ [];
  rest = rest;
  whole = refl;
  place = h.1;
  refused_so = h.0;
  never = step_never text b front mode fault r e;
}

-- strings that are read

-- a string began at this place, inside a list, and these bytes of it are read
abbrev InQuote : List ℕ → ℕ → List ℕ → Type 0
InQuote text from inner = (before : List ℕ) × (text ≡ before ++ 34 ∷ inner) × (length before ≡ from) × (depth : ℕ) × IsInside depth before

abbrev Kept : List ℕ → Mode → Type 0
Kept text Between = Unit {0}
Kept text Comment = Unit {0}
Kept text (Run from run) = Unit {0}
Kept text (Quoted from bytes) = InQuote text from (flat_map string_byte bytes) × AreBytes bytes
Kept text (Escape from bytes) = InQuote text from (flat_map string_byte bytes ++ 92 ∷ []) × AreBytes bytes
Kept text (Digit from bytes high) =
    (d : ℕ) × (begins_escape d ≡ true) × (hex_value d ≡ high) × InQuote text from (flat_map string_byte bytes ++ 92 ∷ d ∷ []) × AreBytes bytes

quote_more : (text : List ℕ) (from b : ℕ) (inner more : List ℕ) → inner ++ b ∷ [] ≡ more → InQuote text from inner → InQuote (text ++ b ∷ []) from more
quote_more text from b inner more e k =
    (k.0, ap (λ bs. bs ++ b ∷ []) k.1 ∙ append_assoc k.0 (34 ∷ inner) (b ∷ []) ∙ ap (λ bs. k.0 ++ 34 ∷ bs) e, k.2, k.3, k.4)

inside_place : (text : List ℕ) (front : Front) → PlaceOf front text → known.IsInside front → (depth : ℕ) × IsInside depth text
inside_place text front h i = let here : PlaceOf (Inside i.0 i.1) text = subst (λ f. PlaceOf f text) i.2 h in (suc i.1, here)

between_kept : (text : List ℕ) (b : ℕ) (front : Front) (next : Front × Mode) → PlaceOf front text → between (length text) b front ≡ Ok next → Kept (text ++ b ∷ []) next.1
unfolding between
between_kept text b front next h e = by_white (is_white b) e
  where
    p : ℕ
    p = length text

    P : Front × Mode → Type 0
    P n = Kept (text ++ b ∷ []) n.1

    by_run : (v : Bool) → cond v (begun p (Run p (b ∷ [])) front) (refused p word.Byte) ≡ Ok next → P next
    by_run true e = let i = begun_next p (Run p (b ∷ [])) front next e in subst P i.1 tt
    by_run false e = cc

    by_quote : (v : Bool) → eqb b 34 ≡ v → cond v (begun p (Quoted p []) front) (cond (is_run b) (begun p (Run p (b ∷ [])) front) (refused p word.Byte)) ≡ Ok next → P next
    by_quote true t e =
        let i = begun_next p (Quoted p []) front next e in
        let d = inside_place text front h i.0 in
        subst P i.1 ((text, ap (λ c. text ++ c ∷ []) (eqb-true b 34 t), refl, d.0, d.1), tt)
    by_quote false t e = by_run (is_run b) e

    by_close : (v : Bool) →
        cond v (with_mode Between (closed p front)) (cond (eqb b 34) (begun p (Quoted p []) front) (cond (is_run b) (begun p (Run p (b ∷ [])) front) (refused p word.Byte))) ≡ Ok next → P next
    by_close true e = let i = with_mode_next Between (closed p front) next e in subst P i.2 tt
    by_close false e = by_quote (eqb b 34) refl e

    by_open : (v : Bool) →
        cond v (with_mode Between (opened p front)) (cond (eqb b 41) (with_mode Between (closed p front)) (cond (eqb b 34) (begun p (Quoted p []) front) (cond (is_run b) (begun p (Run p (b ∷ [])) front) (refused p word.Byte)))) ≡ Ok next → P next
    by_open true e = let i = with_mode_next Between (opened p front) next e in subst P i.2 tt
    by_open false e = by_close (eqb b 41) e

    by_comment : (v : Bool) →
        cond v (Ok (front, Comment)) (cond (eqb b 40) (with_mode Between (opened p front)) (cond (eqb b 41) (with_mode Between (closed p front)) (cond (eqb b 34) (begun p (Quoted p []) front) (cond (is_run b) (begun p (Run p (b ∷ [])) front) (refused p word.Byte))))) ≡ Ok next → P next
    by_comment true e = let i : (front, Comment) ≡ next = cc in subst P i tt
    by_comment false e = by_open (eqb b 40) e

    by_white : (v : Bool) →
        cond v (Ok (front, Between)) (cond (eqb b 59) (Ok (front, Comment)) (cond (eqb b 40) (with_mode Between (opened p front)) (cond (eqb b 41) (with_mode Between (closed p front)) (cond (eqb b 34) (begun p (Quoted p []) front) (cond (is_run b) (begun p (Run p (b ∷ [])) front) (refused p word.Byte)))))) ≡ Ok next → P next
    by_white true e = let i : (front, Between) ≡ next = cc in subst P i tt
    by_white false e = by_comment (eqb b 59) e

pub flat_map-push : (bytes : List ℕ) (c : ℕ) → flat_map string_byte (bytes ++ c ∷ []) ≡ flat_map string_byte bytes ++ string_byte c
flat_map-push bytes c = flat_map-append string_byte bytes (c ∷ []) ∙ ap (λ ys. flat_map string_byte bytes ++ ys) (append-nil (string_byte c))

pub plain_byte : (b : ℕ) → is_plain b ≡ true → string_byte b ≡ b ∷ []
plain_byte b h = rw h refl

pub plain_below : (b : ℕ) → is_plain b ≡ true → b < 256
unfolding is_plain
plain_below b h = grind (arith, nat_tests)

escaped_byte : (b : ℕ) → is_plain b ≡ false → string_byte b ≡ 92 ∷ digit_char (b / 16) ∷ digit_char (b % 16) ∷ []
escaped_byte b h = rw h refl

string_kept : (text : List ℕ) (p b from : ℕ) (bytes : List ℕ) (front : Front) (next : Front × Mode) → InQuote text from (flat_map string_byte bytes) → AreBytes bytes →
    in_string b from bytes front ≡ Ok next → Kept (text ++ b ∷ []) next.1
unfolding in_string
string_kept text p b from bytes front next k h e = by_quote (eqb b 34) e
  where
    P : Front × Mode → Type 0
    P n = Kept (text ++ b ∷ []) n.1

    by_plain : (v : Bool) → is_plain b ≡ v → cond v (Ok (front, Quoted from (bytes ++ b ∷ []))) (refused from word.String) ≡ Ok next → P next
    by_plain true t e =
        let i : (front, Quoted from (bytes ++ b ∷ [])) ≡ next = cc in
        let same = ap (λ ys. flat_map string_byte bytes ++ ys) (sym (plain_byte b t)) ∙ sym (flat_map-push bytes b) in
        subst P i (quote_more text from b (flat_map string_byte bytes) (flat_map string_byte (bytes ++ b ∷ [])) same k, AreBytes-append bytes (b ∷ []) h (plain_below b t, tt))
    by_plain false t e = cc

    by_backslash : (v : Bool) → eqb b 92 ≡ v → cond v (Ok (front, Escape from bytes)) (cond (is_plain b) (Ok (front, Quoted from (bytes ++ b ∷ []))) (refused from word.String)) ≡ Ok next → P next
    by_backslash true t e =
        let i : (front, Escape from bytes) ≡ next = cc in
        let same = ap (λ c. flat_map string_byte bytes ++ c ∷ []) (eqb-true b 92 t) in
        subst P i (quote_more text from b (flat_map string_byte bytes) (flat_map string_byte bytes ++ 92 ∷ []) same k, h)
    by_backslash false t e = by_plain (is_plain b) refl e

    by_quote : (v : Bool) →
        cond v (with_mode Between (with_items front (string_items from bytes))) (cond (eqb b 92) (Ok (front, Escape from bytes)) (cond (is_plain b) (Ok (front, Quoted from (bytes ++ b ∷ []))) (refused from word.String))) ≡ Ok next → P next
    by_quote true e = let i = with_mode_next Between (with_items front (string_items from bytes)) next e in subst P i.2 tt
    by_quote false e = by_backslash (eqb b 92) refl e

escape_kept : (text : List ℕ) (b from : ℕ) (bytes : List ℕ) (front : Front) (next : Front × Mode) → InQuote text from (flat_map string_byte bytes ++ 92 ∷ []) → AreBytes bytes →
    first_digit b from bytes front ≡ Ok next → Kept (text ++ b ∷ []) next.1
unfolding first_digit
escape_kept text b from bytes front next k h e = by_first (begins_escape b) refl e
  where
    by_first : (v : Bool) → begins_escape b ≡ v → cond v (Ok (front, Digit from bytes (hex_value b))) (refused from word.String) ≡ Ok next → Kept (text ++ b ∷ []) next.1
    by_first true t e =
        let i : (front, Digit from bytes (hex_value b)) ≡ next = cc in
        let q = quote_more text from b (flat_map string_byte bytes ++ 92 ∷ []) (flat_map string_byte bytes ++ 92 ∷ b ∷ []) (append_assoc (flat_map string_byte bytes) (92 ∷ []) (b ∷ [])) k in
        subst (λ n. Kept (text ++ b ∷ []) n.1) i (b, t, refl, q, h)
    by_first false t e = cc

-- the byte that an escape stands for, and its digits
pub escape_byte : (d b : ℕ) → begins_escape d ≡ true → is_hex b ≡ true → is_plain (16 * hex_value d + hex_value b) ≡ false →
    string_byte (16 * hex_value d + hex_value b) ≡ 92 ∷ d ∷ b ∷ []
escape_byte d b h k n =
    let first = char_of_digit d (begins_escape-hex d h) in
    let second = char_of_digit b k in
    let c = 16 * hex_value d + hex_value b in
    let top : c / 16 ≡ hex_value d = omega (arith, second.1) in
    let low : c % 16 ≡ hex_value b = omega (arith, second.1) in
    escaped_byte c n ∙
    ap (λ x. 92 ∷ digit_char x ∷ digit_char (c % 16) ∷ []) top ∙ ap (λ x. 92 ∷ digit_char (hex_value d) ∷ digit_char x ∷ []) low ∙
    ap (λ x. 92 ∷ x ∷ digit_char (hex_value b) ∷ []) first.0 ∙ ap (λ x. 92 ∷ d ∷ x ∷ []) second.0

digit_kept : (text : List ℕ) (b from : ℕ) (bytes : List ℕ) (high : ℕ) (front : Front) (next : Front × Mode) → Kept text (Digit from bytes high) →
    second_digit b from bytes high front ≡ Ok next → Kept (text ++ b ∷ []) next.1
unfolding second_digit
digit_kept text b from bytes high front next k e = by_hex (is_hex b) refl e
  where
    P : Front × Mode → Type 0
    P n = Kept (text ++ b ∷ []) n.1

    by_plain : (v : Bool) → is_plain (16 * high + hex_value b) ≡ v → is_hex b ≡ true →
        cond v (refused from word.String) (Ok (front, Quoted from (bytes ++ (16 * high + hex_value b) ∷ []))) ≡ Ok next → P next
    by_plain true n t e = cc
    by_plain false n t e =
        let i : (front, Quoted from (bytes ++ (16 * high + hex_value b) ∷ [])) ≡ next = cc in
        let n' : is_plain (16 * hex_value k.0 + hex_value b) ≡ false = ap (λ x. is_plain (16 * x + hex_value b)) k.2 ∙ n in
        let byte : string_byte (16 * high + hex_value b) ≡ 92 ∷ k.0 ∷ b ∷ [] =
        ap (λ x. string_byte (16 * x + hex_value b)) (sym k.2) ∙ escape_byte k.0 b k.1 t n' in
        let same = append_assoc (flat_map string_byte bytes) (92 ∷ k.0 ∷ []) (b ∷ []) ∙ ap (λ ys. flat_map string_byte bytes ++ ys) (sym byte) ∙ sym (flat_map-push bytes (16 * high + hex_value b)) in
        let first = (char_of_digit k.0 (begins_escape-hex k.0 k.1)).1 in
        let second = (char_of_digit b t).1 in
        let below : 16 * high + hex_value b < 256 = omega (arith, first, second, k.2) in
        subst P i (quote_more text from b (flat_map string_byte bytes ++ 92 ∷ k.0 ∷ []) (flat_map string_byte (bytes ++ (16 * high + hex_value b) ∷ [])) same k.3, AreBytes-append bytes ((16 * high + hex_value b) ∷ []) k.4 (below, tt))

    by_hex : (v : Bool) → is_hex b ≡ v →
        cond v (cond (is_plain (16 * high + hex_value b)) (refused from word.String) (Ok (front, Quoted from (bytes ++ (16 * high + hex_value b) ∷ [])))) (refused from word.String) ≡ Ok next → P next
    by_hex true t e = by_plain (is_plain (16 * high + hex_value b)) refl t e
    by_hex false t e = cc

comment_kept : (text : List ℕ) (b : ℕ) (front : Front) (next : Front × Mode) → step (length text) b front Comment ≡ Ok next → Kept (text ++ b ∷ []) next.1
unfolding step
comment_kept text b front next e = by_line_feed (eqb b 10) e
  where
    by_line_feed : (v : Bool) → ◌≡◌ {A = Result (Front × Mode) TextFault} (cond v (Ok (front, Between)) (Ok (front, Comment))) (Ok next) → Kept (text ++ b ∷ []) next.1
    by_line_feed true e = let i : (front, Between) ≡ next = cc in subst (λ n. Kept (text ++ b ∷ []) n.1) i tt
    by_line_feed false e = let i : (front, Comment) ≡ next = cc in subst (λ n. Kept (text ++ b ∷ []) n.1) i tt

run_kept : (text : List ℕ) (b from : ℕ) (run : List ℕ) (front : Front) (next : Front × Mode) → Reach text front (Run from run) → Real front → Known text front (Run from run) →
    step (length text) b front (Run from run) ≡ Ok next → Kept (text ++ b ∷ []) next.1
unfolding step
run_kept text b from run front next r real k e = by_run (is_run b) e
  where
    by_run : (v : Bool) → cond v (Ok (front, Run from (run ++ b ∷ []))) (with_items front (run_items from run) >>= λ f. between (length text) b f) ≡ Ok next → Kept (text ++ b ∷ []) next.1
    by_run true e = let i : (front, Run from (run ++ b ∷ [])) ≡ next = cc in subst (λ n. Kept (text ++ b ∷ []) n.1) i tt
    by_run false e =
        let one = bound (with_items front (run_items from run)) (λ f. between (length text) b f) next e in
        let two = bound (run_items from run) (λ more. Ok (added more front)) one.0 one.1 in
        let same : added two.0 front ≡ one.0 = cc in
        between_kept text b one.0 next (subst (λ f. PlaceOf f text) same (run_place text from run front two.0 r real k.0 k.1 two.1)) one.2

step_kept : (text : List ℕ) (b : ℕ) (front : Front) (mode : Mode) (next : Front × Mode) → Reach text front mode → Holds text (front, mode) → Kept text mode →
    step (length text) b front mode ≡ Ok next → Kept (text ++ b ∷ []) next.1
step_kept text b front Between next r h k e = between_kept text b front next (between_place text front r h.0) (sym (step_between (length text) b front) ∙ e)
step_kept text b front Comment next r h k e = comment_kept text b front next e
step_kept text b front (Run from run) next r h k e = run_kept text b from run front next r h.0 h.1 e
step_kept text b front (Quoted from bytes) next r h k e = string_kept text 0 b from bytes front next k.0 k.1 (sym (step_string (length text) b from bytes front) ∙ e)
step_kept text b front (Escape from bytes) next r h k e = escape_kept text b from bytes front next k.0 k.1 (sym (step_escape (length text) b from bytes front) ∙ e)
step_kept text b front (Digit from bytes high) next r h k e = digit_kept text b from bytes high front next k (sym (step_digit (length text) b from bytes high front) ∙ e)

-- what no string begins with

is_plain-quote : is_plain 34 ≡ false
unfolding is_plain
is_plain-quote = refl

is_plain-backslash : is_plain 92 ≡ false
unfolding is_plain
is_plain-backslash = refl

head_of : {x y : ℕ} {xs ys : List ℕ} → x ∷ xs ≡ y ∷ ys → x ≡ y
head_of e = cc

tail_of : {x y : ℕ} {xs ys : List ℕ} → x ∷ xs ≡ y ∷ ys → xs ≡ ys
tail_of e = cc

tt≢ff : true ≡ false → ⊥
tt≢ff e = cc

apart : ◌≡◌ {A = ℕ} 34 92 → ⊥
apart e = tt≢ff (ap (λ x. eqb x 34) e)

-- what is left of a string after the bytes that were read
abbrev Left : List ℕ → List ℕ → Type 0
Left tail what = (ds : List ℕ) × AreBytes ds × (flat_map string_byte ds ++ 34 ∷ tail ≡ what)

-- a string does not end where a byte of it is read
ends_early : (x : ℕ) (tail what : List ℕ) → 34 ∷ tail ≡ string_byte x ++ what → ⊥
ends_early x tail what e = by_plain (is_plain x) refl e
  where
    by_plain : (v : Bool) → is_plain x ≡ v → 34 ∷ tail ≡ cond v (x ∷ []) (92 ∷ digit_char (x / 16) ∷ digit_char (x % 16) ∷ []) ++ what → ⊥
    by_plain true t e = let h : 34 ≡ x = head_of e in tt≢ff (sym t ∙ ap is_plain (sym h) ∙ is_plain-quote)
    by_plain false t e = apart (head_of e)

byte_left : (c x : ℕ) (rest what : List ℕ) → string_byte c ++ rest ≡ string_byte x ++ what → rest ≡ what
byte_left c x rest what e = by_plain (is_plain c) (is_plain x) refl refl e
  where
    by_plain : (u v : Bool) → is_plain c ≡ u → is_plain x ≡ v →
        cond u (c ∷ []) (92 ∷ digit_char (c / 16) ∷ digit_char (c % 16) ∷ []) ++ rest ≡ cond v (x ∷ []) (92 ∷ digit_char (x / 16) ∷ digit_char (x % 16) ∷ []) ++ what → rest ≡ what
    by_plain true true s t e = tail_of e
    by_plain true false s t e = let h : c ≡ 92 = head_of e in absurd (tt≢ff (sym s ∙ ap is_plain h ∙ is_plain-backslash))
    by_plain false true s t e = let h : 92 ≡ x = head_of e in absurd (tt≢ff (sym t ∙ ap is_plain (sym h) ∙ is_plain-backslash))
    by_plain false false s t e = tail_of (tail_of (tail_of e))

left_of : (bs cs tail what : List ℕ) → AreBytes cs → flat_map string_byte cs ++ 34 ∷ tail ≡ flat_map string_byte bs ++ what → Left tail what
left_of [] cs tail what h e = (cs, h, e)
left_of (x ∷ xs) [] tail what h e = absurd (ends_early x tail (flat_map string_byte xs ++ what) (e ∙ append_assoc (string_byte x) (flat_map string_byte xs) what))
left_of (x ∷ xs) (c ∷ cs) tail what h e =
    let e1 : string_byte c ++ (flat_map string_byte cs ++ 34 ∷ tail) ≡ string_byte x ++ (flat_map string_byte xs ++ what) =
    sym (append_assoc (string_byte c) (flat_map string_byte cs) (34 ∷ tail)) ∙ e ∙ append_assoc (string_byte x) (flat_map string_byte xs) what in
    left_of xs cs tail what h.1 (byte_left c x (flat_map string_byte cs ++ 34 ∷ tail) (flat_map string_byte xs ++ what) e1)

-- the bytes after the quote with a byte that leaves nothing of a string
no_string : (bytes what : List ℕ) → ((tail more : List ℕ) → Left tail (what ++ more) → ⊥) → IsNoString (34 ∷ (flat_map string_byte bytes ++ what))
no_string bytes what none cs more h = (
  (λ e.
      let e1 : flat_map string_byte cs ++ 34 ∷ [] ≡ flat_map string_byte bytes ++ (what ++ more) = tail_of e ∙ append_assoc (flat_map string_byte bytes) what more in
      none [] more (left_of bytes cs [] (what ++ more) h e1)),
  (λ e.
      let e1 : flat_map string_byte cs ++ 34 ∷ more ≡ flat_map string_byte bytes ++ (what ++ []) =
      sym (append_assoc (flat_map string_byte cs) (34 ∷ []) more) ∙ sym (tail_of e) ∙ ap (λ ys. flat_map string_byte bytes ++ ys) (sym (append-nil what)) in
      none more [] (left_of bytes cs more (what ++ []) h e1)),
)

-- the next byte of what is left
first_left : (ds tail rest : List ℕ) (b : ℕ) → flat_map string_byte ds ++ 34 ∷ tail ≡ b ∷ rest → (b ≡ 34) ⊎ ((is_plain b ≡ true) ⊎ (b ≡ 92))
first_left [] tail rest b e = inl (sym (head_of e))
first_left (d ∷ ds) tail rest b e = inr (by_plain (is_plain d) refl (sym (append_assoc (string_byte d) (flat_map string_byte ds) (34 ∷ tail)) ∙ e))
  where
    by_plain : (v : Bool) → is_plain d ≡ v → cond v (d ∷ []) (92 ∷ digit_char (d / 16) ∷ digit_char (d % 16) ∷ []) ++ (flat_map string_byte ds ++ 34 ∷ tail) ≡ b ∷ rest → (is_plain b ≡ true) ⊎ (b ≡ 92)
    by_plain true t e = inl (ap is_plain (sym (head_of e)) ∙ t)
    by_plain false t e = inr (sym (head_of e))

-- an escape of what is left
escape_left : (ds tail rest : List ℕ) (b : ℕ) → AreBytes ds → flat_map string_byte ds ++ 34 ∷ tail ≡ 92 ∷ b ∷ rest →
    (c : ℕ) × (more : List ℕ) × (c < 256) × (is_plain c ≡ false) × (b ≡ digit_char (c / 16)) × (rest ≡ digit_char (c % 16) ∷ more)
escape_left [] tail rest b h e = absurd (apart (head_of e))
escape_left (d ∷ ds) tail rest b h e = by_plain (is_plain d) refl (sym (append_assoc (string_byte d) (flat_map string_byte ds) (34 ∷ tail)) ∙ e)
  where
    by_plain : (v : Bool) → is_plain d ≡ v → cond v (d ∷ []) (92 ∷ digit_char (d / 16) ∷ digit_char (d % 16) ∷ []) ++ (flat_map string_byte ds ++ 34 ∷ tail) ≡ 92 ∷ b ∷ rest →
        (c : ℕ) × (more : List ℕ) × (c < 256) × (is_plain c ≡ false) × (b ≡ digit_char (c / 16)) × (rest ≡ digit_char (c % 16) ∷ more)
    by_plain true t e = let same : d ≡ 92 = head_of e in absurd (tt≢ff (sym t ∙ ap is_plain same ∙ is_plain-backslash))
    by_plain false t e = (d, flat_map string_byte ds ++ 34 ∷ tail, h.0, t, sym (head_of (tail_of e)), sym (tail_of (tail_of e)))

bad_byte : (bytes : List ℕ) (b : ℕ) → (b ≡ 34 → ⊥) → (b ≡ 92 → ⊥) → is_plain b ≡ false → IsNoString (34 ∷ (flat_map string_byte bytes ++ b ∷ []))
bad_byte bytes b q s n = no_string bytes (b ∷ []) (λ tail more l. ⊎_elim q (λ o. ⊎_elim (λ t. tt≢ff (sym t ∙ n)) s o) (first_left l.0 tail more b l.2))

escape_begins : (c : ℕ) → c < 256 → is_plain c ≡ false → begins_escape (digit_char (c / 16)) ≡ true
escape_begins c h n =
    let whole : 16 * (c / 16) + c % 16 ≡ c = omega arith in
    first_of_escape (c / 16) (c % 16) (omega arith) (omega arith) (ap is_plain whole ∙ n)

bad_first : (bytes : List ℕ) (b : ℕ) → begins_escape b ≡ false → IsNoString (34 ∷ (flat_map string_byte bytes ++ 92 ∷ b ∷ []))
bad_first bytes b n =
    no_string bytes (92 ∷ b ∷ []) (λ tail more l.
    let c = escape_left l.0 tail more b l.1 l.2 in
    tt≢ff (sym (escape_begins c.0 c.2 c.3) ∙ ap begins_escape (sym c.4) ∙ n))

-- the second digit of an escape that stands for a byte
second_left : (d b c : ℕ) → c < 256 → is_plain c ≡ false → d ≡ digit_char (c / 16) → b ≡ digit_char (c % 16) →
    (is_hex b ≡ true) × (is_plain (16 * hex_value d + hex_value b) ≡ false)
second_left d b c h n e f =
    let high = digit_of (c / 16) (omega arith) in
    let low = digit_of (c % 16) (omega arith) in
    let first : hex_value d ≡ c / 16 = ap hex_value e ∙ high.1 in
    let second : hex_value b ≡ c % 16 = ap hex_value f ∙ low.1 in
    let whole : 16 * hex_value d + hex_value b ≡ c = omega (arith, first, second) in
    (ap is_hex f ∙ low.0, ap is_plain whole ∙ n)

bad_second : (bytes : List ℕ) (d b : ℕ) → ((is_hex b ≡ true) × (is_plain (16 * hex_value d + hex_value b) ≡ false) → ⊥) →
    IsNoString (34 ∷ (flat_map string_byte bytes ++ 92 ∷ d ∷ b ∷ []))
bad_second bytes d b none =
    no_string bytes (92 ∷ d ∷ b ∷ []) (λ tail more l.
    let c = escape_left l.0 tail (b ∷ more) d l.1 l.2 in
    none (second_left d b c.0 c.2 c.3 c.4 (head_of c.5)))

-- a string that is refused

quote_refused : (text rest : List ℕ) (b from : ℕ) (inner : List ℕ) (front : Front) (mode : Mode) (fault : TextFault) → Reach text front mode → step (length text) b front mode ≡ Err fault →
    (k : InQuote text from inner) → place_of fault ≡ from → IsRefused fault k.0 (34 ∷ (inner ++ b ∷ [])) rest → Refusal (text ++ b ∷ rest) fault
quote_refused text rest b from inner front mode fault r e k p h =
    let same : text ++ b ∷ [] ≡ k.0 ++ 34 ∷ (inner ++ b ∷ []) = ap (λ bs. bs ++ b ∷ []) k.1 ∙ append_assoc k.0 (34 ∷ inner) (b ∷ []) in
    record {
      front = k.0;
      part = 34 ∷ (inner ++ b ∷ []);
      rest = rest;
      whole = sym (append_assoc text (b ∷ []) rest) ∙ ap (λ bs. bs ++ rest) same ∙ append_assoc k.0 (34 ∷ (inner ++ b ∷ [])) rest;
      place = p ∙ sym k.2;
      refused_so = h;
      never = λ more. subst (λ bs. IsText (bs ++ more) → ⊥) same (step_never text b front mode fault r e more);
    }

-- a byte that a string does not have
abbrev StringErrs : List ℕ → ℕ → List ℕ → List ℕ → ℕ → TextFault → Type 0
StringErrs inner b before rest from fault = (place_of fault ≡ from) × IsRefused fault before (34 ∷ (inner ++ b ∷ [])) rest

string_errs : (text rest : List ℕ) (b from : ℕ) (bytes : List ℕ) (front : Front) → (k : InQuote text from (flat_map string_byte bytes)) → AreBytes bytes →
    Errs (StringErrs (flat_map string_byte bytes) b k.0 rest from) (in_string b from bytes front)
unfolding in_string string_items
string_errs text rest b from bytes front k h = by_quote (eqb b 34) refl
  where
    P : TextFault → Type 0
    P = StringErrs (flat_map string_byte bytes) b k.0 rest from

    by_plain : (v : Bool) → is_plain b ≡ v → (b ≡ 34 → ⊥) → (b ≡ 92 → ⊥) → Errs {A = Front × Mode} P (cond v (Ok (front, Quoted from (bytes ++ b ∷ []))) (refused from word.String))
    by_plain true t q s = tt
    by_plain false t q s = (refl, (k.3, flat_map string_byte bytes ++ b ∷ [], k.4, refl, bad_byte bytes b q s t))

    by_backslash : (v : Bool) → eqb b 92 ≡ v → (b ≡ 34 → ⊥) → Errs {A = Front × Mode} P (cond v (Ok (front, Escape from bytes)) (cond (is_plain b) (Ok (front, Quoted from (bytes ++ b ∷ []))) (refused from word.String)))
    by_backslash true t q = tt
    by_backslash false t q = by_plain (is_plain b) refl q (eqb-false b 92 t)

    by_utf8 : (v : Bool) → is_utf8 bytes ≡ v → b ≡ 34 → Errs {A = List Item} P (cond v (Ok (Quote from bytes ∷ [])) (refused from word.Utf8))
    by_utf8 true t q = tt
    by_utf8 false t q = (
      refl,
      (k.3, bytes, k.4, h, ap (λ c. 34 ∷ (flat_map string_byte bytes ++ c ∷ [])) q, λ u. tt≢ff (sym (is_utf8-from_IsUtf8 bytes u) ∙ t)),
    )

    by_quote : (v : Bool) → eqb b 34 ≡ v →
        Errs {A = Front × Mode} P (cond v (with_mode Between (with_items front (string_items from bytes))) (cond (eqb b 92) (Ok (front, Escape from bytes)) (cond (is_plain b) (Ok (front, Quoted from (bytes ++ b ∷ []))) (refused from word.String))))
    by_quote true t =
        bind_errs P (with_items front (string_items from bytes)) (λ f. Ok (f, Between))
        (bind_errs P (string_items from bytes) (λ more. Ok (added more front)) (by_utf8 (is_utf8 bytes) refl (eqb-true b 34 t)) (λ more. tt)) (λ f. tt)
    by_quote false t = by_backslash (eqb b 92) refl (eqb-false b 34 t)

escape_errs : (text rest : List ℕ) (b from : ℕ) (bytes : List ℕ) (front : Front) → (k : InQuote text from (flat_map string_byte bytes ++ 92 ∷ [])) →
    Errs (StringErrs (flat_map string_byte bytes ++ 92 ∷ []) b k.0 rest from) (first_digit b from bytes front)
unfolding first_digit
escape_errs text rest b from bytes front k = by_first (begins_escape b) refl
  where
    by_first : (v : Bool) → begins_escape b ≡ v →
        Errs {A = Front × Mode} (StringErrs (flat_map string_byte bytes ++ 92 ∷ []) b k.0 rest from) (cond v (Ok (front, Digit from bytes (hex_value b))) (refused from word.String))
    by_first true t = tt
    by_first false t =
        let same : flat_map string_byte bytes ++ 92 ∷ b ∷ [] ≡ (flat_map string_byte bytes ++ 92 ∷ []) ++ b ∷ [] = sym (append_assoc (flat_map string_byte bytes) (92 ∷ []) (b ∷ [])) in
        (refl, (k.3, (flat_map string_byte bytes ++ 92 ∷ []) ++ b ∷ [], k.4, refl, subst (λ bs. IsNoString (34 ∷ bs)) same (bad_first bytes b t)))

digit_errs : (text rest : List ℕ) (b from : ℕ) (bytes : List ℕ) (high : ℕ) (front : Front) → (k : Kept text (Digit from bytes high)) →
    Errs (StringErrs (flat_map string_byte bytes ++ 92 ∷ k.0 ∷ []) b k.3.0 rest from) (second_digit b from bytes high front)
unfolding second_digit
digit_errs text rest b from bytes high front k = by_hex (is_hex b) refl
  where
    P : TextFault → Type 0
    P = StringErrs (flat_map string_byte bytes ++ 92 ∷ k.0 ∷ []) b k.3.0 rest from

    inner : List ℕ
    inner = (flat_map string_byte bytes ++ 92 ∷ k.0 ∷ []) ++ b ∷ []

    bad : ((is_hex b ≡ true) × (is_plain (16 * hex_value k.0 + hex_value b) ≡ false) → ⊥) → P (Refused from word.String)
    bad none =
        let same : flat_map string_byte bytes ++ 92 ∷ k.0 ∷ b ∷ [] ≡ inner = sym (append_assoc (flat_map string_byte bytes) (92 ∷ k.0 ∷ []) (b ∷ [])) in
        (refl, (k.3.3, inner, k.3.4, refl, subst (λ bs. IsNoString (34 ∷ bs)) same (bad_second bytes k.0 b none)))

    by_plain : (v : Bool) → is_plain (16 * high + hex_value b) ≡ v →
        Errs {A = Front × Mode} P (cond v (refused from word.String) (Ok (front, Quoted from (bytes ++ (16 * high + hex_value b) ∷ []))))
    by_plain true t = bad (λ h. tt≢ff (sym t ∙ ap (λ x. is_plain (16 * x + hex_value b)) (sym k.2) ∙ h.1))
    by_plain false t = tt

    by_hex : (v : Bool) → is_hex b ≡ v →
        Errs {A = Front × Mode} P (cond v (cond (is_plain (16 * high + hex_value b)) (refused from word.String) (Ok (front, Quoted from (bytes ++ (16 * high + hex_value b) ∷ [])))) (refused from word.String))
    by_hex true t = by_plain (is_plain (16 * high + hex_value b)) refl
    by_hex false t = bad (λ h. tt≢ff (sym h.0 ∙ t))

-- runs that are refused

line_feed_run : is_run 10 ≡ false
unfolding is_run is_name_byte is_sign
line_feed_run = refl

quote_run : is_run 34 ≡ false
unfolding is_run is_name_byte is_sign
quote_run = refl

-- the reader stands between parts
abbrev Ends : Result (Front × Mode) TextFault → Front → Type 0
Ends r g = r ≡ Ok (g, Between)

at_rest : Mode → Bool
at_rest Between = true
at_rest Comment = false
at_rest (Run from run) = false
at_rest (Quoted from bytes) = false
at_rest (Escape from bytes) = false
at_rest (Digit from bytes high) = false

elsewhere : (f g : Front) (m : Mode) → at_rest m ≡ false → Ends (Ok (f, m)) g → ⊥
unfolding at_rest
elsewhere f g m n e =
    let same : ◌≡◌ {A = Front × Mode} (f, m) (g, Between) = cc in
    tt≢ff (sym (ap (λ x. at_rest x.1) same) ∙ n)

nowhere : (d : TextFault) (g : Front) → Ends (Err d) g → ⊥
nowhere d g e = cc

in_comment : (p b : ℕ) (front g : Front) → Ends (step p b front Comment) g → is_run b ≡ true → ⊥
unfolding step at_rest
in_comment p b front g e t = by_line_feed (eqb b 10) refl e
  where
    by_line_feed : (v : Bool) → eqb b 10 ≡ v → Ends (cond v (Ok (front, Between)) (Ok (front, Comment))) g → ⊥
    by_line_feed true l e = tt≢ff (sym t ∙ ap is_run (eqb-true b 10 l) ∙ line_feed_run)
    by_line_feed false l e = elsewhere front g Comment refl e

in_run : (p b from : ℕ) (run : List ℕ) (front g : Front) → Ends (step p b front (Run from run)) g → is_run b ≡ true → ⊥
unfolding step at_rest
in_run p b from run front g e t = by_run (is_run b) refl e
  where
    by_run : (v : Bool) → is_run b ≡ v → Ends (cond v (Ok (front, Run from (run ++ b ∷ []))) (with_items front (run_items from run) >>= λ f. between p b f)) g → ⊥
    by_run true r e = elsewhere front g (Run from (run ++ b ∷ [])) refl e
    by_run false r e = tt≢ff (sym t ∙ r)

in_quotes : (p b from : ℕ) (bytes : List ℕ) (front g : Front) → Ends (step p b front (Quoted from bytes)) g → is_run b ≡ true → ⊥
unfolding step in_string at_rest
in_quotes p b from bytes front g e t = by_quote (eqb b 34) refl e
  where
    by_plain : (v : Bool) → Ends (cond v (Ok (front, Quoted from (bytes ++ b ∷ []))) (refused from word.String)) g → ⊥
    by_plain true e = elsewhere front g (Quoted from (bytes ++ b ∷ [])) refl e
    by_plain false e = nowhere (Refused from word.String) g e

    by_backslash : (v : Bool) → Ends (cond v (Ok (front, Escape from bytes)) (cond (is_plain b) (Ok (front, Quoted from (bytes ++ b ∷ []))) (refused from word.String))) g → ⊥
    by_backslash true e = elsewhere front g (Escape from bytes) refl e
    by_backslash false e = by_plain (is_plain b) e

    by_quote : (v : Bool) → eqb b 34 ≡ v →
        Ends (cond v (with_mode Between (with_items front (string_items from bytes))) (cond (eqb b 92) (Ok (front, Escape from bytes)) (cond (is_plain b) (Ok (front, Quoted from (bytes ++ b ∷ []))) (refused from word.String)))) g → ⊥
    by_quote true q e = tt≢ff (sym t ∙ ap is_run (eqb-true b 34 q) ∙ quote_run)
    by_quote false q e = by_backslash (eqb b 92) e

in_escape : (p b from : ℕ) (bytes : List ℕ) (front g : Front) → Ends (step p b front (Escape from bytes)) g → ⊥
unfolding step first_digit at_rest
in_escape p b from bytes front g e = by_first (begins_escape b) e
  where
    by_first : (v : Bool) → Ends (cond v (Ok (front, Digit from bytes (hex_value b))) (refused from word.String)) g → ⊥
    by_first true e = elsewhere front g (Digit from bytes (hex_value b)) refl e
    by_first false e = nowhere (Refused from word.String) g e

in_digit : (p b from high : ℕ) (bytes : List ℕ) (front g : Front) → Ends (step p b front (Digit from bytes high)) g → ⊥
unfolding step second_digit at_rest
in_digit p b from high bytes front g e = by_hex (is_hex b) e
  where
    by_plain : (v : Bool) → Ends (cond v (refused from word.String) (Ok (front, Quoted from (bytes ++ (16 * high + hex_value b) ∷ [])))) g → ⊥
    by_plain true e = nowhere (Refused from word.String) g e
    by_plain false e = elsewhere front g (Quoted from (bytes ++ (16 * high + hex_value b) ∷ [])) refl e

    by_hex : (v : Bool) →
        Ends (cond v (cond (is_plain (16 * high + hex_value b)) (refused from word.String) (Ok (front, Quoted from (bytes ++ (16 * high + hex_value b) ∷ [])))) (refused from word.String)) g → ⊥
    by_hex true e = by_plain (is_plain (16 * high + hex_value b)) e
    by_hex false e = nowhere (Refused from word.String) g e

-- a byte after which the reader stands between parts is none of a run
step_ends : (p b : ℕ) (front g : Front) (mode : Mode) → Ends (step p b front mode) g → is_run b ≡ false
unfolding at_rest
step_ends p b front g mode e = by_run (is_run b) refl
  where
    by_mode : (mode : Mode) → Ends (step p b front mode) g → is_run b ≡ true → ⊥
    by_mode Between e t =
        let i = begun_next p (Run p (b ∷ [])) front (g, Between) (sym (step_run p b front t) ∙ e) in
        elsewhere front g (Run p (b ∷ [])) refl (ap Ok i.1)
    by_mode Comment e t = in_comment p b front g e t
    by_mode (Run from run) e t = in_run p b from run front g e t
    by_mode (Quoted from bytes) e t = in_quotes p b from bytes front g e t
    by_mode (Escape from bytes) e t = in_escape p b from bytes front g e
    by_mode (Digit from bytes high) e t = in_digit p b from high bytes front g e

    by_run : (v : Bool) → is_run b ≡ v → v ≡ false
    by_run true t = absurd (by_mode mode e t)
    by_run false t = refl

-- the last byte before a place between parts is none of a run
last_byte : (text more : List ℕ) (b : ℕ) (front : Front) → Reach text front Between → text ≡ more ++ b ∷ [] → is_run b ≡ false
last_byte text more b front r e =
    let r2 : Reach (more ++ b ∷ []) front Between = subst (λ bs. Reach bs front Between) e r in
    let s = bound (known.after 0 more Before Between) (λ s. step (0 + length more) b s.0 s.1) (front, Between) (sym (known.after-push more b 0 Before Between) ∙ r2) in
    step_ends (0 + length more) b s.0.0 front s.0.1 s.2

run_here : (text rest : List ℕ) (from : ℕ) (run : List ℕ) (front : Front) → Real front → 0 < length run → EndsRun rest → (k : InRun text from run front) → IsRunIn k.0 run rest
run_here text rest from run front real some ends k =
    let at_run : PlaceOf (Inside k.5.0 k.5.1) k.0 = subst (λ f. PlaceOf f k.0) k.5.2 (between_place k.0 front k.3 real) in
    record {
      depth = suc k.5.1;
      inside = at_run;
      begins = λ more b e. last_byte k.0 more b front k.3 e;
      bytes = k.4;
      some = some;
      ends = ends;
    }

-- a run with a fault is refused, whatever follows it
pub run_bad : (text run more : List ℕ) (front : Front) (fault : TextFault) → Reach text front Between → known.IsInside front → AreRun run → 0 < length run →
    run_items (length text) run ≡ Err fault → read ((text ++ run) ++ more) ≡ Err fault
run_bad text [] more front fault r i bytes some e = absurd (omega arith)
run_bad text (b ∷ bs) more front fault r i bytes some e =
    ap read (append_assoc text (b ∷ bs) more) ∙ reach_read text ((b ∷ bs) ++ more) front Between r ∙
    ap (λ f. read_from (length text) (b ∷ (bs ++ more)) f Between) i.2 ∙
    ap (go_on (length text + 1) (bs ++ more)) (step_run (length text) b (Inside i.0 i.1) bytes.0 ∙ begun_inside (length text) i.1 (Run (length text) (b ∷ [])) i.0) ∙
    run_more bs more (length text + 1) (length text) (b ∷ []) (Inside i.0 i.1) bytes.1 ∙
    run_fault more (length text + 1 + length bs) (length text) (b ∷ bs) (Inside i.0 i.1) fault e

-- the front of a run that is a word, with one byte more

split_at : (n : ℕ) (xs : List ℕ) → n < length xs → (b : ℕ) × (more : List ℕ) × (xs ≡ take n xs ++ b ∷ more) × (length (take n xs) ≡ n)
split_at n [] h = absurd (omega arith)
split_at zero (x ∷ xs) h = (x, xs, refl, refl)
split_at (suc n) (x ∷ xs) h = let s = split_at n xs (omega arith) in (s.0, s.1, ap (λ ys. x ∷ ys) s.2, ap suc s.3)

words_stay : (more run : List ℕ) → (word_end run ≡ length run → ⊥) → word_end (run ++ more) ≡ word_end run
words_stay [] run h = ap word_end (append-nil run)
words_stay (b ∷ bs) run h =
    let one = word_end_stays run b h in
    let below = word_end-le run in
    ap word_end (sym (append_assoc run (b ∷ []) bs)) ∙
    words_stay bs (run ++ b ∷ []) (λ e. omega (arith, e, one, below, length-append run (b ∷ []))) ∙ one

numbers_stay : (more run : List ℕ) → begins_number run ≡ true → begins_number (run ++ more) ≡ true
numbers_stay [] run h = ap begins_number (append-nil run) ∙ h
numbers_stay (b ∷ bs) run h = ap begins_number (sym (append_assoc run (b ∷ []) bs)) ∙ numbers_stay bs (run ++ b ∷ []) (begins_again run b h)

-- a front of the run that is longer than its longest front that is a word
short_run : (from : ℕ) (front more : List ℕ) → begins_number (front ++ more) ≡ false → word_end (front ++ more) < length front →
    run_items from front ≡ refused (from + word_end (front ++ more)) word.Byte
unfolding run_items
short_run from front more n l = by_begin (begins_number front) refl
  where
    by_end : (v : Bool) → eqb (word_end front) (length front) ≡ v → begins_number front ≡ false →
        cond v (Ok (Name from front ∷ [])) (refused (from + word_end front) word.Byte) ≡ refused (from + word_end (front ++ more)) word.Byte
    by_end true t b =
        let same = eqb-true (word_end front) (length front) t in
        let is_word = word_writes front same (omega arith) in
        let long = word_longest front more is_word in absurd (omega arith)
    by_end false t b =
        let same = words_stay more front (eqb-false (word_end front) (length front) t) in
        ap (λ k. refused (from + k) word.Byte) (sym same)

    by_begin : (v : Bool) → begins_number front ≡ v →
        cond v (ok_or_fault (option_map (λ z. Number from z ∷ []) (number_of front)) (Refused from word.Number)) (cond (eqb (word_end front) (length front)) (Ok (Name from front ∷ [])) (refused (from + word_end front) word.Byte)) ≡
        refused (from + word_end (front ++ more)) word.Byte
    by_begin true t = absurd (tt≢ff (sym (numbers_stay more front t) ∙ n))
    by_begin false t = by_end (eqb (word_end front) (length front)) refl t

known_word : (run : List ℕ) → (take (word_end run) run ≡ []) ⊎ IsWord (take (word_end run) run)
known_word run = ⊎_elim (λ z. inl (ap (λ n. take n run) z)) (λ w. inr w) (word_front run)

longest : (run : List ℕ) (n : ℕ) → word_end run < n → n ≤ length run → IsWord (take n run) → ⊥
longest run n l m w =
    let long = word_longest (take n run) (drop n run) w in
    let same : word_end (take n run ++ drop n run) ≡ word_end run = ap word_end (take-append-drop n run) in
    let len : length (take n run) ≡ n = length-take-le n run m in
    omega (arith, long, same, len, l)

-- what the fault of a run says
abbrev RunErrs : List ℕ → List ℕ → ℕ → TextFault → Type 0
RunErrs text run from fault =
    ((fault ≡ Refused from word.Number) × (begins_number run ≡ true) × ((z : ℤ) → WritesNumber run z → ⊥))
    ⊎ ((fault ≡ Refused (from + word_end run) word.Byte) × (begins_number run ≡ false) × (word_end run < length run))

run_errs : (text : List ℕ) (from : ℕ) (run : List ℕ) → Errs (RunErrs text run from) (run_items from run)
unfolding run_items
run_errs text from run = by_begin (begins_number run) refl
  where
    some_number : (z : ℤ) → number_of run ≡ None → WritesNumber run z → ⊥
    some_number z e w = let i = (writes_number run z w).is in cc

    by_number : (o : Option ℤ) → number_of run ≡ o → begins_number run ≡ true → Errs {A = List Item} (RunErrs text run from) (ok_or_fault (option_map (λ z. Number from z ∷ []) o) (Refused from word.Number))
    by_number None n t = inl (refl, t, λ z w. some_number z n w)
    by_number (Some z) n t = tt

    by_end : (v : Bool) → eqb (word_end run) (length run) ≡ v → begins_number run ≡ false →
        Errs {A = List Item} (RunErrs text run from) (cond v (Ok (Name from run ∷ [])) (refused (from + word_end run) word.Byte))
    by_end true t n = tt
    by_end false t n =
        let differ = eqb-false (word_end run) (length run) t in
        let below = word_end-le run in
        let l : word_end run < length run = less (word_end run) (length run) below differ in
        inr (refl, n, l)
      where
        less : (x y : ℕ) → x ≤ y → (x ≡ y → ⊥) → x < y
        less x y h d = ⊎_elim (λ l. l) (λ r. absurd (d (omega (arith, h, r)))) (cases_lt x y)

    by_begin : (v : Bool) → begins_number run ≡ v →
        Errs {A = List Item} (RunErrs text run from) (cond v (ok_or_fault (option_map (λ z. Number from z ∷ []) (number_of run)) (Refused from word.Number)) (cond (eqb (word_end run) (length run)) (Ok (Name from run ∷ [])) (refused (from + word_end run) word.Byte)))
    by_begin true t = by_number (number_of run) refl t
    by_begin false t = by_end (eqb (word_end run) (length run)) refl t

number_refused : (text rest : List ℕ) (from : ℕ) (run : List ℕ) (front : Front) (fault : TextFault) → Real front → 0 < length run → EndsRun rest → InRun text from run front →
    run_items from run ≡ Err fault → fault ≡ Refused from word.Number → begins_number run ≡ true → ((z : ℤ) → WritesNumber run z → ⊥) → Refusal (text ++ rest) fault
number_refused text rest from run front fault real some ends k e f b n = record {
  front = k.0;
  part = run;
  rest = rest;
  whole = ap (λ bs. bs ++ rest) k.1 ∙ append_assoc k.0 run rest;
  place = ap place_of f ∙ sym k.2;
  refused_so = subst (λ d. IsRefused d k.0 run rest) (sym f) (run_here text rest from run front real some ends k, b, n);
  never = λ more. no_text ((k.0 ++ run) ++ more) fault (run_bad k.0 run more front fault k.3 k.5 k.4 some (ap (λ q. run_items q run) k.2 ∙ e));
}

byte_refused : (text rest : List ℕ) (from : ℕ) (run : List ℕ) (front : Front) (fault : TextFault) → Real front → 0 < length run → EndsRun rest → InRun text from run front →
    fault ≡ Refused (from + word_end run) word.Byte → begins_number run ≡ false → word_end run < length run → Refusal (text ++ rest) fault
byte_refused text rest from run front fault real some ends k f n l =
    let s = split_at (word_end run) run l in
    let word_here = take (word_end run) run in
    let b = s.0 in
    let more = s.1 in
    let upto = word_here ++ b ∷ [] in
    let run_is : run ≡ upto ++ more = s.2 ∙ sym (append_assoc word_here (b ∷ []) more) in
    let len : length upto ≡ word_end run + 1 = omega (arith, length-append word_here (b ∷ []), s.3) in
    let here : IsRunIn k.0 (word_here ++ b ∷ more) rest = subst (λ r. IsRunIn k.0 r rest) s.2 (run_here text rest from run front real some ends k) in
    let goes : GoesOnNoWord (k.0 ++ word_here) b (more ++ rest) = record {
      before = k.0;
      known = word_here;
      more = more;
      after = rest;
      front_is = refl;
      rest_is = refl;
      run = here;
      no_number = subst (λ r. begins_number r ≡ false) s.2 n;
      is_word = known_word run;
      longest = λ m lo hi. subst (λ r. m ≤ length r → IsWord (take m r) → ⊥) s.2 (longest run m (omega (arith, lo, s.3))) hi;
    } in
    let bad : run_items (length k.0) upto ≡ Err fault =
    short_run (length k.0) upto more (subst (λ r. begins_number r ≡ false) run_is n) (subst (λ r. word_end r < length upto) run_is (omega (arith, len))) ∙
    ap (λ r. refused (length k.0 + word_end r) word.Byte) (sym run_is) ∙ ap (λ q. refused (q + word_end run) word.Byte) k.2 ∙ ap Err (sym f) in
    let bytes : AreRun upto = run_upto word_here b more (subst AreRun s.2 k.4) in
    record {
      front = k.0 ++ word_here;
      part = b ∷ [];
      rest = more ++ rest;
      whole = ap (λ bs. bs ++ rest) (k.1 ∙ ap (λ r. k.0 ++ r) s.2) ∙ regrouped k.0 word_here b more rest;
      place = ap place_of f ∙ place_here (length k.0) from (word_end run) (length word_here) k.2 s.3 ∙ sym (length-append k.0 word_here);
      refused_so = subst (λ d. IsRefused d (k.0 ++ word_here) (b ∷ []) (more ++ rest)) (sym f) (b, refl, inr (inr goes));
      never = λ after. subst (λ bs. IsText (bs ++ after) → ⊥) (sym (append_assoc k.0 word_here (b ∷ [])))
          (no_text ((k.0 ++ upto) ++ after) fault (run_bad k.0 upto after front fault k.3 k.5 bytes (omega (arith, len)) bad));
    }
  where
    run_upto : (xs : List ℕ) (b : ℕ) (more : List ℕ) → AreRun (xs ++ b ∷ more) → AreRun (xs ++ b ∷ [])
    run_upto [] b more h = (h.0, tt)
    run_upto (x ∷ xs) b more h = (h.0, run_upto xs b more h.1)

    regrouped : (xs ys : List ℕ) (b : ℕ) (more rest : List ℕ) → (xs ++ (ys ++ b ∷ more)) ++ rest ≡ (xs ++ ys) ++ ((b ∷ []) ++ (more ++ rest))
    regrouped xs ys b more rest = simp append_assoc

    place_here : (n from w m : ℕ) → n ≡ from → m ≡ w → from + w ≡ n + m
    place_here n from w m e f = omega (arith, e, f)

in_run_refused : (text rest : List ℕ) (from : ℕ) (run : List ℕ) (front : Front) (fault : TextFault) → Real front → 0 < length run → EndsRun rest → InRun text from run front →
    run_items from run ≡ Err fault → Refusal (text ++ rest) fault
in_run_refused text rest from run front fault real some ends k e =
    ⊎_elim
    (λ h. number_refused text rest from run front fault real some ends k e h.0 h.1 h.2)
    (λ h. byte_refused text rest from run front fault real some ends k h.0 h.1 h.2)
    (errs_at (RunErrs text run from) (run_items from run) fault (run_errs text from run) e)

run_refused : (text rest : List ℕ) (b from : ℕ) (run : List ℕ) (front : Front) (fault : TextFault) → Reach text front (Run from run) → Real front → Known text front (Run from run) →
    step (length text) b front (Run from run) ≡ Err fault → Refusal (text ++ b ∷ rest) fault
unfolding step
run_refused text rest b from run front fault r real k e = by_run (is_run b) refl e
  where
    by_items : (s : Result (List Item) TextFault) → run_items from run ≡ s → is_run b ≡ false → ◌≡◌ {A = Result (Front × Mode) TextFault} (with_items front s >>= λ f. between (length text) b f) (Err fault) →
        Refusal (text ++ b ∷ rest) fault
    by_items (Ok xs) i t e =
        at_byte text rest b front (Run from run) fault r (at_step xs i t e)
        (errs_at (Refuses text b rest) (between (length text) b (added xs front)) fault (between_refuses text rest b (added xs front) (run_place text from run front xs r real k.0 k.1 i)) e)
      where
        at_step : (xs : List Item) → run_items from run ≡ Ok xs → is_run b ≡ false → ◌≡◌ {A = Result (Front × Mode) TextFault} (between (length text) b (added xs front)) (Err fault) → step (length text) b front (Run from run) ≡ Err fault
        at_step xs i t e = rw (t, i) e
    by_items (Err d) i t e = in_run_refused text (b ∷ rest) from run front fault real k.1 t k.0 (i ∙ error_same e)
      where
        error_same : ◌≡◌ {A = Result (Front × Mode) TextFault} (Err d) (Err fault) → ◌≡◌ {A = Result (List Item) TextFault} (Err d) (Err fault)
        error_same e = cc

    by_run : (v : Bool) → is_run b ≡ v → cond v (Ok (front, Run from (run ++ b ∷ []))) (with_items front (run_items from run) >>= λ f. between (length text) b f) ≡ Err fault →
        Refusal (text ++ b ∷ rest) fault
    by_run true t e = cc
    by_run false t e = by_items (run_items from run) refl t e

step_refused : (text rest : List ℕ) (b : ℕ) (front : Front) (mode : Mode) (fault : TextFault) → Reach text front mode → Holds text (front, mode) → Kept text mode →
    step (length text) b front mode ≡ Err fault → Refusal (text ++ b ∷ rest) fault
step_refused text rest b front Between fault r h k e =
    at_byte text rest b front Between fault r e
    (errs_at (Refuses text b rest) (between (length text) b front) fault (between_refuses text rest b front (between_place text front r h.0)) (sym (step_between (length text) b front) ∙ e))
step_refused text rest b front Comment fault r h k e = absurd (comment_fault (length text) b front fault e)
step_refused text rest b front (Run from run) fault r h k e = run_refused text rest b from run front fault r h.0 h.1 e
step_refused text rest b front (Quoted from bytes) fault r h k e =
    let w = errs_at (StringErrs (flat_map string_byte bytes) b k.0.0 rest from) (in_string b from bytes front) fault (string_errs text rest b from bytes front k.0 k.1) (sym (step_string (length text) b from bytes front) ∙ e) in
    quote_refused text rest b from (flat_map string_byte bytes) front (Quoted from bytes) fault r e k.0 w.0 w.1
step_refused text rest b front (Escape from bytes) fault r h k e =
    let w = errs_at (StringErrs (flat_map string_byte bytes ++ 92 ∷ []) b k.0.0 rest from) (first_digit b from bytes front) fault (escape_errs text rest b from bytes front k.0) (sym (step_escape (length text) b from bytes front) ∙ e) in
    quote_refused text rest b from (flat_map string_byte bytes ++ 92 ∷ []) front (Escape from bytes) fault r e k.0 w.0 w.1
step_refused text rest b front (Digit from bytes high) fault r h k e =
    let w = errs_at (StringErrs (flat_map string_byte bytes ++ 92 ∷ k.0 ∷ []) b k.3.0 rest from) (second_digit b from bytes high front) fault (digit_errs text rest b from bytes high front k) (sym (step_digit (length text) b from bytes high front) ∙ e) in
    quote_refused text rest b from (flat_map string_byte bytes ++ 92 ∷ k.0 ∷ []) front (Digit from bytes high) fault r e k.3 w.0 w.1

end_refused : (text : List ℕ) (front : Front) (mode : Mode) (fault : TextFault) → Holds text (front, mode) → finish (length text) front mode ≡ Err fault → IsNoEnd fault →
    Refusal (text ++ []) fault
end_refused text front mode fault h e n =
    let f = end_fault (length text) front mode fault e n in
    let known_here : Known text front (Run f.0 f.1) = subst (Known text front) f.2 h.1 in
    in_run_refused text [] f.0 f.1 front fault h.0 known_here.1 tt known_here.0 f.3

refusals : (rest text : List ℕ) (front : Front) (mode : Mode) (fault : TextFault) → Reach text front mode → Holds text (front, mode) → Kept text mode →
    read_from (length text) rest front mode ≡ Err fault → IsNoEnd fault → Refusal (text ++ rest) fault
refusals [] text front mode fault r h k e n = end_refused text front mode fault h e n
refusals (b ∷ bs) text front mode fault r h k e n =
    by_step (step (length text) b front mode) refl (λ next r2 h2 k2 e2. refusals bs (text ++ b ∷ []) next.0 next.1 fault r2 h2 k2 e2 n) e
  where
    by_step : (s : Result (Front × Mode) TextFault) → step (length text) b front mode ≡ s →
        ((next : Front × Mode) → Reach (text ++ b ∷ []) next.0 next.1 → Holds (text ++ b ∷ []) next → Kept (text ++ b ∷ []) next.1 →
        read_from (length (text ++ b ∷ [])) bs next.0 next.1 ≡ Err fault → Refusal ((text ++ b ∷ []) ++ bs) fault) →
        go_on (length text + 1) bs s ≡ Err fault → Refusal (text ++ b ∷ bs) fault
    by_step (Ok next) i more e =
        let longer : length (text ++ b ∷ []) ≡ length text + 1 = omega (arith, length-append text (b ∷ [])) in
        subst (λ xs. Refusal xs fault) (append_assoc text (b ∷ []) bs)
        (more next (reach_more text b front mode next r i) (step_known text b front mode next r h i) (step_kept text b front mode next r h k i)
        (place _ _ bs next.0 next.1 longer ∙ e))
    by_step (Err d) i more e = step_refused text bs b front mode fault r h k (i ∙ error_same e)
      where
        error_same : ◌≡◌ {A = Result (List Item) TextFault} (Err d) (Err fault) → ◌≡◌ {A = Result (Front × Mode) TextFault} (Err d) (Err fault)
        error_same e = cc

-- a fault other than `end` stands at a part that is refused so
pub fault_refused : (text : List ℕ) (fault : TextFault) → read text ≡ Err fault → IsNoEnd fault → Refusal text fault
unfolding read
fault_refused text fault e n = refusals text [] Before Between fault refl ((progress.Before, front_before), tt) tt e n

-- what is read is the items of a value

whole_of : (front : Front) (items : List Item) → Real front → front ≡ After items → (s : Sexp) × (items ≡ items_of s)
unfolding front_of
whole_of front items real e = by_progress real.0 (real.1 ∙ e)
  where
    by_progress : (q : Progress) → front_of q ≡ After items → (s : Sexp) × (items ≡ items_of s)
    by_progress progress.Before e = cc
    by_progress (progress.Inside outer inner) e = cc
    by_progress (progress.After whole) e = (whole, cc)

end_value : (p : ℕ) (front : Front) (mode : Mode) (items : List Item) → Real front → finish p front mode ≡ Ok items → (s : Sexp) × (items ≡ items_of s)
unfolding finish
end_value p Before Between items real e = cc
end_value p (Inside xs k) Between items real e = cc
end_value p (After xs) Between items real e = let same : xs ≡ items = cc in whole_of (After xs) items real (ap After same)
end_value p Before Comment items real e = cc
end_value p (Inside xs k) Comment items real e = cc
end_value p (After xs) Comment items real e = let same : xs ≡ items = cc in whole_of (After xs) items real (ap After same)
end_value p front (Run from run) items real e = let f = bound (with_items front (run_items from run)) (λ f. refused p word.End) items e in cc
end_value p front (Quoted from bytes) items real e = cc
end_value p front (Escape from bytes) items real e = cc
end_value p front (Digit from bytes high) items real e = cc

values : (rest text : List ℕ) (front : Front) (mode : Mode) (items : List Item) → Reach text front mode → Holds text (front, mode) →
    read_from (length text) rest front mode ≡ Ok items → (s : Sexp) × (items ≡ items_of s)
values [] text front mode items r h e = end_value (length text) front mode items h.0 e
values (b ∷ bs) text front mode items r h e =
    by_step (step (length text) b front mode) refl (λ next r2 h2 e2. values bs (text ++ b ∷ []) next.0 next.1 items r2 h2 e2) e
  where
    by_step : (s : Result (Front × Mode) TextFault) → step (length text) b front mode ≡ s →
        ((next : Front × Mode) → Reach (text ++ b ∷ []) next.0 next.1 → Holds (text ++ b ∷ []) next →
        read_from (length (text ++ b ∷ [])) bs next.0 next.1 ≡ Ok items → (s : Sexp) × (items ≡ items_of s)) →
        go_on (length text + 1) bs s ≡ Ok items → (s : Sexp) × (items ≡ items_of s)
    by_step (Ok next) i more e =
        let longer : length (text ++ b ∷ []) ≡ length text + 1 = omega (arith, length-append text (b ∷ [])) in
        more next (reach_more text b front mode next r i) (step_known text b front mode next r h i) (place _ _ bs next.0 next.1 longer ∙ e)
    by_step (Err d) i more e = cc

-- what is read is a value that the text spells
pub read_value : (text : List ℕ) (items : List Item) → read text ≡ Ok items → (s : Sexp) × (items ≡ items_of s) × SexpSpells text s
unfolding read
read_value text items e =
    let v = values text [] Before Between items refl ((progress.Before, front_before), tt) e in
    (v.0, v.1, spelled-read text v.0 (e ∙ ap Ok v.1))

-- a text spells a value, or has one fault
pub value_or_fault : (text : List ℕ) → IsText text ⊎ ((fault : TextFault) × (read text ≡ Err fault) × (IsText text → ⊥) × ((other : TextFault) → read text ≡ Err other → other ≡ fault))
value_or_fault text = by_read (read text) refl
  where
    only : (fault other : TextFault) → read text ≡ Err fault → read text ≡ Err other → other ≡ fault
    only fault other e f = cc

    by_read : (r : Result (List Item) TextFault) → read text ≡ r →
        IsText text ⊎ ((fault : TextFault) × (read text ≡ Err fault) × (IsText text → ⊥) × ((other : TextFault) → read text ≡ Err other → other ≡ fault))
    by_read (Ok items) e = let v = read_value text items e in inl (v.0, v.2)
    by_read (Err fault) e = inr (fault, e, no_text text fault e, λ other f. only fault other e f)
