-- What is spelled so is read: the steps of reading over gaps and spellings.
use Rattle.std.proofs.Common.{◌≡◌, ℕ, ◌+◌, ◌*◌, ◌/◌, ◌%◌, ◌<◌, Bool, true, false, cond, eqb, List, [], ◌∷◌, ◌++◌, length, Result, Ok, Err, refl, sym, ap, ◌∙◌, ⊎_elim, append_assoc, length-append, arith}
use Rattle.std.proofs.lemmas.Bool.{ne_eqb}
use Rattle.std.proofs.lemmas.Bool.Decides.{nat_tests}
use Rattle.std.proofs.lemmas.List.{append-nil}
use Rattle.std.proofs.lemmas.Str.{is_utf8-from_IsUtf8}
use Rattle.std.specs.Char.{digit_char}
use Rattle.std.specs.List.{AllByRecursion, flat_map}
use Rattle.std.specs.Str.{IsUtf8}
use Rattle.sexp_text.specs.declared.fault.TextFault.{TextFault}
use Rattle.sexp_text.specs.declared.reader.Mode.{Mode}
use Rattle.sexp_text.specs.declared.reader.Mode.TheVariants.{Between, Comment, Run, Quoted, Escape, Digit}
use Rattle.sexp_text.specs.Bytes.{is_white, is_name_byte, is_sign, is_run, is_plain, is_hex, hex_value}
use Rattle.sexp_text.specs.Items.{Item, Quote}
use Rattle.sexp_text.specs.Reading.{◌>>=◌, Front, Inside, After, opened, closed, begun, added, with_mode, between, in_string, begins_escape, first_digit, second_digit, run_items, string_items, step, finish, read_from}
use Rattle.sexp_text.specs.Spelling.{Gap, nothing, white, comment, IsLine, LastGap, string_byte, quoted, EndsRun}
use Rattle.sexp_text.proofs.Utf8Lemmas.{AreBytes, utf8_bytes}

-- reading goes on after a step
abbrev pub go_on : ℕ → List ℕ → Result (Front × Mode) TextFault → Result (List Item) TextFault
go_on p bs r = r >>= λ next. read_from p bs next.0 next.1

pub go_on-mode : (p : ℕ) (bs : List ℕ) (mode : Mode) (r : Result Front TextFault) → go_on p bs (with_mode mode r) ≡ (r >>= λ f. read_from p bs f mode)
go_on-mode p bs mode (Ok f) = refl
go_on-mode p bs mode (Err e) = refl

pub step_white : (p b : ℕ) (front : Front) → is_white b ≡ true → step p b front Between ≡ Ok (front, Between)
unfolding step between
step_white p b front h = rw h refl

pub step_semicolon : (p : ℕ) (front : Front) → step p 59 front Between ≡ Ok (front, Comment)
unfolding step between is_white
step_semicolon p front = refl

pub step_open : (p : ℕ) (front : Front) → step p 40 front Between ≡ with_mode Between (opened p front)
unfolding step between is_white
step_open p front = refl

pub step_close : (p : ℕ) (front : Front) → step p 41 front Between ≡ with_mode Between (closed p front)
unfolding step between is_white
step_close p front = refl

pub step_quote : (p : ℕ) (front : Front) → step p 34 front Between ≡ begun p (Quoted p []) front
unfolding step between is_white
step_quote p front = refl

-- a byte of a run is none of the others
pub run_is_other : (b : ℕ) → is_run b ≡ true → (is_white b ≡ false) × (eqb b 59 ≡ false) × (eqb b 40 ≡ false) × (eqb b 41 ≡ false) × (eqb b 34 ≡ false)
unfolding is_run is_white is_name_byte is_sign
run_is_other b h = (grind (arith, nat_tests), grind (arith, nat_tests), grind (arith, nat_tests), grind (arith, nat_tests), grind (arith, nat_tests))

pub step_run : (p b : ℕ) (front : Front) → is_run b ≡ true → step p b front Between ≡ begun p (Run p (b ∷ [])) front
unfolding step between
step_run p b front h =
    let other = run_is_other b h in rw (other.0, other.1, other.2, other.3, other.4, h) refl

pub step_comment : (p b : ℕ) (front : Front) → (b ≡ 10 → ⊥) → step p b front Comment ≡ Ok (front, Comment)
unfolding step
step_comment p b front h = rw (ne_eqb b 10 h) refl

pub step_line_feed : (p : ℕ) (front : Front) → step p 10 front Comment ≡ Ok (front, Between)
unfolding step
step_line_feed p front = refl

-- a place by the bytes before it
pub place : (p q : ℕ) (bs : List ℕ) (front : Front) (mode : Mode) → p ≡ q → read_from p bs front mode ≡ read_from q bs front mode
place p q bs front mode e = ap (λ k. read_from k bs front mode) e

pub comment_read : (line rest : List ℕ) (p : ℕ) (front : Front) → IsLine line →
    read_from p (line ++ rest) front Comment ≡ read_from (p + length line) rest front Comment
comment_read [] rest p front h = place _ _ rest front Comment (omega arith)
comment_read (b ∷ bs) rest p front h =
    ap (go_on (p + 1) (bs ++ rest)) (step_comment p b front h.0) ∙ comment_read bs rest (p + 1) front h.1 ∙
    place _ _ rest front Comment (omega arith)

pub gap_read : {gap : List ℕ} → Gap gap → (rest : List ℕ) (p : ℕ) (front : Front) →
    read_from p (gap ++ rest) front Between ≡ read_from (p + length gap) rest front Between
gap_read nothing rest p front = place _ _ rest front Between (omega arith)
gap_read (white {b} {more} h g) rest p front =
    ap (go_on (p + 1) (more ++ rest)) (step_white p b front h) ∙ gap_read g rest (p + 1) front ∙
    place _ _ rest front Between (omega arith)
gap_read (comment line {more} h g) rest p front =
    ap (go_on (p + 1) ((line ++ 10 ∷ more) ++ rest)) (step_semicolon p front) ∙
    ap (λ bs. read_from (p + 1) bs front Comment) (append_assoc line (10 ∷ more) rest) ∙
    comment_read line (10 ∷ (more ++ rest)) (p + 1) front h ∙
    ap (go_on ((p + 1 + length line) + 1) (more ++ rest)) (step_line_feed (p + 1 + length line) front) ∙
    gap_read g rest ((p + 1 + length line) + 1) front ∙
    place _ _ rest front Between (omega (arith, length-append line (10 ∷ more)))

pub last_gap_read : (text all : _) (p : ℕ) → LastGap text → read_from p text (After all) Between ≡ Ok all
unfolding finish
last_gap_read text all p h =
    ⊎_elim
    (λ g. ap (λ bs. read_from p bs (After all) Between) (sym (append-nil text)) ∙ gap_read g [] p (After all))
    (λ g. let gap = g.0 in let line = g.1 in
    ap (λ bs. read_from p bs (After all) Between) g.2 ∙ gap_read g.3 (59 ∷ line) p (After all) ∙
    ap (go_on ((p + length gap) + 1) line) (step_semicolon (p + length gap) (After all)) ∙
    ap (λ bs. read_from ((p + length gap) + 1) bs (After all) Comment) (sym (append-nil line)) ∙
    comment_read line [] ((p + length gap) + 1) (After all) g.4)
    h

-- a run

abbrev pub AreRun : List ℕ → Type 0
AreRun = AllByRecursion (λ b. is_run b ≡ true)

step_more_run : (p b from : ℕ) (run : List ℕ) (front : Front) → is_run b ≡ true → step p b front (Run from run) ≡ Ok (front, Run from (run ++ b ∷ []))
unfolding step
step_more_run p b from run front h = rw h refl

pub run_more : (more rest : List ℕ) (p from : ℕ) (run : List ℕ) (front : Front) → AreRun more →
    read_from p (more ++ rest) front (Run from run) ≡ read_from (p + length more) rest front (Run from (run ++ more))
run_more [] rest p from run front h =
    place _ _ rest front (Run from run) (omega arith) ∙ ap (λ r. read_from (p + 0) rest front (Run from r)) (sym (append-nil run))
run_more (b ∷ bs) rest p from run front h =
    ap (go_on (p + 1) (bs ++ rest)) (step_more_run p b from run front h.0) ∙
    run_more bs rest (p + 1) from (run ++ b ∷ []) front h.1 ∙
    ap (λ r. read_from (p + 1 + length bs) rest front (Run from r)) (append_assoc run (b ∷ []) bs) ∙
    place _ _ rest front (Run from (run ++ b ∷ bs)) (omega arith)

-- where a run ends, its item is read
pub run_ends : (rest : List ℕ) (p from k : ℕ) (run : List ℕ) (items xs : List Item) → EndsRun rest → run_items from run ≡ Ok xs →
    read_from p rest (Inside items k) (Run from run) ≡ read_from p rest (Inside (items ++ xs) k) Between
unfolding step finish added
run_ends [] p from k run items xs h e = rw e refl
run_ends (b ∷ bs) p from k run items xs h e = rw (h, e) refl

pub begun_inside : (p k : ℕ) (mode : Mode) (items : List Item) → begun p mode (Inside items k) ≡ Ok (Inside items k, mode)
unfolding begun
begun_inside p k mode items = refl

pub run_read : (b : ℕ) (bs rest : List ℕ) (p k : ℕ) (items xs : List Item) → AreRun (b ∷ bs) → EndsRun rest → run_items p (b ∷ bs) ≡ Ok xs →
    read_from p (b ∷ (bs ++ rest)) (Inside items k) Between ≡ read_from (p + length (b ∷ bs)) rest (Inside (items ++ xs) k) Between
run_read b bs rest p k items xs h ends e =
    ap (go_on (p + 1) (bs ++ rest)) (step_run p b (Inside items k) h.0 ∙ begun_inside p k (Run p (b ∷ [])) items) ∙
    run_more bs rest (p + 1) p (b ∷ []) (Inside items k) h.1 ∙
    run_ends rest (p + 1 + length bs) p k (b ∷ bs) items xs ends e ∙
    place _ _ rest (Inside (items ++ xs) k) Between (omega arith)

-- a string

plain_is_other : (b : ℕ) → is_plain b ≡ true → (eqb b 34 ≡ false) × (eqb b 92 ≡ false)
unfolding is_plain
plain_is_other b h = (grind (arith, nat_tests), grind (arith, nat_tests))

step_plain : (p b from : ℕ) (bytes : List ℕ) (front : Front) → is_plain b ≡ true →
    step p b front (Quoted from bytes) ≡ Ok (front, Quoted from (bytes ++ b ∷ []))
unfolding step in_string
step_plain p b from bytes front h = let other = plain_is_other b h in rw (other.0, other.1, h) refl

step_backslash : (p from : ℕ) (bytes : List ℕ) (front : Front) → step p 92 front (Quoted from bytes) ≡ Ok (front, Escape from bytes)
unfolding step in_string
step_backslash p from bytes front = refl

pub digit_of : (d : ℕ) → d < 16 → (is_hex (digit_char d) ≡ true) × (hex_value (digit_char d) ≡ d)
unfolding is_hex hex_value
digit_of d h = (grind (arith, nat_tests), grind (arith, nat_tests))

pub first_of_escape : (d l : ℕ) → d < 16 → l < 16 → is_plain (16 * d + l) ≡ false → begins_escape (digit_char d) ≡ true
unfolding is_plain begins_escape
first_of_escape d l h k n = grind (arith, nat_tests)

step_first : (p d from : ℕ) (bytes : List ℕ) (front : Front) → begins_escape (digit_char d) ≡ true → hex_value (digit_char d) ≡ d →
    step p (digit_char d) front (Escape from bytes) ≡ Ok (front, Digit from bytes d)
unfolding step first_digit
step_first p d from bytes front h e = rw (h, e) refl

pub step_second : (p d l b from : ℕ) (bytes : List ℕ) (front : Front) → is_hex (digit_char l) ≡ true → hex_value (digit_char l) ≡ l → 16 * d + l ≡ b → is_plain b ≡ false →
    step p (digit_char l) front (Digit from bytes d) ≡ Ok (front, Quoted from (bytes ++ b ∷ []))
unfolding step second_digit
step_second p d l b from bytes front h e eb n = rw (h, e, eb, n) refl

byte_read : (b from p : ℕ) (bytes rest : List ℕ) (front : Front) → b < 256 →
    read_from p (string_byte b ++ rest) front (Quoted from bytes) ≡ read_from (p + length (string_byte b)) rest front (Quoted from (bytes ++ b ∷ []))
byte_read b from p bytes rest front small = by_plain (is_plain b) refl
  where
    whole : 16 * (b / 16) + b % 16 ≡ b
    whole = omega arith

    low : b % 16 < 16
    low = omega arith

    high : b / 16 < 16
    high = omega (arith, small)

    spelled : Bool → List ℕ
    spelled v = cond v (b ∷ []) (92 ∷ digit_char (b / 16) ∷ digit_char (b % 16) ∷ [])

    by_plain : (v : Bool) → is_plain b ≡ v →
        read_from p (cond v (b ∷ []) (92 ∷ digit_char (b / 16) ∷ digit_char (b % 16) ∷ []) ++ rest) front (Quoted from bytes) ≡
        read_from (p + length (cond v (b ∷ []) (92 ∷ digit_char (b / 16) ∷ digit_char (b % 16) ∷ []))) rest front (Quoted from (bytes ++ b ∷ []))
    by_plain true h = ap (go_on (p + 1) rest) (step_plain p b from bytes front h)
    by_plain false h =
        let d1 = digit_of (b / 16) high in
        let d2 = digit_of (b % 16) low in
        let n : is_plain (16 * (b / 16) + b % 16) ≡ false = ap is_plain whole ∙ h in
        ap (go_on (p + 1) (digit_char (b / 16) ∷ digit_char (b % 16) ∷ rest)) (step_backslash p from bytes front) ∙
        ap (go_on (p + 1 + 1) (digit_char (b % 16) ∷ rest)) (step_first (p + 1) (b / 16) from bytes front (first_of_escape (b / 16) (b % 16) high low n) d1.1) ∙
        ap (go_on (p + 1 + 1 + 1) rest) (step_second (p + 1 + 1) (b / 16) (b % 16) b from bytes front d2.0 d2.1 whole h) ∙
        place _ _ rest front (Quoted from (bytes ++ b ∷ [])) (omega arith)

pub bytes_read : (more rest : List ℕ) (from p : ℕ) (bytes : List ℕ) (front : Front) → AreBytes more →
    read_from p (flat_map string_byte more ++ rest) front (Quoted from bytes) ≡
    read_from (p + length (flat_map string_byte more)) rest front (Quoted from (bytes ++ more))
bytes_read [] rest from p bytes front h =
    place _ _ rest front (Quoted from bytes) (omega arith) ∙ ap (λ r. read_from (p + 0) rest front (Quoted from r)) (sym (append-nil bytes))
bytes_read (b ∷ bs) rest from p bytes front h =
    ap (λ r. read_from p r front (Quoted from bytes)) (append_assoc (string_byte b) (flat_map string_byte bs) rest) ∙
    byte_read b from p bytes (flat_map string_byte bs ++ rest) front h.0 ∙
    bytes_read bs rest from (p + length (string_byte b)) (bytes ++ b ∷ []) front h.1 ∙
    ap (λ r. read_from (p + length (string_byte b) + length (flat_map string_byte bs)) rest front (Quoted from r)) (append_assoc bytes (b ∷ []) bs) ∙
    place _ _ rest front (Quoted from (bytes ++ b ∷ bs)) (omega (arith, length-append (string_byte b) (flat_map string_byte bs)))

step_end_quote : (p from k : ℕ) (bytes : List ℕ) (items : List Item) → IsUtf8 bytes →
    step p 34 (Inside items k) (Quoted from bytes) ≡ Ok (Inside (items ++ Quote from bytes ∷ []) k, Between)
unfolding step in_string string_items added
step_end_quote p from k bytes items h = rw (is_utf8-from_IsUtf8 bytes h) refl

pub string_read : (bytes rest : List ℕ) (p k : ℕ) (items : List Item) → IsUtf8 bytes →
    read_from p (quoted bytes ++ rest) (Inside items k) Between ≡ read_from (p + length (quoted bytes)) rest (Inside (items ++ Quote p bytes ∷ []) k) Between
string_read bytes rest p k items h =
    ap (go_on (p + 1) ((flat_map string_byte bytes ++ 34 ∷ []) ++ rest)) (step_quote p (Inside items k) ∙ begun_inside p k (Quoted p []) items) ∙
    ap (λ r. read_from (p + 1) r (Inside items k) (Quoted p [])) (append_assoc (flat_map string_byte bytes) (34 ∷ []) rest) ∙
    bytes_read bytes (34 ∷ rest) p (p + 1) [] (Inside items k) (utf8_bytes bytes h) ∙
    ap (go_on (p + 1 + length (flat_map string_byte bytes) + 1) rest) (step_end_quote (p + 1 + length (flat_map string_byte bytes)) p k bytes items h) ∙
    place _ _ rest (Inside (items ++ Quote p bytes ∷ []) k) Between (omega (arith, length-append (flat_map string_byte bytes) (34 ∷ [])))
