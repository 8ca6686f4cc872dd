-- Reading a text from the front, byte by byte: the items of its value, or its first fault. The format of texts is
-- this project's own.
use Rattle.std.specs.Prelude.{ℕ, zero, suc, ℤ, pos, neg_ℤ, ◌+◌, ◌-◌, ◌*◌, ◌^◌, Bool, false, ◌==◌, nat_lt, ◌&&◌, ◌||◌, if◌then◌else◌, List, [], ◌∷◌, ◌++◌, length, slice_index, Option, Some, None, Result, Ok, Err}
use Rattle.std.specs.Option.{option_map}
use Rattle.std.specs.List.{prefix_len}
use Rattle.std.specs.Str.{is_utf8}
use Rattle.sexp_text.specs.declared.fault.TextFault.{TextFault}
use Rattle.sexp_text.specs.declared.fault.TextFault.TheVariants.{Refused, Limit, OutOfMemory}
use Rattle.sexp_text.specs.declared.fault.TextWord.{TextWord}
use Rattle.sexp_text.specs.declared.fault.TextWord.TheVariants as word
use Rattle.wasm_values.specs.declared.limit.LimitWord.TheVariants.{Nesting}
use Rattle.wasm_values.specs.Answers as answers
use Rattle.sexp_text.specs.declared.reader.Mode.{Mode}
use Rattle.sexp_text.specs.declared.reader.Mode.TheVariants.{Between, Comment, Run, Quoted, Escape, Digit}
use Rattle.sexp_text.specs.Bytes.{is_between, is_white, is_letter, is_digit, is_name_byte, is_sign, is_run, is_plain, is_hex, hex_value}
use Rattle.sexp_text.specs.Items.{Item, Open, Close, Number, Name, Quote}

infixl 10 ◌>>=◌
abbrev pub ◌>>=◌ : {A B : Type 0} → Result A TextFault → (A → Result B TextFault) → Result B TextFault
(Ok x) >>= f = f x
(Err e) >>= f = Err e

-- a fault that is no want of memory
abbrev pub fault_of : TextFault → Option TextFault
fault_of OutOfMemory = None
fault_of (Refused at w) = Some (Refused at w)
fault_of (Limit at w) = Some (Limit at w)

-- what a call answered, seen by view, is what reading gives, unless memory ran out
abbrev pub Fails : {Y : Type 0} → TextFault → Result Y TextFault → Type 0
Fails fault read = answers.Fails fault_of fault read

abbrev pub Gives : {X Y : Type 0} → (X → Y) → Result X TextFault → Result Y TextFault → Type 0
Gives view result read = answers.Gives fault_of view result read

abbrev pub refused : {A : Type 0} → ℕ → TextWord → Result A TextFault
refused at w = Err (Refused at w)

-- decimal digits that go on with a number, which stays below 2 ^ 120
abbrev pub digits_from : ℕ → List ℕ → Option ℕ
digits_from n [] = Some n
digits_from n (b ∷ bs) =
    if is_digit b && nat_lt (10 * n + (b - 48)) (2 ^ 120) then digits_from (10 * n + (b - 48)) bs else None

-- a digit 1 to 9 and more digits
unfoldable pub positive : List ℕ → Option ℕ
positive [] = None
positive (b ∷ bs) = if is_between 49 57 b then digits_from (b - 48) bs else None

-- the number that a run is: `0`, or a digit 1 to 9 and more digits, with or without a `-`
unfoldable pub number_of : List ℕ → Option ℤ
number_of [] = None
number_of (b ∷ bs) =
    if b == 48 then (if length bs == 0 then Some (pos 0) else None)
    else (if b == 45 then option_map (λ n. neg_ℤ (pos n)) (positive bs) else option_map pos (positive (b ∷ bs)))

-- a run that begins with a digit, or with `-` and a digit, is to be a number
unfoldable pub begins_number : List ℕ → Bool
begins_number [] = false
begins_number (b ∷ []) = is_digit b
begins_number (b ∷ c ∷ bs) = is_digit b || (b == 45 && is_digit c)

-- how many bytes of a run its longest front that is a word has: the words are `+ - * = < <=`, and a letter with
-- letters, digits, `_` and `.` after it
unfoldable pub word_end : List ℕ → ℕ
word_end [] = 0
word_end (b ∷ bs) =
    if is_letter b then prefix_len is_name_byte bs + 1
    else (if is_sign b then 1 else (if b == 60 then (if slice_index bs 0 == 61 then 2 else 1) else 0))

abbrev pub ok_or_fault : {A : Type 0} → Option A → TextFault → Result A TextFault
ok_or_fault None e = Err e
ok_or_fault (Some x) e = Ok x

-- the item of a whole run
unfoldable pub run_items : ℕ → List ℕ → Result (List Item) TextFault
run_items at run =
    if begins_number run then ok_or_fault (option_map (λ z. Number at z ∷ []) (number_of run)) (Refused at word.Number)
    else (if word_end run == length run then Ok (Name at run ∷ []) else refused (at + word_end run) word.Byte)

-- the item of a whole string
unfoldable pub string_items : ℕ → List ℕ → Result (List Item) TextFault
string_items at bytes = if is_utf8 bytes then Ok (Quote at bytes ∷ []) else refused at word.Utf8

-- what was read: nothing yet; some items, with so many lists open around the innermost open one; or a whole list
pub data Front : Type 0 where
  Before : Front
  Inside : List Item → ℕ → Front
  After : List Item → Front

-- a list begins. At most 500 are open.
unfoldable pub opened : ℕ → Front → Result Front TextFault
opened at Before = Ok (Inside (Open at ∷ []) 0)
opened at (Inside items around) =
    if nat_lt (around + 1) 500 then Ok (Inside (items ++ Open at ∷ []) (around + 1)) else Err (Limit at Nesting)
opened at (After items) = refused at word.Rest

-- the innermost open list ends
unfoldable pub closed : ℕ → Front → Result Front TextFault
closed at Before = refused at word.Close
closed at (Inside items zero) = Ok (After (items ++ Close at ∷ []))
closed at (Inside items (suc around)) = Ok (Inside (items ++ Close at ∷ []) around)
closed at (After items) = refused at word.Close

-- a run or a string begins, which stands only in a list
unfoldable pub begun : ℕ → Mode → Front → Result (Front × Mode) TextFault
begun at mode Before = refused at word.Byte
begun at mode (Inside items around) = Ok (Inside items around, mode)
begun at mode (After items) = refused at word.Rest

-- the items of a run or a string are read
unfoldable pub added : List Item → Front → Front
added more Before = Before
added more (Inside items around) = Inside (items ++ more) around
added more (After items) = After items

abbrev pub with_mode : Mode → Result Front TextFault → Result (Front × Mode) TextFault
with_mode mode front = front >>= λ f. Ok (f, mode)

abbrev pub with_items : Front → Result (List Item) TextFault → Result Front TextFault
with_items front items = items >>= λ more. Ok (added more front)

-- a byte between the parts
unfoldable pub between : ℕ → ℕ → Front → Result (Front × Mode) TextFault
between at b front =
    if is_white b then Ok (front, Between)
    else (if b == 59 then Ok (front, Comment)
    else (if b == 40 then with_mode Between (opened at front)
    else (if b == 41 then with_mode Between (closed at front)
    else (if b == 34 then begun at (Quoted at []) front
    else (if is_run b then begun at (Run at (b ∷ [])) front else refused at word.Byte)))))

-- a byte of a string, whose bytes so far are these
unfoldable pub in_string : ℕ → ℕ → List ℕ → Front → Result (Front × Mode) TextFault
in_string b from bytes front =
    if b == 34 then with_mode Between (with_items front (string_items from bytes))
    else (if b == 92 then Ok (front, Escape from bytes)
    else (if is_plain b then Ok (front, Quoted from (bytes ++ b ∷ [])) else refused from word.String))

-- the first digit of an escape. With 3, 4 and 6 there are only plain bytes, which are not escaped.
unfoldable pub begins_escape : ℕ → Bool
begins_escape b = is_between 48 50 b || b == 53 || is_between 55 57 b || is_between 97 102 b

unfoldable pub first_digit : ℕ → ℕ → List ℕ → Front → Result (Front × Mode) TextFault
first_digit b from bytes front =
    if begins_escape b then Ok (front, Digit from bytes (hex_value b)) else refused from word.String

-- the second digit of an escape
unfoldable pub second_digit : ℕ → ℕ → List ℕ → ℕ → Front → Result (Front × Mode) TextFault
second_digit b from bytes high front =
    if is_hex b then (if is_plain (16 * high + hex_value b) then refused from word.String
    else Ok (front, Quoted from (bytes ++ (16 * high + hex_value b) ∷ [])))
    else refused from word.String

-- one more byte, at this place
unfoldable pub step : ℕ → ℕ → Front → Mode → Result (Front × Mode) TextFault
step at b front Between = between at b front
step at b front Comment = if b == 10 then Ok (front, Between) else Ok (front, Comment)
step at b front (Run from run) =
    if is_run b then Ok (front, Run from (run ++ b ∷ []))
    else with_items front (run_items from run) >>= λ f. between at b f
step at b front (Quoted from bytes) = in_string b from bytes front
step at b front (Escape from bytes) = first_digit b from bytes front
step at b front (Digit from bytes high) = second_digit b from bytes high front

-- the text ends, at this place
unfoldable pub finish : ℕ → Front → Mode → Result (List Item) TextFault
finish at front (Run from run) = with_items front (run_items from run) >>= λ f. refused at word.End
finish at (After items) Between = Ok items
finish at (After items) Comment = Ok items
finish at front mode = refused at word.End

-- the rest of a text, from this place on
abbrev pub read_from : ℕ → List ℕ → Front → Mode → Result (List Item) TextFault
read_from at [] front mode = finish at front mode
read_from at (b ∷ bs) front mode = step at b front mode >>= λ next. read_from (at + 1) bs next.0 next.1

-- the items of the value that a text spells, or the fault where its longest reading stops
unfoldable pub read : List ℕ → Result (List Item) TextFault
read text = read_from 0 text Before Between
