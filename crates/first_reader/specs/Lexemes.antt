-- The parts of a text: parentheses, numbers and words.
use Rattle.std.specs.Prelude.{ℕ, ◌+◌, ◌-◌, ◌*◌, ◌^◌, ℤ, pos, neg_ℤ, Bool, ◌&&◌, ◌||◌, List, [], ◌∷◌, ◌++◌, Option, Some, None, nat_lt, nat_le, ◌==◌, if◌then◌else◌}
use Rattle.std.specs.Option.{option_map}
use Rattle.std.specs.List.{list_all}
use Rattle.first_reader.specs.Reading.{◌>>=◌}

-- A part of a text that is no white space.
pub data Lexeme : Type 0 where
  Open : Lexeme
  Close : Lexeme
  Number : ℤ → Lexeme
  Word : List ℕ → Lexeme

-- White space is space, tab, line feed and carriage return.
abbrev pub is_white : ℕ → Bool
is_white byte = byte == 32 || byte == 9 || byte == 10 || byte == 13

-- Digits are `0` to `9`.
abbrev pub is_digit : ℕ → Bool
is_digit byte = nat_le 48 byte && nat_le byte 57

-- The number that digits spell after one that was spelled before.
abbrev pub value_from : ℕ → List ℕ → ℕ
value_from n [] = n
value_from n (d ∷ ds) = value_from (10 * n + (d - 48)) ds

-- The number that digits spell, if the bytes are digits and it is below 2^120.
unfoldable pub digits_value : List ℕ → Option ℕ
digits_value ds = if list_all is_digit ds && nat_lt (value_from 0 ds) (2 ^ 120) then Some (value_from 0 ds) else None

-- There is no leading zero: `0`, or a digit 1 to 9 and more digits.
abbrev pub magnitude : List ℕ → Option ℕ
magnitude [] = None
magnitude (d ∷ []) = digits_value (d ∷ [])
magnitude (d ∷ e ∷ ds) = if d == 48 then None else digits_value (d ∷ e ∷ ds)

-- A `-` stands before a number other than 0 alone.
abbrev pub negated : ℕ → Option ℤ
negated n = if n == 0 then None else Some (neg_ℤ (pos n))

-- The number that bytes spell, if they do, and its absolute value is below 2^120.
unfoldable pub numeral : List ℕ → Option ℤ
numeral [] = None
numeral (byte ∷ bytes) = if byte == 45 then magnitude bytes >>= negated else option_map pos (magnitude (byte ∷ bytes))

-- A run as its number, where it spells one, and else as a word.
abbrev pub number_or_word : Option ℤ → List ℕ → Lexeme
number_or_word (Some z) run = Number z
number_or_word None run = Word run

-- A run of other bytes is the number that it spells, or else a word.
abbrev pub lexeme_of : List ℕ → Lexeme
lexeme_of run = number_or_word (numeral run) run

-- A run that has ended is one more part; nothing is none.
abbrev pub with_run : List ℕ → List Lexeme → List Lexeme
with_run [] parts = parts
with_run (byte ∷ run) parts = lexeme_of (byte ∷ run) ∷ parts

-- The parts of a text behind a run that goes on: white space and parentheses end it.
abbrev pub lexemes_from : List ℕ → List ℕ → List Lexeme
lexemes_from run [] = with_run run []
lexemes_from run (byte ∷ text) =
    if is_white byte then with_run run (lexemes_from [] text)
    else if byte == 40 then with_run run (Open ∷ lexemes_from [] text)
    else if byte == 41 then with_run run (Close ∷ lexemes_from [] text)
    else lexemes_from (run ++ byte ∷ []) text

-- The parts of a text: parentheses stand for themselves, and a number or word is a longest run of bytes that are neither
-- parentheses nor white space. So two numbers or words stand apart by white space or a parenthesis.
unfoldable pub lexemes : List ℕ → List Lexeme
lexemes text = lexemes_from [] text
