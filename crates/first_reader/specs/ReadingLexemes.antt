-- Reading the parts of a text, as functions on what is left of them.
use Rattle.std.specs.Prelude.{ℕ, zero, suc, ℤ, pos, negsuc, Bool, ◌||◌, List, [], ◌∷◌, length, Option, Some, None, nat_lt, ◌==◌, if◌then◌else◌}
use Rattle.std.specs.Str.{bytes_eq}
use Rattle.first_reader.specs.declared.text.Token.{Token}
use Rattle.first_reader.specs.declared.text.Token.TheVariants as token
use Rattle.first_reader.specs.Lexemes.{Lexeme, Open, Close, Number, Word, is_white}
use Rattle.first_reader.specs.Reading.{◌>>=◌}

-- what the code's tokens stand for
abbrev pub lexeme : Token → Lexeme
lexeme token.Open = Open
lexeme token.Close = Close
lexeme (token.Number z) = Number z
lexeme (token.Word w) = Word w.now

-- what ends a run
abbrev pub is_break : ℕ → Bool
is_break byte = is_white byte || (byte == 40 || byte == 41)

-- a parenthesis that opens
abbrev pub open_at : List Lexeme → Option (List Lexeme)
open_at (Open ∷ rest) = Some rest
open_at _ = None

-- a parenthesis that closes
abbrev pub close_at : List Lexeme → Option (List Lexeme)
close_at (Close ∷ rest) = Some rest
close_at _ = None

-- this word
abbrev pub word_at : List ℕ → List Lexeme → Option (List Lexeme)
word_at w (Word v ∷ rest) = if bytes_eq v w then Some rest else None
word_at w _ = None

-- a number
abbrev pub number_at : List Lexeme → Option (ℤ × List Lexeme)
number_at (Number z ∷ rest) = Some (z, rest)
number_at _ = None

-- a number of 32 bits
abbrev pub u32_of : ℤ → Option ℕ
u32_of (pos n) = if nat_lt n 4294967296 then Some n else None
u32_of (negsuc n) = None

-- a number of 32 bits that stands first
unfoldable pub u32_at : List Lexeme → Option (ℕ × List Lexeme)
u32_at parts = number_at parts >>= λ z. u32_of z.0 >>= λ n. Some (n, z.1)

-- the head of a list that begins with this word
unfoldable pub head_at : List ℕ → List Lexeme → Option (List Lexeme)
head_at w parts = open_at parts >>= λ rest. word_at w rest

-- a list of nothing
unfoldable pub empty_at : List Lexeme → Option (List Lexeme)
empty_at parts = open_at parts >>= λ rest. close_at rest

module _ {A : Type 0} (begins : List Lexeme → Bool) (read : List Lexeme → Option (A × List Lexeme)) where
  -- at most n things, as long as one begins; each takes a part at least
  unfoldable pub many_from : ℕ → List Lexeme → Option (List A × List Lexeme)
  many_from zero parts = if begins parts then None else Some ([], parts)
  many_from (suc n) parts =
      if begins parts then
      (read parts >>= λ first. if nat_lt (length first.1) (length parts) then (many_from n first.1 >>= λ others. Some (first.0 ∷ others.0, others.1)) else None)
      else Some ([], parts)

  -- things one after another
  unfoldable pub many_at : List Lexeme → Option (List A × List Lexeme)
  many_at parts = many_from (length parts) parts

  -- a list of such things
  unfoldable pub list_at : List Lexeme → Option (List A × List Lexeme)
  list_at parts = open_at parts >>= λ rest. many_at rest >>= λ xs. close_at xs.1 >>= λ others. Some (xs.0, others)

-- a text without the white space before its first part
abbrev pub drop_white : List ℕ → List ℕ
drop_white [] = []
drop_white (byte ∷ text) = if is_white byte then drop_white text else byte ∷ text

-- how long the run is that a text begins with
abbrev pub run_len : List ℕ → ℕ
run_len [] = 0
run_len (byte ∷ text) = if is_break byte then 0 else suc (run_len text)
