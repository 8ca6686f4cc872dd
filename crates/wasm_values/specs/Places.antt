-- How places are printed.
use Rattle.std.specs.Prelude.{ℕ, ◌/◌, ◌%◌, ◌^◌, List, [], ◌∷◌, ◌++◌, codes}
use Rattle.std.specs.Char.{digit_char}

-- The lowest hexadecimal digit of a number, in lower case.
abbrev pub hex_digit : ℕ → ℕ
hex_digit n = digit_char (n % 16)

-- A place: `0x` and its eight lowest hexadecimal digits.
unfoldable pub place_text : ℕ → List ℕ
place_text at =
    codes "0x" ++ hex_digit (at / 16 ^ 7) ∷ hex_digit (at / 16 ^ 6) ∷ hex_digit (at / 16 ^ 5) ∷ hex_digit (at / 16 ^ 4)
    ∷ hex_digit (at / 16 ^ 3) ∷ hex_digit (at / 16 ^ 2) ∷ hex_digit (at / 16) ∷ hex_digit at ∷ []
