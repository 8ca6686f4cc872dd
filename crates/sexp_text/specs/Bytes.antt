-- The kinds of bytes in a text. The format of texts is this project's own.
use Rattle.std.specs.Prelude.{ℕ, ◌-◌, Bool, ◌==◌, nat_le, ◌&&◌, ◌||◌, if◌then◌else◌}

abbrev pub is_between : ℕ → ℕ → ℕ → Bool
is_between low high b = nat_le low b && nat_le b high

-- space, tab, line feed and carriage return
unfoldable pub is_white : ℕ → Bool
is_white b = b == 32 || b == 9 || b == 10 || b == 13

-- a letter from a to z
abbrev pub is_letter : ℕ → Bool
is_letter b = is_between 97 122 b

abbrev pub is_digit : ℕ → Bool
is_digit b = is_between 48 57 b

-- a byte of a word after its first letter: a letter, a digit, `_` or `.`
unfoldable pub is_name_byte : ℕ → Bool
is_name_byte b = is_letter b || is_digit b || b == 95 || b == 46

-- one of `+ - * =`, which are words
unfoldable pub is_sign : ℕ → Bool
is_sign b = b == 43 || b == 45 || b == 42 || b == 61

-- a byte of a run, the longest stretch that is read as a number or a word: the above and `<`
unfoldable pub is_run : ℕ → Bool
is_run b = is_name_byte b || is_sign b || b == 60

-- a byte that stands for itself in a string: printable, no quote and no backslash
unfoldable pub is_plain : ℕ → Bool
is_plain b = is_between 32 33 b || is_between 35 91 b || is_between 93 126 b

-- a hexadecimal digit in lower case
unfoldable pub is_hex : ℕ → Bool
is_hex b = is_digit b || is_between 97 102 b

-- the number that a hexadecimal digit stands for
unfoldable pub hex_value : ℕ → ℕ
hex_value b = if nat_le b 57 then b - 48 else b - 87
