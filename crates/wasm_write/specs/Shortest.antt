-- The shortest spellings of numbers (Core Specification, 5.2.2, LEB128).
use Rattle.std.specs.Prelude.{ℕ, zero, suc, ◌+◌, ◌-◌, ◌/◌, ◌%◌, ◌^◌, nat_lt, if◌then◌else◌, Bool, true, false, List, [], ◌∷◌}

-- The lowest digit of a number to the base 128, or its complement.
abbrev pub low_digit : Bool → ℕ → ℕ
low_digit false n = n % 128
low_digit true n = 127 - n % 128

-- The digits of a number to the base 128, lowest first, or their complements: the last is where what is left is below a
-- bound, and 128 is added to each before it. At most so many digits stand before the last.
unfoldable pub digits : Bool → ℕ → ℕ → ℕ → List ℕ
digits negative bound zero n = low_digit negative n ∷ []
digits negative bound (suc more) n =
    if nat_lt n bound then low_digit negative n ∷ [] else (128 + low_digit negative n) ∷ digits negative bound more (n / 128)

-- A number: its digits (5.2.2).
unfoldable pub number_text : ℕ → List ℕ
number_text = digits false 128 9

-- A number of so many bits that is read as a two's complement number: the digits of one that is not negative, and of
-- a negative one z the complements of the digits of -z - 1, so that the highest of the last seven bits is the sign (5.2.2).
unfoldable pub signed_text : ℕ → ℕ → List ℕ
signed_text bits n = if nat_lt n (2 ^ (bits - 1)) then digits false 64 9 n else digits true 64 9 (2 ^ bits - suc n)
