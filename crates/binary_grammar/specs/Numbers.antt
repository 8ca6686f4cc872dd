-- How numbers are spelled (Core Specification, 5.2.2, LEB128).
use Rattle.std.specs.Prelude.{◌≡◌, ℕ, suc, ◌+◌, ◌-◌, ◌*◌, ◌%◌, ◌^◌, ◌<◌, ◌≤◌, nat_lt, if◌then◌else◌, List, [], ◌∷◌, ◌++◌, length, Result, Ok, Err, ℤ, pos, negsuc, FitsSigned}
use Rattle.std.specs.Int.{Width, w32, w64}
use Rattle.binary_grammar.specs.declared.fault.LebFault.{LebFault}
use Rattle.binary_grammar.specs.declared.fault.LebFault.TheVariants.{End, Number}

-- The bytes of one number: all but the last are 128 or more.
abbrev pub AreDigits : List ℕ → Type 0
AreDigits [] = ⊥
AreDigits (b ∷ []) = b < 128
AreDigits (b ∷ c ∷ bs) = (128 ≤ b) × AreDigits (c ∷ bs)

-- The number whose digits to the base 128 are the low seven bits of the bytes, lowest first.
abbrev pub base_128 : List ℕ → ℕ
base_128 [] = 0
base_128 (b ∷ bs) = b % 128 + 128 * base_128 bs

-- A number of so many bits, read as a two's complement number.
abbrev pub twos_complement : ℕ → ℕ → ℤ
twos_complement bits v = if nat_lt v (2 ^ (bits - 1)) then pos v else negsuc (2 ^ bits - suc v)

-- A u32 is spelled by 1 to 5 bytes, with a value below 2 ^ 32.
abbrev pub SpellsU32 : List ℕ → ℕ → Type 0
SpellsU32 text n = AreDigits text × (length text ≤ 5) × (base_128 text ≡ n) × (n < 2 ^ 32)

-- A signed number of so many bytes at most is spelled by digits that are read as a two's complement number of 7 bits
-- a byte, with a value in the range of its width.
abbrev pub SpellsSigned : Width → ℕ → List ℕ → ℤ → Type 0
SpellsSigned w most text z = AreDigits text × (length text ≤ most) × (twos_complement (7 * length text) (base_128 text) ≡ z) × FitsSigned w z

-- An s32 is spelled by at most 5 bytes.
abbrev pub SpellsS32 : List ℕ → ℤ → Type 0
SpellsS32 = SpellsSigned w32 5

-- An s64 is spelled by at most 10 bytes.
abbrev pub SpellsS64 : List ℕ → ℤ → Type 0
SpellsS64 = SpellsSigned w64 10

-- The bytes of a number that has not ended: each is 128 or more.
abbrev pub AreOpen : List ℕ → Type 0
AreOpen [] = Unit {0}
AreOpen (b ∷ bs) = (128 ≤ b) × AreOpen bs

-- The bytes end inside a spelling that is not too long, where so many bytes may be taken.
abbrev pub EndsInside : ℕ → List ℕ → Type 0
EndsInside most bytes = AreOpen bytes × (length bytes < most)

-- A front of the text that spells a value, and the place behind it; the text begins at a place.
abbrev pub IsFound : {A : Type 0} → (List ℕ → A → Type 0) → List ℕ → ℕ → A × ℕ → Type 0
IsFound Spells text from x = (front : List ℕ) × (rest : List ℕ) × (text ≡ front ++ rest) × Spells front x.0 × (x.1 ≡ from + length front)

-- No front of the text spells a value.
abbrev pub NoneFound : {A : Type 0} → (List ℕ → A → Type 0) → List ℕ → Type 0
NoneFound {A} Spells text = (front rest : List ℕ) (x : A) → text ≡ front ++ rest → Spells front x → ⊥

-- What a number reader answers, of a text that begins at a place: a value that a front spells, and the place behind it;
-- the end, exactly where the text ends inside a spelling that is not too long; or else that this is no number.
abbrev pub ReadsNumber : {A : Type 0} → (List ℕ → A → Type 0) → ℕ → List ℕ → ℕ → Result (A × ℕ) LebFault → Type 0
ReadsNumber Spells most text from (Ok x) = IsFound Spells text from x
ReadsNumber Spells most text from (Err End) = EndsInside most text
ReadsNumber Spells most text from (Err Number) = NoneFound Spells text × (EndsInside most text → ⊥)
