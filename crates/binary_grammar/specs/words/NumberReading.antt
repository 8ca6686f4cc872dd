-- Reading a number from the front of a list, with the first fault that is met.
use Rattle.std.specs.Prelude.{◌≡◌, ℕ, zero, suc, ◌+◌, ◌-◌, ◌*◌, ◌%◌, ◌^◌, nat_lt, if◌then◌else◌, Bool, List, [], ◌∷◌, length, Result, Ok, Err, ℤ, pos, negsuc}
use Rattle.binary_grammar.specs.declared.fault.LebFault.{LebFault}
use Rattle.binary_grammar.specs.declared.fault.LebFault.TheVariants.{End, Number}
use Rattle.binary_grammar.specs.Numbers.{twos_complement}

-- What a function returned, seen by view, is what reading gives.
abbrev pub GivesNumber : {X Y : Type 0} → (X → Y) → Result X LebFault → Result Y LebFault → Type 0
GivesNumber view (Ok x) read = read ≡ Ok (view x)
GivesNumber view (Err e) read = read ≡ Err e

-- Digits with one more in front: their value, their number, and what follows; a fault stands.
abbrev pub further : ℕ → Result (ℕ × ℕ × List ℕ) LebFault → Result (ℕ × ℕ × List ℕ) LebFault
further b (Ok x) = Ok (b % 128 + 128 * x.0, x.1 + 1, x.2)
further b (Err e) = Err e

-- The value of the digits that stand in front, their number, and what follows; at most so many bytes may be taken.
unfoldable pub digits_at : ℕ → List ℕ → Result (ℕ × ℕ × List ℕ) LebFault
digits_at zero bytes = Err Number
digits_at (suc most) [] = Err End
digits_at (suc most) (b ∷ bs) = if nat_lt b 128 then Ok (b, 1, bs) else further b (digits_at most bs)

-- The value of digits and what follows, where the value is below 2 ^ 32.
abbrev pub small : ℕ × ℕ × List ℕ → Result (ℕ × List ℕ) LebFault
small x = if nat_lt x.0 (2 ^ 32) then Ok (x.0, x.2) else Err Number

-- the same of digits that were read; a fault stands
abbrev pub then_small : Result (ℕ × ℕ × List ℕ) LebFault → Result (ℕ × List ℕ) LebFault
then_small (Ok x) = small x
then_small (Err e) = Err e

-- A u32 and what follows it (5.2.2).
unfoldable pub u32_at : List ℕ → Result (ℕ × List ℕ) LebFault
u32_at bytes = then_small (digits_at 5 bytes)

-- Whether a signed number is within 2 ^ h of 0.
abbrev pub is_within : ℕ → ℤ → Bool
is_within h (pos n) = nat_lt n (2 ^ h)
is_within h (negsuc n) = nat_lt n (2 ^ h)

-- The two's complement number of digits and what follows, where it is at least -2 ^ h and below 2 ^ h.
abbrev pub signed : ℕ → ℕ × ℕ × List ℕ → Result (ℤ × List ℕ) LebFault
signed h x = let z = twos_complement (7 * x.1) x.0 in if is_within h z then Ok (z, x.2) else Err Number

-- the same of digits that were read; a fault stands
abbrev pub then_signed : ℕ → Result (ℕ × ℕ × List ℕ) LebFault → Result (ℤ × List ℕ) LebFault
then_signed h (Ok x) = signed h x
then_signed h (Err e) = Err e

-- An s32 and what follows it (5.2.2).
unfoldable pub s32_at : List ℕ → Result (ℤ × List ℕ) LebFault
s32_at bytes = then_signed 31 (digits_at 5 bytes)

-- An s64 and what follows it (5.2.2).
unfoldable pub s64_at : List ℕ → Result (ℤ × List ℕ) LebFault
s64_at bytes = then_signed 63 (digits_at 10 bytes)

-- The place behind what was read, of bytes before a place.
abbrev pub placed : {A : Type 0} → ℕ → Result (A × List ℕ) LebFault → Result (A × ℕ) LebFault
placed to (Ok x) = Ok (x.0, to - length x.1)
placed to (Err e) = Err e
