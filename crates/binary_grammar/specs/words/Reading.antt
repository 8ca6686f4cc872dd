-- Reading from the front of the bytes that are left of a region, item by item, with the first fault that is met.
-- A reader takes the place where the region ends and the bytes that are left, and gives a value and what is left then.
use Rattle.std.specs.Prelude.{ℕ, zero, suc, ◌-◌, nat_lt, ◌==◌, if◌then◌else◌, List, [], ◌∷◌, length, take, drop, Option, Some, None, Result, Ok, Err}
use Rattle.binary_grammar.specs.declared.fault.LebFault.{LebFault}
use Rattle.binary_grammar.specs.declared.fault.LebFault.TheVariants as leb
use Rattle.binary_grammar.specs.declared.fault.DecodeFault.{DecodeFault}
use Rattle.binary_grammar.specs.declared.fault.DecodeFault.TheVariants.{Malformed, Limit, OutOfMemory}
use Rattle.binary_grammar.specs.declared.fault.DecodeWord.TheVariants.{End, Size, Number, Utf8}
use Rattle.wasm_values.specs.declared.limit.LimitWord.{LimitWord}
use Rattle.wasm_values.specs.Answers as answers
use Rattle.std.specs.Str.{is_utf8}
use Rattle.binary_grammar.specs.words.NumberReading.{u32_at}

-- What comes after a success; a fault stands.
infixl 10 ◌>>=◌
abbrev pub ◌>>=◌ : {A B : Type 0} → Result A DecodeFault → (A → Result B DecodeFault) → Result B DecodeFault
(Ok x) >>= f = f x
(Err e) >>= f = Err e

-- A fault that is no want of memory.
abbrev pub fault_of : DecodeFault → Option DecodeFault
fault_of OutOfMemory = None
fault_of (Malformed place word) = Some (Malformed place word)
fault_of (Limit place word) = Some (Limit place word)

-- A function failed as reading does, unless memory ran out.
abbrev pub Fails : {Y : Type 0} → DecodeFault → Result Y DecodeFault → Type 0
Fails fault read = answers.Fails fault_of fault read

-- What a function returned, seen by view, is what reading gives, unless memory ran out.
abbrev pub Gives : {X Y : Type 0} → (X → Y) → Result X DecodeFault → Result Y DecodeFault → Type 0
Gives view result read = answers.Gives fault_of view result read

-- How a value is read: from the place where a region ends and the bytes that are left, the value and what is left then, or
-- a fault.
abbrev pub Reader : Type 0 → Type 0
Reader A = ℕ → List ℕ → Result (A × List ℕ) DecodeFault

-- the place of the first byte that is left
abbrev pub place : ℕ → List ℕ → ℕ
place end bytes = end - length bytes

-- The fault of a number that begins at a place: at the end of the region where that cuts it off, and else at its own place.
abbrev pub number_fault_of : LebFault → ℕ → ℕ → DecodeFault
number_fault_of leb.End at end = Malformed end End
number_fault_of leb.Number at end = Malformed at Number

-- what was read of a number, or its fault, with the place
abbrev pub of_number : {A : Type 0} → ℕ → ℕ → Result (A × List ℕ) LebFault → Result (A × List ℕ) DecodeFault
of_number end at (Ok x) = Ok x
of_number end at (Err e) = Err (number_fault_of e at end)

-- One reader, and then another, which may depend on what the first gave.
unfoldable pub then_at : {A B : Type 0} → Reader A → (A → Reader B) → Reader B
then_at r s end bytes = r end bytes >>= λ x. s x.0 end x.1

-- Nothing more is read.
unfoldable pub done_at : {A : Type 0} → A → Reader A
done_at x end bytes = Ok (x, bytes)

-- A u32 (5.2.2).
unfoldable pub number_at : Reader ℕ
number_at end bytes = of_number end (place end bytes) (u32_at bytes)

-- A byte (5.2.1).
unfoldable pub byte_at : Reader ℕ
byte_at end [] = Err (Malformed end End)
byte_at end (b ∷ bs) = Ok (b, bs)

-- A value that one byte stands for, by the byte and its place.
unfoldable pub of_byte : {A : Type 0} → (ℕ → ℕ → Result A DecodeFault) → Reader A
of_byte f end bytes = do
  b ← byte_at end bytes
  t ← f (place end bytes) b.0
  Ok (t, b.1)

-- What follows a byte, by the byte and its place.
unfoldable pub tagged_at : {A : Type 0} → (ℕ → ℕ → Reader A) → Reader A
tagged_at f end bytes = do
  b ← byte_at end bytes
  f (place end bytes) b.0 end b.1

-- Entries one after another, with the place of each.
unfoldable pub entries_at : {A : Type 0} → Reader A → ℕ → Reader (List A × List ℕ)
entries_at r zero end bytes = Ok (([], []), bytes)
entries_at r (suc n) end bytes = do
  x ← r end bytes
  xs ← entries_at r n end x.1
  Ok ((x.0 ∷ xs.0.0, place end bytes ∷ xs.0.1), xs.1)

-- A count, and so many entries.
unfoldable pub vector_at : {A : Type 0} → Reader A → Reader (List A × List ℕ)
vector_at r = then_at number_at (entries_at r)

-- The same, where the count has a limit.
unfoldable pub limited_at : {A : Type 0} → Reader A → ℕ → LimitWord → Reader (List A × List ℕ)
limited_at r most word end bytes = do
  n ← number_at end bytes
  if nat_lt most n.0 then Err (Limit (place end bytes) word) else entries_at r n.0 end n.1

-- A vector whose places do not matter.
unfoldable pub list_at : {A : Type 0} → Reader A → Reader (List A)
list_at r = then_at (vector_at r) (λ x. done_at x.0)

-- So many bytes.
unfoldable pub run_at : ℕ → Reader (List ℕ)
run_at n end bytes = if nat_lt (length bytes) n then Err (Malformed end End) else Ok (take n bytes, drop n bytes)

-- A count, and so many bytes.
unfoldable pub bytes_at : Reader (List ℕ)
bytes_at = then_at number_at run_at

-- Bytes at a place that must be UTF-8.
abbrev pub text_of : List ℕ → ℕ → Result (List ℕ) DecodeFault
text_of bytes at = if is_utf8 bytes then Ok bytes else Err (Malformed at Utf8)

-- So many bytes in UTF-8.
unfoldable pub text_at : ℕ → Reader (List ℕ)
text_at n end bytes = do
  t ← run_at n end bytes
  name ← text_of t.0 (place end bytes)
  Ok (name, t.1)

-- A name: a length, and so many bytes in UTF-8 (5.2.4).
unfoldable pub name_at : Reader (List ℕ)
name_at = then_at number_at text_at

-- A part of the bytes that are left: its bytes, the place where it ends, and what follows it.
unfoldable pub region_at : ℕ → List ℕ → Result (List ℕ × ℕ × List ℕ) DecodeFault
region_at end bytes = do
  n ← number_at end bytes
  if nat_lt (length n.1) n.0 then Err (Malformed (place end bytes) Size) else Ok (take n.0 n.1, end - length (drop n.0 n.1), drop n.0 n.1)

-- Nothing may be left of a region, behind what was read.
abbrev pub ended : {A : Type 0} → A → ℕ → List ℕ → Result A DecodeFault
ended x end bytes = if length bytes == 0 then Ok x else Err (Malformed (place end bytes) Size)

-- A size, and a region of that size, to its end.
unfoldable pub sized_at : {A : Type 0} → Reader A → Reader A
sized_at r end bytes = do
  region ← region_at end bytes
  x ← r region.1 region.0
  whole ← ended x.0 region.1 x.1
  Ok (whole, region.2)
