-- Readings as lists of items: which kind of item is wanted next is fixed by the items before it.
use Rattle.std.specs.Prelude.{◌≡◌, ℕ, ◌+◌, ◌-◌, nat_lt, ◌==◌, if◌then◌else◌, Bool, true, false, List, [], ◌∷◌, Option, Some, None, Result, Ok, Err}
use Rattle.wasm_values.specs.declared.number.ValType.{ValType}
use Rattle.wasm_syntax.specs.declared.kind.Opcode.{Opcode}
use Rattle.wasm_syntax.specs.declared.kind.Opcode.TheVariants as op
use Rattle.wasm_syntax.specs.declared.kind.Kind.{Kind}
use Rattle.wasm_syntax.specs.declared.kind.Kind.TheVariants as kind
use Rattle.wasm_syntax.specs.Opcodes.{kind_of}
use Rattle.binary_grammar.specs.declared.fault.DecodeFault.{DecodeFault}
use Rattle.binary_grammar.specs.declared.fault.DecodeFault.TheVariants.{Malformed, Limit}
use Rattle.binary_grammar.specs.declared.fault.DecodeWord.TheVariants as word
use Rattle.wasm_values.specs.declared.limit.LimitWord.{LimitWord}
use Rattle.wasm_values.specs.declared.limit.LimitWord.TheVariants as limit
use Rattle.binary_grammar.specs.words.Reading.{◌>>=◌, Reader, place, number_at, of_byte, run_at, text_at, region_at, ended}
use Rattle.binary_grammar.specs.words.TypeReading.{value_type_at, tag_at, flag_at, block_type_at}
use Rattle.binary_grammar.specs.words.CodeReading.{word32_at, word64_at}
use Rattle.binary_grammar.specs.words.SectionReading.{id_at, header_at}

-- The kinds of items. A kind also has what decides whether an item of it is accepted: a limit, the last section's id, the
-- count that is wanted, whether an `else` may come, whether no further block may be opened. `Here` has no bytes: it only
-- gives the place of what comes next.
pub data Wanted : Type 0 where
  Header : Wanted
  Next : ℕ → Wanted
  FileEnd : ℕ → ℕ → Wanted
  Size : Wanted
  RegionEnd : Wanted
  Number : Wanted
  Few : ℕ → LimitWord → Wanted
  Count : ℕ → Wanted
  RunCount : ℕ → ℕ → Wanted
  Word32 : Wanted
  Word64 : Wanted
  Utf8 : ℕ → Wanted
  Bytes : ℕ → Wanted
  Rest : Wanted
  ValueType : Wanted
  BlockType : Wanted
  Tag : ℕ → Wanted
  Flag : Wanted
  KindByte : Wanted
  Op : Bool → Bool → Wanted
  Here : Wanted

-- What an item of a kind gives.
abbrev pub Given : Wanted → Type 0
Given Header = Unit {0}
Given (Next last) = Option ℕ
Given (FileEnd declared bodies) = Unit {0}
Given Size = Unit {0}
Given RegionEnd = Unit {0}
Given Number = ℕ
Given (Few most w) = ℕ
Given (Count declared) = ℕ
Given (RunCount most sum) = ℕ
Given Word32 = ℕ
Given Word64 = ℕ
Given (Utf8 n) = List ℕ
Given (Bytes n) = List ℕ
Given Rest = List ℕ
Given ValueType = ValType
Given BlockType = Option ValType
Given (Tag b) = ℕ
Given Flag = Bool
Given KindByte = ℕ
Given (Op turn full) = Opcode
Given Here = ℕ

-- What is left to read: the place where the innermost region ends, its bytes that are left, and the places and bytes of
-- the regions around it behind it.
pub record Left : Type 0 where
  pub end : ℕ
  pub bytes : List ℕ
  pub outer : List (ℕ × List ℕ)

-- An item that is read in its region alone.
abbrev pub local : {A : Type 0} → Reader A → Left → Result (A × Left) DecodeFault
local r left = r left.end left.bytes >>= λ x. Ok (x.0, record left { bytes = x.1 })

-- A number that is at most so many; a greater one passes the limit.
unfoldable pub few_at : ℕ → LimitWord → Reader ℕ
few_at most w end bytes = number_at end bytes >>= λ n. if nat_lt most n.0 then Err (Limit (place end bytes) w) else Ok n

-- A number that must be this one.
unfoldable pub count_at : ℕ → Reader ℕ
count_at declared end bytes = number_at end bytes >>= λ n. if n.0 == declared then Ok n else Err (Malformed (place end bytes) word.Count)

-- How many locals a run has; with those before it they are at most so many.
unfoldable pub run_count_at : ℕ → ℕ → Reader ℕ
run_count_at most sum end bytes = number_at end bytes >>= λ n. if nat_lt most (sum + n.0) then Err (Limit (place end bytes) limit.Locals) else Ok n

-- All bytes that are left of a region.
abbrev pub rest_of_region : Reader (List ℕ)
rest_of_region end bytes = Ok (bytes, [])

-- The byte of the kind of an import or export, which stands at a place: 0 to 3.
abbrev pub kind_byte_of : ℕ → ℕ → Result ℕ DecodeFault
kind_byte_of at b = if nat_lt b 4 then Ok b else Err (Malformed at word.Byte)

-- An opcode that begins a block, unless no block may.
abbrev pub opening : Bool → ℕ → Opcode → Result Opcode DecodeFault
opening true at o = Err (Limit at limit.Nesting)
opening false at o = Ok o

-- The opcode of `else`, where it may come.
abbrev pub turning : Bool → ℕ → Result Opcode DecodeFault
turning true at = Ok op.Else
turning false at = Err (Malformed at word.Byte)

-- An opcode where it stands.
unfoldable pub opcode_of : Bool → Bool → ℕ → Opcode → Result Opcode DecodeFault
opcode_of turn full at op.Block = opening full at op.Block
opcode_of turn full at op.Loop = opening full at op.Loop
opcode_of turn full at op.If = opening full at op.If
opcode_of turn full at op.Else = turning turn at
opcode_of turn full at o = Ok o

-- The opcode that a byte means, where it stands. A byte of floating-point instructions is a fault, and so is one of none.
unfoldable pub kind_accepted : Bool → Bool → ℕ → Kind → Result Opcode DecodeFault
kind_accepted turn full at (kind.Op o) = opcode_of turn full at o
kind_accepted turn full at kind.Float = Err (Malformed at word.Float)
kind_accepted turn full at kind.Unused = Err (Malformed at word.Byte)

-- The id of the next section, or none at the end of the bytes.
abbrev pub next_of : ℕ → ℕ → List ℕ → Result (Option ℕ × List ℕ) DecodeFault
next_of last end [] = Ok (None, [])
next_of last end (b ∷ bs) = id_at last end (b ∷ bs) >>= λ x. Ok (Some x.0, x.1)

-- The region around the innermost one, behind it.
abbrev pub left_by : Left → List (ℕ × List ℕ) → Left
left_by left [] = left
left_by left (o ∷ os) = record { end = o.0; bytes = o.1; outer = os }

-- An item that is accepted, or its fault.
unfoldable pub accept : (k : Wanted) → Left → Result (Given k × Left) DecodeFault
accept Header left = header_at left.end left.bytes >>= λ rest. Ok (tt {0}, record left { bytes = rest })
accept (Next last) left = local (next_of last) left
accept (FileEnd declared bodies) left = if bodies == declared then Ok (tt {0}, left) else Err (Malformed left.end word.Count)
accept Size left = region_at left.end left.bytes >>= λ region. Ok (tt {0}, record { end = region.1; bytes = region.0; outer = (left.end, region.2) ∷ left.outer })
accept RegionEnd left = ended left left.end left.bytes >>= λ whole. Ok (tt {0}, left_by left left.outer)
accept Number left = local number_at left
accept (Few most w) left = local (few_at most w) left
accept (Count declared) left = local (count_at declared) left
accept (RunCount most sum) left = local (run_count_at most sum) left
accept Word32 left = local word32_at left
accept Word64 left = local word64_at left
accept (Utf8 n) left = local (text_at n) left
accept (Bytes n) left = local (run_at n) left
accept Rest left = local rest_of_region left
accept ValueType left = local value_type_at left
accept BlockType left = local block_type_at left
accept (Tag b) left = local (tag_at b) left
accept Flag left = local flag_at left
accept KindByte left = local (of_byte kind_byte_of) left
accept (Op turn full) left = local (of_byte (λ at b. kind_accepted turn full at (kind_of b))) left
accept Here left = Ok (place left.end left.bytes, left)

-- What is wanted next, and what is wanted behind it, by what it gives.
pub data Plan (A : Type 0) : Type 0 where
  Complete : A → Plan A
  Want : (k : Wanted) → (Given k → Plan A) → Plan A

-- One plan, and then another.
abbrev pub andThen : {A B : Type 0} → Plan A → (A → Plan B) → Plan B
andThen (Complete x) g = g x
andThen (Want k f) g = Want k (λ x. andThen (f x) g)

-- An item of a reading: its kind, the place of its first byte, and how many bytes it has.
pub record Item : Type 0 where
  pub kind : Wanted
  pub start : ℕ
  pub len : ℕ

-- the place of the first byte that is left
abbrev pub place_of : Left → ℕ
place_of left = place left.end left.bytes

-- From a plan, with these bytes left, items are read one after another, each of the kind that is wanted and accepted; then
-- a plan and bytes are left.
abbrev pub Reads : {A : Type 0} → Plan A → Left → List Item → Plan A → Left → Type 0
Reads p left [] q after = (p ≡ q) × (left ≡ after)
Reads (Complete x) left (i ∷ is) q after = ⊥
Reads (Want k f) left (i ∷ is) q after =
    (i.kind ≡ k) × (i.start ≡ place_of left) × (x : Given k × Left) × (accept k left ≡ Ok x) × (i.len ≡ place_of x.1 - place_of left) × Reads (f x.0) x.1 is q after

-- A complete reading gives a value.
abbrev pub ReadsTo : {A : Type 0} → Plan A → Left → A → Type 0
ReadsTo p left x = (items : List Item) × (after : Left) × Reads p left items (Complete x) after

-- The fault of the item that is wanted next behind the longest reading: it is not accepted.
abbrev pub StopsAt : {A : Type 0} → Plan A → Left → DecodeFault → Type 0
StopsAt {A} p left f =
    (items : List Item) × (after : Left) × (k : Wanted) × (more : (Given k → Plan A)) × Reads p left items (Want k more) after × (accept k after ≡ Err f)
