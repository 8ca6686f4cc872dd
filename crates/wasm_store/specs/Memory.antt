-- Instructions of memory (Core Specification, section 4.4.4).
use Rattle.std.specs.Prelude.{◌≡◌, ℕ, ◌+◌, ◌*◌, ◌/◌, Bool, true, false, ◌&&◌, nat_le, if◌then◌else◌, List, ◌∷◌, ◌++◌, Option, Some, length, take, drop, slice_get, slice_set, replicate, IsTrue}
use Rattle.wasm_values.specs.declared.number.Val.{Val}
use Rattle.wasm_values.specs.declared.number.Val.TheVariants as val
use Rattle.wasm_values.specs.declared.number.ValType.TheVariants.{I32}
use Rattle.wasm_values.specs.Operators.{value_of, width_of, sign_extended, number_of_bytes, bytes_of_number}
use Rattle.wasm_values.specs.Types.{is_at_most}
use Rattle.wasm_syntax.specs.declared.instr.LoadOp.{LoadOp}
use Rattle.wasm_syntax.specs.declared.instr.LoadOp.TheVariants as load
use Rattle.wasm_syntax.specs.declared.instr.StoreOp.{StoreOp}
use Rattle.wasm_syntax.specs.Accesses.{bytes_loaded, bytes_stored, loaded_type, stored_type}
use Rattle.wasm_store.specs.declared.store.MemInst.{MemInst}
use Rattle.wasm_store.specs.declared.store.Store.{Store}
use Rattle.wasm_store.specs.Configuration.{Activation, Layer, Configuration, going, trapped, with_operands, pushed, instance_of, address_in}

-- ---- what loads give

-- Whether a load extends what it reads by its sign (section 2.4.4).
abbrev pub is_signed_load : LoadOp → Bool
is_signed_load load.I32Load8S = true
is_signed_load load.I32Load16S = true
is_signed_load load.I64Load8S = true
is_signed_load load.I64Load16S = true
is_signed_load load.I64Load32S = true
is_signed_load _ = false

-- The value that a load gives for the bytes that it reads: their number, extended by its sign or by zeros (section 4.4.4).
abbrev pub value_loaded : LoadOp → List ℕ → Val
value_loaded op bytes =
    value_of (loaded_type op)
    (if is_signed_load op then sign_extended (8 * bytes_loaded op) (width_of (loaded_type op)) (number_of_bytes bytes) else number_of_bytes bytes)

-- ---- memories

-- So many items of a list from a place on.
abbrev pub items_at : {A : Type 0} → List A → (at count : ℕ) → List A
items_at items at count = take count (drop at items)

-- A list with other items in it from a place on.
abbrev pub overwritten : {A : Type 0} → List A → (at : ℕ) → List A → List A
overwritten items at others = take at items ++ others ++ drop (at + length others) items

-- An access of so many bytes at an address lies in the memory. Addresses are whole numbers that do not wrap (section 4.4.4).
abbrev pub is_within : List ℕ → (at width : ℕ) → Bool
is_within bytes at width = nat_le (at + width) (length bytes)

-- How many pages a memory has, of 65,536 bytes each (section 4.2.8).
abbrev pub pages_of : MemInst → ℕ
pages_of m = length m.bytes / 65536

-- The address of the memory of the frame's instance.
abbrev pub memory_address : Store → Activation → Option ℕ
memory_address s f = address_in (λ i. i.memories) (instance_of s f) 0

-- The store with other bytes in a memory.
abbrev pub with_bytes : Store → ℕ → MemInst → List ℕ → Store
with_bytes s m mem bytes = record s { memories = slice_set s.memories m (record mem { bytes = bytes }) }

-- ---- instructions

-- What a load at an address leaves: a trap where it passes the memory's end.
abbrev pub loaded : Store → Activation → List Layer → List Val → MemInst → LoadOp → (at : ℕ) → Configuration
loaded s f below operands mem op at =
    if is_within mem.bytes at (bytes_loaded op)
    then going s (with_operands f (value_loaded op (items_at mem.bytes at (bytes_loaded op)) ∷ operands)) below
    else trapped s

-- A load, at the operand plus the offset (section 4.4.4).
abbrev pub LoadStep : Store → Activation → List Layer → Configuration → LoadOp → (offset : ℕ) → Type 0
LoadStep s f below d op offset =
    (m : ℕ) × (mem : MemInst) × (base : ℕ) × (operands : List Val) × (memory_address s f ≡ Some m) × (slice_get s.memories m ≡ Some mem)
    × (f.operands ≡ val.I32 base ∷ operands) × (d ≡ loaded s f below operands mem op (base + offset))

-- What a store of a number at an address leaves: its lowest bytes, that of least worth first, or a trap where they pass the
-- memory's end.
abbrev pub stored : Store → Activation → List Layer → List Val → (m : ℕ) → MemInst → StoreOp → (at value : ℕ) → Configuration
stored s f below operands m mem op at value =
    if is_within mem.bytes at (bytes_stored op)
    then going (with_bytes s m mem (overwritten mem.bytes at (bytes_of_number (bytes_stored op) value))) (with_operands f operands) below
    else trapped s

-- A store, at the second operand plus the offset (section 4.4.4).
abbrev pub StoreStep : Store → Activation → List Layer → Configuration → StoreOp → (offset : ℕ) → Type 0
StoreStep s f below d op offset =
    (m : ℕ) × (mem : MemInst) × (base value : ℕ) × (operands : List Val) × (memory_address s f ≡ Some m) × (slice_get s.memories m ≡ Some mem)
    × (f.operands ≡ value_of (stored_type op) value ∷ val.I32 base ∷ operands)
    × (d ≡ stored s f below operands m mem op (base + offset) value)

-- `memory.size` (section 4.4.4).
abbrev pub SizeStep : Store → Activation → List Layer → Configuration → Type 0
SizeStep s f below d =
    (m : ℕ) × (mem : MemInst) × (memory_address s f ≡ Some m) × (slice_get s.memories m ≡ Some mem)
    × (d ≡ going s (pushed f (val.I32 (pages_of mem))) below)

-- A memory can grow by so many pages: there are then at most 65,536, and at most its maximum (section 4.5.3.7).
abbrev pub can_grow : MemInst → (pages : ℕ) → Bool
can_grow mem pages = nat_le (pages_of mem + pages) 65536 && is_at_most (pages_of mem + pages) mem.max

-- The bytes of a memory after it has grown by pages of zeros (section 4.5.3.7).
abbrev pub grown_bytes : MemInst → (pages : ℕ) → List ℕ
grown_bytes mem pages = mem.bytes ++ replicate (65536 * pages) 0

-- What `memory.grow` leaves where it succeeds and where it fails: the old number of pages in a grown memory, or -1 and
-- nothing changed.
abbrev pub grown : (grows : Bool) → Store → Activation → List Layer → List Val → (m : ℕ) → MemInst → (pages : ℕ) → Configuration
grown true s f below operands m mem pages =
    going (with_bytes s m mem (grown_bytes mem pages)) (with_operands f (val.I32 (pages_of mem) ∷ operands)) below
grown false s f below operands m mem pages = going s (with_operands f (val.I32 4294967295 ∷ operands)) below

-- `memory.grow`, which succeeds or fails as `grows` says. It succeeds only where the memory can grow so, and it may always
-- fail: the standard leaves the choice free (section 4.4.4).
abbrev pub GrowStep : (grows : Bool) → Store → Activation → List Layer → Configuration → Type 0
GrowStep grows s f below d =
    (m : ℕ) × (mem : MemInst) × (pages : ℕ) × (operands : List Val) × (memory_address s f ≡ Some m) × (slice_get s.memories m ≡ Some mem)
    × (f.operands ≡ val.I32 pages ∷ operands) × (IsTrue grows → IsTrue (can_grow mem pages))
    × (d ≡ grown grows s f below operands m mem pages)
