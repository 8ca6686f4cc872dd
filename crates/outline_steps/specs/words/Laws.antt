-- Instructions keep meaning, over plain values: where a state meets what is held, and the state after an instruction is t, t
-- meets what is held after the instruction's effect, under numbers that extend those before, beside the same pieces.
use Rattle.std.specs.Prelude.{◌≡◌, ℕ, ◌+◌, ◌*◌, ◌<◌, ◌≤◌, ◌^◌, ◌==◌, if◌then◌else◌, false, true, ℤ, List, ◌∷◌, ◌++◌, length, replicate, Option, Some, None, slice_get, slice_set, Ok, MatchOption, All}
use Rattle.wasm_values.specs.declared.number.NumOp.{NumOp}
use Rattle.wasm_values.specs.declared.number.Val.{Val}
use Rattle.wasm_values.specs.declared.number.Val.TheVariants.{I32}
use Rattle.wasm_values.specs.Operators.{type_of, value_of, num_width, num_operands, num_unary, num_binary, operand_type, result_type, bytes_of_number}
use Rattle.wasm_syntax.specs.declared.instr.LoadOp.{LoadOp}
use Rattle.wasm_syntax.specs.declared.instr.StoreOp.{StoreOp}
use Rattle.wasm_syntax.specs.Accesses.{bytes_loaded, bytes_stored, loaded_type, stored_type}
use Rattle.wasm_typing.specs.Valid.{ValInRange}
use Rattle.wasm_store.specs.Memory.{value_loaded, items_at, overwritten}
use Rattle.notes.specs.declared.uses.Use.{Use}
use Rattle.outline_rules.specs.Settings.{Setting, global_type, is_memory_private}
use Rattle.outline_rules.specs.States.{State, popped}
use Rattle.outline_rules.specs.Instructions.{nop, drop, const, select, local_get, local_set, local_tee, global_get, global_set, numeric}
use Rattle.outline_rules.specs.Memory.{load, store, memory_size, memory_grow}
use Rattle.outline_rules.specs.Meets.{Held}
use Rattle.outline_meaning.specs.Pieces.{Piece}
use Rattle.outline_meaning.specs.Beside.{MeetsBeside, MeetsBesideLater}
use Rattle.outline_steps.specs.words.Known.{with_operands, with_locals, with_globals, with_memory, GlobalIsSet, TrapIsAllowed}

-- `nop` changes nothing.
abbrev pub NopKeeps : Type 0
NopKeeps = (c : Setting) (s t : State) (h : Held) (n : List ℤ) (others : List Piece) (u : Use) → MeetsBeside c s h n others → nop u s ≡ Ok t → MeetsBesideLater c t h n others

-- `drop` takes the topmost operand.
abbrev pub DropKeeps : Type 0
DropKeeps =
    (c : Setting) (s t : State) (h : Held) (n : List ℤ) (others : List Piece) (u : Use) (v : Val) (vs : List Val)
    → MeetsBeside c s h n others → h.operands ≡ v ∷ vs → drop u s ≡ Ok t → MeetsBesideLater c t (with_operands h vs) n others

-- A constant is pushed.
abbrev pub ConstKeeps : Type 0
ConstKeeps =
    (c : Setting) (s t : State) (h : Held) (n : List ℤ) (others : List Piece) (u : Use) (v : Val)
    → MeetsBeside c s h n others → const v u s ≡ Ok t → MeetsBesideLater c t (with_operands h (v ∷ h.operands)) n others

-- `select` pushes the second operand where the third is 0, and else the first. They have one type.
abbrev pub SelectKeeps : Type 0
SelectKeeps =
    (c : Setting) (s t : State) (h : Held) (n : List ℤ) (others : List Piece) (u : Use) (k : ℕ) (first second : Val) (vs : List Val)
    → MeetsBeside c s h n others → h.operands ≡ I32 k ∷ second ∷ first ∷ vs → type_of second ≡ type_of first → ValInRange first → ValInRange second
    → select u s ≡ Ok t → MeetsBesideLater c t (with_operands h ((if k == 0 then second else first) ∷ vs)) n others

-- `local.get` pushes the local.
abbrev pub LocalGetKeeps : Type 0
LocalGetKeeps =
    (c : Setting) (s t : State) (h : Held) (n : List ℤ) (others : List Piece) (u : Use) (x : ℕ) (v : Val)
    → MeetsBeside c s h n others → slice_get h.locals x ≡ Some v → local_get x u s ≡ Ok t → MeetsBesideLater c t (with_operands h (v ∷ h.operands)) n others

-- `local.set` takes the topmost operand, which has the local's type.
abbrev pub LocalSetKeeps : Type 0
LocalSetKeeps =
    (c : Setting) (s t : State) (h : Held) (n : List ℤ) (others : List Piece) (u : Use) (x : ℕ) (v w : Val) (vs : List Val)
    → MeetsBeside c s h n others → h.operands ≡ v ∷ vs → slice_get h.locals x ≡ Some w → type_of v ≡ type_of w → local_set x u s ≡ Ok t
    → MeetsBesideLater c t (with_locals (with_operands h vs) (slice_set h.locals x v)) n others

-- `local.tee` leaves it.
abbrev pub LocalTeeKeeps : Type 0
LocalTeeKeeps =
    (c : Setting) (s t : State) (h : Held) (n : List ℤ) (others : List Piece) (u : Use) (x : ℕ) (v w : Val) (vs : List Val)
    → MeetsBeside c s h n others → h.operands ≡ v ∷ vs → slice_get h.locals x ≡ Some w → type_of v ≡ type_of w → local_tee x u s ≡ Ok t
    → MeetsBesideLater c t (with_locals h (slice_set h.locals x v)) n others

-- `global.get` pushes the global's value, of a stable global and of an unstable one.
abbrev pub GlobalGetKeeps : Type 0
GlobalGetKeeps =
    (c : Setting) (s t : State) (h : Held) (n : List ℤ) (others : List Piece) (u : Use) (x : ℕ) (v : Val)
    → MeetsBeside c s h n others → h.globals x ≡ Some v → type_of v ≡ global_type c x → ValInRange v → global_get c x u s ≡ Ok t
    → MeetsBesideLater c t (with_operands h (v ∷ h.operands)) n others

-- `global.set` takes the topmost operand, which has the global's type, of a stable global and of an unstable one.
abbrev pub GlobalSetKeeps : Type 0
GlobalSetKeeps =
    (c : Setting) (s t : State) (h : Held) (n : List ℤ) (others : List Piece) (u : Use) (x : ℕ) (v : Val) (vs : List Val) (after : ℕ → Option Val)
    → MeetsBeside c s h n others → h.operands ≡ v ∷ vs → type_of v ≡ global_type c x → GlobalIsSet s h.globals after x v → global_set x u s ≡ Ok t
    → MeetsBesideLater c t (with_globals (with_operands h vs) after) n others

-- A numeric operator of one operand pushes what the standard gives.
abbrev pub NumericOneKeeps : Type 0
NumericOneKeeps =
    (c : Setting) (s t : State) (h : Held) (n : List ℤ) (others : List Piece) (u : Use) (op : NumOp) (a : ℕ) (vs : List Val)
    → MeetsBeside c s h n others → h.operands ≡ value_of (operand_type op) a ∷ vs → a < 2 ^ num_width op → (num_operands op == 1) ≡ true
    → numeric c op u s ≡ Ok t → MeetsBesideLater c t (with_operands h (value_of (result_type op) (num_unary op a) ∷ vs)) n others

-- A numeric operator of two operands pushes what the standard gives. Where the standard leaves it undefined, the outline
-- demands what a trap demands.
abbrev pub NumericTwoKeeps : Type 0
NumericTwoKeeps =
    (c : Setting) (s t : State) (h : Held) (n : List ℤ) (others : List Piece) (u : Use) (op : NumOp) (a b : ℕ) (vs : List Val)
    → MeetsBeside c s h n others → h.operands ≡ value_of (operand_type op) b ∷ value_of (operand_type op) a ∷ vs → a < 2 ^ num_width op → b < 2 ^ num_width op
    → (num_operands op == 1) ≡ false → numeric c op u s ≡ Ok t
    → MatchOption (num_binary op a b) (TrapIsAllowed c u (popped 2 s)) (λ r. MeetsBesideLater c t (with_operands h (value_of (result_type op) r ∷ vs)) n others)

-- ---- memory

-- A load from the private memory lies within it, and pushes what the machine reads.
abbrev pub LoadKeeps : Type 0
LoadKeeps =
    (c : Setting) (s t : State) (h : Held) (n : List ℤ) (others : List Piece) (u : Use) (op : LoadOp) (base offset : ℕ) (vs : List Val) (bytes : List ℕ)
    → MeetsBeside c s h n others → h.memory ≡ Some bytes → All (λ b. b < 256) bytes → h.operands ≡ I32 base ∷ vs
    → is_memory_private c ≡ true → load c op offset u s ≡ Ok t
    → (base + offset + bytes_loaded op ≤ length bytes)
    × MeetsBesideLater c t (with_operands h (value_loaded op (items_at bytes (base + offset) (bytes_loaded op)) ∷ vs)) n others

-- A load from another memory may trap, and pushes some value of its type.
abbrev pub OtherLoadKeeps : Type 0
OtherLoadKeeps =
    (c : Setting) (s t : State) (h : Held) (n : List ℤ) (others : List Piece) (u : Use) (op : LoadOp) (offset : ℕ) (v r : Val) (vs : List Val)
    → MeetsBeside c s h n others → h.operands ≡ v ∷ vs → type_of r ≡ loaded_type op → ValInRange r
    → is_memory_private c ≡ false → load c op offset u s ≡ Ok t
    → TrapIsAllowed c u (popped 1 s) × MeetsBesideLater c t (with_operands h (r ∷ vs)) n others

-- A store in the private memory lies within it, and writes what the machine writes.
abbrev pub StoreKeeps : Type 0
StoreKeeps =
    (c : Setting) (s t : State) (h : Held) (n : List ℤ) (others : List Piece) (u : Use) (op : StoreOp) (base value offset : ℕ) (vs : List Val) (bytes : List ℕ)
    → MeetsBeside c s h n others → h.memory ≡ Some bytes → h.operands ≡ value_of (stored_type op) value ∷ I32 base ∷ vs
    → ValInRange (value_of (stored_type op) value) → is_memory_private c ≡ true → store c op offset u s ≡ Ok t
    → (base + offset + bytes_stored op ≤ length bytes)
    × MeetsBesideLater c t (with_memory (with_operands h vs) (Some (overwritten bytes (base + offset) (bytes_of_number (bytes_stored op) value)))) n others

-- A store in another memory may trap, and a state that owns no memory meets whatever is held there then.
abbrev pub OtherStoreKeeps : Type 0
OtherStoreKeeps =
    (c : Setting) (s t : State) (h : Held) (n : List ℤ) (others : List Piece) (u : Use) (op : StoreOp) (offset : ℕ) (v w : Val) (vs : List Val) (memory : Option (List ℕ))
    → MeetsBeside c s h n others → s.pages ≡ None → h.operands ≡ v ∷ w ∷ vs → is_memory_private c ≡ false → store c op offset u s ≡ Ok t
    → TrapIsAllowed c u (popped 2 s) × MeetsBesideLater c t (with_memory (with_operands h vs) memory) n others

-- `memory.size` pushes the number of pages, of a private memory and of another.
abbrev pub SizeKeeps : Type 0
SizeKeeps =
    (c : Setting) (s t : State) (h : Held) (n : List ℤ) (others : List Piece) (u : Use) (bytes : List ℕ) (p : ℕ)
    → MeetsBeside c s h n others → h.memory ≡ Some bytes → length bytes ≡ 65536 * p → p ≤ 65536 → memory_size u s ≡ Ok t
    → MeetsBesideLater c t (with_operands h (I32 p ∷ h.operands)) n others

-- `memory.grow` that succeeds adds pages of zeros, and pushes the number of pages before.
abbrev pub GrowthKeeps : Type 0
GrowthKeeps =
    (c : Setting) (s t : State) (h : Held) (n : List ℤ) (others : List Piece) (u : Use) (bytes : List ℕ) (p k : ℕ) (vs : List Val)
    → MeetsBeside c s h n others → h.memory ≡ Some bytes → length bytes ≡ 65536 * p → p + k ≤ 65536 → h.operands ≡ I32 k ∷ vs → memory_grow u s ≡ Ok t
    → MeetsBesideLater c t (with_memory (with_operands h (I32 p ∷ vs)) (Some (bytes ++ replicate (65536 * k) 0))) n others

-- `memory.grow` that fails changes nothing, and pushes -1.
abbrev pub FailedGrowthKeeps : Type 0
FailedGrowthKeeps =
    (c : Setting) (s t : State) (h : Held) (n : List ℤ) (others : List Piece) (u : Use) (bytes : List ℕ) (p k : ℕ) (vs : List Val)
    → MeetsBeside c s h n others → h.memory ≡ Some bytes → length bytes ≡ 65536 * p → p ≤ 65536 → h.operands ≡ I32 k ∷ vs → memory_grow u s ≡ Ok t
    → MeetsBesideLater c t (with_operands h (I32 4294967295 ∷ vs)) n others
