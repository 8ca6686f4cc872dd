-- Which modules are valid (Core Specification, section 3.4), part by part.
use Rattle.std.specs.Prelude.{◌≡◌, ℕ, ◌<◌, ◌≤◌, ◌^◌, if◌then◌else◌, List, [], ◌∷◌, ◌++◌, length, map, reverse, slice_get, Option, Some, None, IfSome, All}
use Rattle.std.specs.List.{filter_map}
use Rattle.wasm_values.specs.declared.number.Val.{Val}
use Rattle.wasm_values.specs.declared.number.Val.TheVariants as val
use Rattle.wasm_values.specs.declared.number.ValType.{ValType}
use Rattle.wasm_values.specs.declared.number.ValType.TheVariants.{I32}
use Rattle.wasm_values.specs.Operators.{type_of}
use Rattle.wasm_syntax.specs.declared.instr.Instr.{Instr, Const, GlobalGet}
use Rattle.wasm_syntax.specs.declared.module.FuncType.{FuncType}
use Rattle.wasm_syntax.specs.declared.module.GlobalType.{GlobalType}
use Rattle.wasm_syntax.specs.declared.module.Limits.{Limits}
use Rattle.wasm_syntax.specs.declared.module.Import.{Import}
use Rattle.wasm_syntax.specs.declared.module.ImportKind.{ImportKind}
use Rattle.wasm_syntax.specs.declared.module.ImportKind.TheVariants as import
use Rattle.wasm_syntax.specs.declared.module.Export.{Export}
use Rattle.wasm_syntax.specs.declared.module.ExportKind.{ExportKind}
use Rattle.wasm_syntax.specs.declared.module.ExportKind.TheVariants as export
use Rattle.wasm_syntax.specs.declared.module.Global.{Global}
use Rattle.wasm_syntax.specs.declared.module.Func.{Func}
use Rattle.wasm_syntax.specs.declared.module.Elem.{Elem}
use Rattle.wasm_syntax.specs.declared.module.Segment.{Segment}
use Rattle.wasm_syntax.specs.declared.module.Custom.{Custom}
use Rattle.wasm_syntax.specs.declared.module.Module.{Module}
use Rattle.wasm_syntax.specs.Trees as tree
use Rattle.wasm_syntax.specs.Trees.{Instruction, Sequence, Empty, Then, IfElse, sequence_of}
use Rattle.wasm_typing.specs.Typing.{Context, BodyTyped}

-- ---- what entries name: imports first, then what the module defines (section 2.5.1)

-- the number of the type of an imported function
abbrev pub func_import : ImportKind → Option ℕ
func_import (import.Func t) = Some t
func_import _ = None

-- the type of an imported table
abbrev pub table_import : ImportKind → Option Limits
table_import (import.Table l) = Some l
table_import _ = None

-- the type of an imported memory
abbrev pub memory_import : ImportKind → Option Limits
memory_import (import.Memory l) = Some l
memory_import _ = None

-- the type of an imported global
abbrev pub global_import : ImportKind → Option GlobalType
global_import (import.Global g) = Some g
global_import _ = None

-- A type, or `[] -> []` where there is none.
abbrev pub type_or_none : Option FuncType → FuncType
type_or_none None = record { params = []; results = [] }
type_or_none (Some ty) = ty

-- The type with a number.
abbrev pub type_at : List FuncType → ℕ → FuncType
type_at types t = type_or_none (slice_get types t)

-- The numbers of the types of all functions.
abbrev pub func_types_of : Module → List ℕ
func_types_of m = filter_map (λ (i : Import). func_import i.kind) m.imports ++ map (λ (f : Func). f.ty) m.funcs

-- The types of all functions.
abbrev pub funcs_of : Module → List FuncType
funcs_of m = map (type_at m.types) (func_types_of m)

-- The types of all tables.
abbrev pub tables_of : Module → List Limits
tables_of m = filter_map (λ (i : Import). table_import i.kind) m.imports ++ m.tables

-- The types of all memories.
abbrev pub memories_of : Module → List Limits
memories_of m = filter_map (λ (i : Import). memory_import i.kind) m.imports ++ m.memories

-- The types of the imported globals.
abbrev pub imported_globals_of : Module → List GlobalType
imported_globals_of m = filter_map (λ (i : Import). global_import i.kind) m.imports

-- The types of all globals.
abbrev pub globals_of : Module → List GlobalType
globals_of m = imported_globals_of m ++ map (λ (g : Global). g.ty) m.globals

-- What the body of a function may name (section 3.4.1).
abbrev pub context_of : Module → Func → Context
context_of m f =
    record {
      types = m.types;
      funcs = funcs_of m;
      tables = tables_of m;
      memories = memories_of m;
      globals = globals_of m;
      locals = (type_at m.types f.ty).params ++ f.locals;
      results = reverse (type_at m.types f.ty).results;
    }

-- ---- one entry

-- A function type has at most one result (section 3.2.2).
abbrev pub TypeValid : FuncType → Type 0
TypeValid ty = length ty.results ≤ 1

-- A table's minimum is at most its maximum (section 3.2.3).
abbrev pub TableValid : Limits → Type 0
TableValid l = IfSome l.max (λ max. l.min ≤ max)

-- A memory's minimum is at most its maximum, and both are at most 65,536 pages (section 3.2.4).
abbrev pub MemoryValid : Limits → Type 0
MemoryValid l = (l.min ≤ 65536) × IfSome l.max (λ max. (l.min ≤ max) × (max ≤ 65536))

-- An imported function's type exists, and an imported table's or memory's limits are valid (section 3.4.9).
abbrev pub ImportValid : List FuncType → ImportKind → Type 0
ImportValid types (import.Func t) = t < length types
ImportValid types (import.Table l) = TableValid l
ImportValid types (import.Memory l) = MemoryValid l
ImportValid types (import.Global g) = Unit {0}

-- The type of an immutable global.
abbrev pub immutable_type : Option GlobalType → Option ValType
immutable_type None = None
immutable_type (Some g) = if g.mutable then None else Some g.value

-- The type of a constant expression: one constant, or one `global.get` of an immutable global among these. Of other
-- expressions there is none (section 3.3.7).
abbrev pub const_type : List GlobalType → List Instr → Option ValType
const_type globals (Const value ∷ []) = Some (type_of value)
const_type globals (GlobalGet x ∷ []) = immutable_type (slice_get globals x)
const_type globals _ = None

-- A global's expression is constant, of its type, and names imported globals alone (section 3.4.4).
abbrev pub GlobalValid : Module → Global → Type 0
GlobalValid m g = const_type (imported_globals_of m) g.init ≡ Some g.ty.value

-- What an export names exists (section 3.4.8).
abbrev pub ExportValid : Module → ExportKind → Type 0
ExportValid m (export.Func f) = f < length (func_types_of m)
ExportValid m (export.Table t) = t < length (tables_of m)
ExportValid m (export.Memory k) = k < length (memories_of m)
ExportValid m (export.Global g) = g < length (globals_of m)

-- No name stands at two places of a list.
abbrev pub AreApart : List (List ℕ) → Type 0
AreApart names = (i j : ℕ) (name : List ℕ) → slice_get names i ≡ Some name → slice_get names j ≡ Some name → i ≡ j

-- The start function exists, and has the type `[] -> []` (section 3.4.7).
abbrev pub StartValid : Module → ℕ → Type 0
StartValid m f = slice_get (funcs_of m) f ≡ Some (record { params = []; results = [] })

-- An element segment's table exists, its offset is a constant i32, and its functions exist (section 3.4.5).
abbrev pub ElemValid : Module → Elem → Type 0
ElemValid m e =
    (e.table < length (tables_of m))
    × (const_type (globals_of m) e.offset ≡ Some I32)
    × All (λ f. f < length (func_types_of m)) e.funcs

-- A data segment's memory exists, and its offset is a constant i32 (section 3.4.6).
abbrev pub SegmentValid : Module → Segment → Type 0
SegmentValid m s = (s.memory < length (memories_of m)) × (const_type (globals_of m) s.offset ≡ Some I32)

-- A function's body has its type (section 3.4.1).
abbrev pub FuncValid : Module → Func → Type 0
FuncValid m f = BodyTyped (context_of m f) (sequence_of f.body)

-- ---- ranges of numbers

-- A number of 32 bits.
abbrev pub IsWord : ℕ → Type 0
IsWord n = n < 2 ^ 32

-- A value lies in the range of its type.
abbrev pub ValInRange : Val → Type 0
ValInRange (val.I32 n) = n < 2 ^ 32
ValInRange (val.I64 n) = n < 2 ^ 64

abbrev mutual
  -- The numbers in an instruction lie in their ranges.
  pub InstructionInRange : Instruction → Type 0
  InstructionInRange (tree.Plain op) = Unit {0}
  InstructionInRange (tree.Num op) = Unit {0}
  InstructionInRange (tree.Const value) = ValInRange value
  InstructionInRange (tree.LocalGet x) = IsWord x
  InstructionInRange (tree.LocalSet x) = IsWord x
  InstructionInRange (tree.LocalTee x) = IsWord x
  InstructionInRange (tree.GlobalGet x) = IsWord x
  InstructionInRange (tree.GlobalSet x) = IsWord x
  InstructionInRange (tree.Load op align offset) = IsWord align × IsWord offset
  InstructionInRange (tree.Store op align offset) = IsWord align × IsWord offset
  InstructionInRange (tree.Block ty body) = SequenceInRange body
  InstructionInRange (tree.Loop ty body) = SequenceInRange body
  InstructionInRange (tree.If ty first) = SequenceInRange first
  InstructionInRange (IfElse ty first second) = SequenceInRange first × SequenceInRange second
  InstructionInRange (tree.Br l) = IsWord l
  InstructionInRange (tree.BrIf l) = IsWord l
  InstructionInRange (tree.BrTable ls l) = All IsWord ls × IsWord l
  InstructionInRange (tree.Call f) = IsWord f
  InstructionInRange (tree.CallIndirect t) = IsWord t

  -- The numbers in a sequence lie in their ranges.
  pub SequenceInRange : Sequence → Type 0
  SequenceInRange Empty = Unit {0}
  SequenceInRange (Then i s) = InstructionInRange i × SequenceInRange s

-- The minimum of limits and the maximum, if there is one, are numbers of 32 bits.
abbrev pub LimitsInRange : Limits → Type 0
LimitsInRange l = IsWord l.min × IfSome l.max IsWord

-- Each byte is below 256.
abbrev pub BytesInRange : List ℕ → Type 0
BytesInRange bytes = All (λ b. b < 256) bytes

-- The numbers in what is imported lie in their ranges.
abbrev pub ImportInRange : ImportKind → Type 0
ImportInRange (import.Func t) = IsWord t
ImportInRange (import.Table l) = LimitsInRange l
ImportInRange (import.Memory l) = LimitsInRange l
ImportInRange (import.Global g) = Unit {0}

-- The number of what is exported has 32 bits.
abbrev pub ExportInRange : ExportKind → Type 0
ExportInRange (export.Func f) = IsWord f
ExportInRange (export.Table t) = IsWord t
ExportInRange (export.Memory k) = IsWord k
ExportInRange (export.Global g) = IsWord g

-- Each number in a module lies in the range of its type in the program: words below 2 ^ 32, bytes below 256.
pub record InRange (m : Module) : Type 0 where
  pub imports : All (λ (i : Import). BytesInRange i.module × BytesInRange i.name × ImportInRange i.kind) m.imports
  pub funcs : All (λ (f : Func). IsWord f.ty × SequenceInRange (sequence_of f.body)) m.funcs
  pub tables : All LimitsInRange m.tables
  pub memories : All LimitsInRange m.memories
  pub globals : All (λ (g : Global). SequenceInRange (sequence_of g.init)) m.globals
  pub exports : All (λ (e : Export). BytesInRange e.name × ExportInRange e.kind) m.exports
  pub start : IfSome m.start IsWord
  pub elems : All (λ (e : Elem). IsWord e.table × SequenceInRange (sequence_of e.offset) × All IsWord e.funcs) m.elems
  pub segments : All (λ (s : Segment). IsWord s.memory × SequenceInRange (sequence_of s.offset) × BytesInRange s.bytes) m.segments
  pub customs : All (λ (s : Custom). (s.after < 256) × BytesInRange s.name × BytesInRange s.bytes) m.customs

-- ---- the whole

-- Each part of a module is valid, there is at most one table and at most one memory, and the names of exports differ
-- (section 3.4.10).
pub record PartsValid (m : Module) : Type 0 where
  pub types : All TypeValid m.types
  pub imports : All (λ (i : Import). ImportValid m.types i.kind) m.imports
  pub funcs : All (λ (f : Func). f.ty < length m.types) m.funcs
  pub tables : All TableValid m.tables
  pub one_table : length (tables_of m) ≤ 1
  pub memories : All MemoryValid m.memories
  pub one_memory : length (memories_of m) ≤ 1
  pub globals : All (GlobalValid m) m.globals
  pub exports : All (λ (e : Export). ExportValid m e.kind) m.exports
  pub names : AreApart (map (λ (e : Export). e.name) m.exports)
  pub start : IfSome m.start (StartValid m)
  pub elems : All (ElemValid m) m.elems
  pub bodies : All (FuncValid m) m.funcs
  pub segments : All (SegmentValid m) m.segments

-- A module is valid: its parts are, and its numbers lie in their ranges (section 3.4.10).
pub record Valid (m : Module) : Type 0 where
  pub ranges : InRange m
  pub parts : PartsValid m
