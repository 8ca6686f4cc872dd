-- The one shortest text of a module (Core Specification, chapter 5).
use Rattle.std.specs.Prelude.{ℕ, ◌+◌, ◌==◌, if◌then◌else◌, Bool, true, false, List, [], ◌∷◌, ◌++◌, length, filter, Option, Some, None}
use Rattle.std.specs.List.{flat_map}
use Rattle.wasm_values.specs.declared.number.ValType.{ValType}
use Rattle.wasm_values.specs.declared.number.ValType.TheVariants.{I32, I64}
use Rattle.wasm_values.specs.declared.number.Val.{Val}
use Rattle.wasm_values.specs.declared.number.Val.TheVariants as val
use Rattle.wasm_values.specs.Types.{is_same_type}
use Rattle.wasm_syntax.specs.declared.module.FuncType.{FuncType}
use Rattle.wasm_syntax.specs.declared.module.Limits.{Limits}
use Rattle.wasm_syntax.specs.declared.module.GlobalType.{GlobalType}
use Rattle.wasm_syntax.specs.declared.module.Import.{Import}
use Rattle.wasm_syntax.specs.declared.module.ImportKind.{ImportKind}
use Rattle.wasm_syntax.specs.declared.module.ImportKind.TheVariants as import
use Rattle.wasm_syntax.specs.declared.module.Export.{Export}
use Rattle.wasm_syntax.specs.declared.module.ExportKind.{ExportKind}
use Rattle.wasm_syntax.specs.declared.module.ExportKind.TheVariants as export
use Rattle.wasm_syntax.specs.declared.module.Global.{Global}
use Rattle.wasm_syntax.specs.declared.module.Func.{Func}
use Rattle.wasm_syntax.specs.declared.module.Elem.{Elem}
use Rattle.wasm_syntax.specs.declared.module.Segment.{Segment}
use Rattle.wasm_syntax.specs.declared.module.Custom.{Custom}
use Rattle.wasm_syntax.specs.declared.module.Module.{Module}
use Rattle.wasm_syntax.specs.declared.instr.Instr.{Instr, Plain, Num, Const, LocalGet, LocalSet, LocalTee, GlobalGet, GlobalSet, Load, Store, Block', Loop', If', Br, BrIf, BrTable, Call, CallIndirect}
use Rattle.wasm_syntax.specs.declared.instr.Plain as plain_type
use Rattle.wasm_syntax.specs.declared.instr.Plain.TheVariants as plain
use Rattle.wasm_syntax.specs.declared.flat.Flat.{Flat}
use Rattle.wasm_syntax.specs.declared.flat.Flat.TheVariants as item
use Rattle.wasm_syntax.specs.declared.kind.Opcode.{Opcode}
use Rattle.wasm_syntax.specs.declared.kind.Opcode.TheVariants as op
use Rattle.wasm_syntax.specs.Opcodes.{code_of}
use Rattle.wasm_syntax.specs.FlatForm.{flat_body}
use Rattle.binary_grammar.specs.words.SectionReading.{header}
use Rattle.wasm_write.specs.Shortest.{number_text, signed_text}

-- A vector: a count, and the entries one after another (5.1.3).
unfoldable pub vector_text : {A : Type 0} → (A → List ℕ) → List A → List ℕ
vector_text text xs = number_text (length xs) ++ flat_map text xs

-- Bytes behind their number: a vector of bytes (5.1.3), a name (5.2.4), or contents of a size (5.5.2).
unfoldable pub sized_text : List ℕ → List ℕ
sized_text bytes = number_text (length bytes) ++ bytes

-- The byte of a value type (5.3.1).
abbrev pub value_type_code : ValType → ℕ
value_type_code I32 = 0x7f
value_type_code I64 = 0x7e

-- A value type: its byte (5.3.1).
abbrev pub value_type_text : ValType → List ℕ
value_type_text t = value_type_code t ∷ []

-- A block type (5.3.2).
abbrev pub block_type_code : Option ValType → ℕ
block_type_code None = 0x40
block_type_code (Some t) = value_type_code t

-- A function type (5.3.3).
abbrev pub func_type_text : FuncType → List ℕ
func_type_text t = 0x60 ∷ (vector_text value_type_text t.params ++ vector_text value_type_text t.results)

-- A least number, and a greatest where there is one (5.3.4).
abbrev pub between_text : ℕ → Option ℕ → List ℕ
between_text least None = 0 ∷ number_text least
between_text least (Some greatest) = 1 ∷ (number_text least ++ number_text greatest)

-- Limits (5.3.4).
abbrev pub limits_text : Limits → List ℕ
limits_text l = between_text l.min l.max

-- A table type (5.3.6).
abbrev pub table_type_text : Limits → List ℕ
table_type_text l = 0x70 ∷ limits_text l

-- The byte of a global's mutability (5.3.7).
abbrev pub mutability_code : Bool → ℕ
mutability_code false = 0
mutability_code true = 1

-- A global type (5.3.7).
abbrev pub global_type_text : GlobalType → List ℕ
global_type_text g = value_type_code g.value ∷ mutability_code g.mutable ∷ []

-- What is imported (5.5.5).
abbrev pub import_kind_text : ImportKind → List ℕ
import_kind_text (import.Func n) = 0 ∷ number_text n
import_kind_text (import.Table l) = 1 ∷ table_type_text l
import_kind_text (import.Memory l) = 2 ∷ limits_text l
import_kind_text (import.Global g) = 3 ∷ global_type_text g

-- An import: its two names, and what is imported (5.5.5).
abbrev pub import_text : Import → List ℕ
import_text i = sized_text i.«module» ++ (sized_text i.name ++ import_kind_text i.kind)

-- What is exported (5.5.10).
abbrev pub export_kind_text : ExportKind → List ℕ
export_kind_text (export.Func n) = 0 ∷ number_text n
export_kind_text (export.Table n) = 1 ∷ number_text n
export_kind_text (export.Memory n) = 2 ∷ number_text n
export_kind_text (export.Global n) = 3 ∷ number_text n

-- An export: its name, and what is exported (5.5.10).
abbrev pub export_text : Export → List ℕ
export_text e = sized_text e.name ++ export_kind_text e.kind

-- The opcode of an instruction that takes no numbers and is no operator (5.4).
abbrev pub plain_opcode : plain_type.Plain → Opcode
plain_opcode plain.Unreachable = op.Unreachable
plain_opcode plain.Nop = op.Nop
plain_opcode plain.Return = op.Return
plain_opcode plain.Drop = op.Drop
plain_opcode plain.Select = op.Select
plain_opcode plain.MemorySize = op.MemorySize
plain_opcode plain.MemoryGrow = op.MemoryGrow

-- The opcode of a constant (5.4.5).
abbrev pub const_opcode : Val → Opcode
const_opcode (val.I32 n) = op.I32Const
const_opcode (val.I64 n) = op.I64Const

-- The opcode of an instruction (5.4).
abbrev pub opcode_of : Instr → Opcode
opcode_of (Plain p) = plain_opcode p
opcode_of (Num n) = op.Num n
opcode_of (Const v) = const_opcode v
opcode_of (LocalGet x) = op.LocalGet
opcode_of (LocalSet x) = op.LocalSet
opcode_of (LocalTee x) = op.LocalTee
opcode_of (GlobalGet x) = op.GlobalGet
opcode_of (GlobalSet x) = op.GlobalSet
opcode_of (Load l a o) = op.Load l
opcode_of (Store s a o) = op.Store s
opcode_of (Block' t n is) = op.Block
opcode_of (Loop' t n is) = op.Loop
opcode_of (If' t n is os) = op.If
opcode_of (Br l) = op.Br
opcode_of (BrIf l) = op.BrIf
opcode_of (BrTable ls l) = op.BrTable
opcode_of (Call f) = op.Call
opcode_of (CallIndirect t) = op.CallIndirect

-- The immediates of such an instruction: a zero byte for those of a memory's size (5.4.4), and else none.
abbrev pub plain_immediates : plain_type.Plain → List ℕ
plain_immediates plain.MemorySize = 0 ∷ []
plain_immediates plain.MemoryGrow = 0 ∷ []
plain_immediates _ = []

-- The number of a constant, spelled as a signed one (5.4.5).
abbrev pub const_text : Val → List ℕ
const_text (val.I32 n) = signed_text 32 n
const_text (val.I64 n) = signed_text 64 n

-- The immediates of an instruction that is no block, loop or if (5.4).
abbrev pub immediates : Instr → List ℕ
immediates (Plain p) = plain_immediates p
immediates (Num n) = []
immediates (Const v) = const_text v
immediates (LocalGet x) = number_text x
immediates (LocalSet x) = number_text x
immediates (LocalTee x) = number_text x
immediates (GlobalGet x) = number_text x
immediates (GlobalSet x) = number_text x
immediates (Load l a o) = number_text a ++ number_text o
immediates (Store s a o) = number_text a ++ number_text o
immediates (Block' t n is) = []
immediates (Loop' t n is) = []
immediates (If' t n is os) = []
immediates (Br l) = number_text l
immediates (BrIf l) = number_text l
immediates (BrTable ls l) = vector_text number_text ls ++ number_text l
immediates (Call f) = number_text f
immediates (CallIndirect t) = number_text t ++ 0 ∷ []

-- An item of flat code: the byte of its opcode, and what follows it (5.4).
unfoldable pub item_text : Flat → List ℕ
item_text (item.One i) = code_of (opcode_of i) ∷ immediates i
item_text (item.Block t) = code_of op.Block ∷ block_type_code t ∷ []
item_text (item.Loop t) = code_of op.Loop ∷ block_type_code t ∷ []
item_text (item.If t) = code_of op.If ∷ block_type_code t ∷ []
item_text item.Else = code_of op.Else ∷ []
item_text item.End = code_of op.End ∷ []

-- Items of flat code, one after another (5.4).
abbrev pub items_text : List Flat → List ℕ
items_text = flat_map item_text

-- An expression: its items one after another, with its last end (5.4.6).
abbrev pub expression_text : List Instr → List ℕ
expression_text is = items_text (flat_body is)

-- Locals of one type before runs of equal ones join the first of these where that has their type (5.5.13).
abbrev pub joined_to : ℕ → ValType → List (ℕ × ValType) → List (ℕ × ValType)
joined_to n t [] = (n, t) ∷ []
joined_to n t (r ∷ rs) = if is_same_type t r.1 then (n + r.0, t) ∷ rs else (n, t) ∷ r ∷ rs

-- The longest runs of equal locals (5.5.13).
abbrev pub runs_of : List ValType → List (ℕ × ValType)
runs_of [] = []
runs_of (t ∷ ts) = joined_to 1 t (runs_of ts)

-- A run of equal locals: how many, and their type (5.5.13).
abbrev pub run_text : ℕ × ValType → List ℕ
run_text r = number_text r.0 ++ value_type_text r.1

-- A function's locals and code (5.5.13).
abbrev pub body_text : Func → List ℕ
body_text f = vector_text run_text (runs_of f.locals) ++ expression_text f.body

-- A function's locals and code, behind their size (5.5.13).
abbrev pub func_text : Func → List ℕ
func_text f = sized_text (body_text f)

-- A global (5.5.9).
abbrev pub global_text : Global → List ℕ
global_text g = global_type_text g.ty ++ expression_text g.init

-- An element segment (5.5.12).
abbrev pub elem_text : Elem → List ℕ
elem_text e = number_text e.table ++ (expression_text e.offset ++ vector_text number_text e.funcs)

-- A data segment (5.5.14).
abbrev pub segment_text : Segment → List ℕ
segment_text s = number_text s.memory ++ (expression_text s.offset ++ sized_text s.bytes)

-- A section: its id, its size, and its contents (5.5.2).
unfoldable pub section_text : ℕ → List ℕ → List ℕ
section_text id contents = id ∷ sized_text contents

-- A section of entries, where there are any.
unfoldable pub entries_text : {A : Type 0} → ℕ → (A → List ℕ) → List A → List ℕ
entries_text id text [] = []
entries_text id text (x ∷ xs) = section_text id (vector_text text (x ∷ xs))

-- The start section, where there is a start function (5.5.11).
unfoldable pub start_text : Option ℕ → List ℕ
start_text None = []
start_text (Some n) = section_text 8 (number_text n)

-- The contents of a custom section: a name, and whatever follows it (5.5.3).
abbrev pub custom_contents : Custom → List ℕ
custom_contents c = sized_text c.name ++ c.bytes

-- A custom section (5.5.3).
abbrev pub custom_text : Custom → List ℕ
custom_text c = section_text 0 (custom_contents c)

-- The custom sections that name a section, in their order.
abbrev pub customs_after : ℕ → List Custom → List Custom
customs_after id = filter (λ c. c.after == id)

-- The custom sections that name a section, one after another (5.5.3).
unfoldable pub customs_text : ℕ → List Custom → List ℕ
customs_text id cs = flat_map custom_text (customs_after id cs)

-- A section, and the custom sections that name it.
abbrev pub behind : ℕ → List ℕ → List Custom → List ℕ
behind id text cs = text ++ customs_text id cs

-- The type index of a function (5.5.6).
abbrev pub type_text : Func → List ℕ
type_text f = number_text f.ty

-- The sections of a module up to the start section.
unfoldable pub first_sections : Module → List ℕ
first_sections m =
    customs_text 0 m.customs ++
    (behind 1 (entries_text 1 func_type_text m.types) m.customs ++
    (behind 2 (entries_text 2 import_text m.imports) m.customs ++
    (behind 3 (entries_text 3 type_text m.funcs) m.customs ++
    (behind 4 (entries_text 4 table_type_text m.tables) m.customs ++
    (behind 5 (entries_text 5 limits_text m.memories) m.customs ++
    behind 6 (entries_text 6 global_text m.globals) m.customs)))))

-- The others.
unfoldable pub last_sections : Module → List ℕ
last_sections m =
    behind 7 (entries_text 7 export_text m.exports) m.customs ++
    (behind 8 (start_text m.start) m.customs ++
    (behind 9 (entries_text 9 elem_text m.elems) m.customs ++
    (behind 10 (entries_text 10 func_text m.funcs) m.customs ++
    behind 11 (entries_text 11 segment_text m.segments) m.customs)))

-- The text of a module: the header, and in the order of their ids the sections that have an entry, each with the custom
-- sections that name it behind it; those that name none come first (5.5.15).
unfoldable pub encoded : Module → List ℕ
encoded m = header ++ (first_sections m ++ last_sections m)
