-- Which items a module's bytes have, in the order of the file.
use Rattle.std.specs.Prelude.{◌≡◌, ℕ, zero, suc, ◌+◌, nat_lt, ◌==◌, if◌then◌else◌, Bool, true, false, List, [], ◌∷◌, ◌++◌, length, Option, Some, None}
use Rattle.wasm_values.specs.declared.number.ValType.{ValType}
use Rattle.wasm_values.specs.declared.number.Val.TheVariants as val
use Rattle.wasm_syntax.specs.declared.instr.Instr.{Instr}
use Rattle.wasm_syntax.specs.declared.instr.Instr.TheVariants as instr
use Rattle.wasm_syntax.specs.declared.instr.Plain.TheVariants as plain
use Rattle.wasm_syntax.specs.declared.flat.Flat.{Flat}
use Rattle.wasm_syntax.specs.declared.flat.Flat.TheVariants as item
use Rattle.wasm_syntax.specs.declared.kind.Opcode.{Opcode}
use Rattle.wasm_syntax.specs.declared.kind.Opcode.TheVariants as op
use Rattle.wasm_syntax.specs.declared.module.FuncType.{FuncType}
use Rattle.wasm_syntax.specs.declared.module.Limits.{Limits}
use Rattle.wasm_syntax.specs.declared.module.GlobalType.{GlobalType}
use Rattle.wasm_syntax.specs.declared.module.Global.{Global}
use Rattle.wasm_syntax.specs.declared.module.Elem.{Elem}
use Rattle.wasm_syntax.specs.declared.module.Segment.{Segment}
use Rattle.wasm_syntax.specs.declared.module.Import.{Import}
use Rattle.wasm_syntax.specs.declared.module.Export.{Export}
use Rattle.wasm_syntax.specs.Parts.{Part, own, may_turn, then_item}
use Rattle.wasm_values.specs.declared.limit.LimitWord.{LimitWord}
use Rattle.wasm_values.specs.declared.limit.LimitWord.TheVariants as limit
use Rattle.binary_grammar.specs.declared.section.Body.{Body}
use Rattle.binary_grammar.specs.declared.section.Section.{Section}
use Rattle.binary_grammar.specs.declared.section.Section.TheVariants as section
use Rattle.binary_grammar.specs.declared.section.Decoded.{Decoded}
use Rattle.binary_grammar.specs.declared.fault.DecodeFault.{DecodeFault}
use Rattle.binary_grammar.specs.declared.fault.DecodeFault.TheVariants.{Malformed, Limit, OutOfMemory}
use Rattle.wasm_syntax.specs.declared.module.ImportKind.{ImportKind}
use Rattle.wasm_syntax.specs.declared.module.ImportKind.TheVariants as import
use Rattle.wasm_syntax.specs.declared.module.ExportKind.{ExportKind}
use Rattle.wasm_syntax.specs.declared.module.ExportKind.TheVariants as export
use Rattle.binary_grammar.specs.Bounds.{Bounds, copies}
use Rattle.binary_grammar.specs.words.CodeReading.{is_last, own_instrs}
use Rattle.binary_grammar.specs.ModuleGrammar.{id_of, given, function_section, code_section, AreParts}
use Rattle.binary_grammar.specs.Readings.{Wanted, Header, Next, FileEnd, Size, RegionEnd, Number, Few, Count, RunCount, Word32, Word64, Utf8, Bytes, Rest, ValueType, BlockType, Tag, Flag, KindByte, Op, Here, Given, Left, Plan, Complete, Want, andThen, ReadsTo, StopsAt}

-- One item, for what it gives.
abbrev pub one : (k : Wanted) → Plan (Given k)
one k = Want k (λ x. Complete x)

-- So many entries one after another, with the place of each.
unfoldable pub entries_plan : {A : Type 0} → Plan A → ℕ → Plan (List A × List ℕ)
entries_plan p zero = Complete ([], [])
entries_plan p (suc n) = Want Here (λ at. andThen p (λ x. andThen (entries_plan p n) (λ xs. Complete (x ∷ xs.0, at ∷ xs.1))))

-- A vector: a count, and so many entries, with the place of each (5.1.3).
unfoldable pub vector_plan : {A : Type 0} → Plan A → Plan (List A × List ℕ)
vector_plan p = andThen (one Number) (entries_plan p)

-- The same, where the count has a limit.
unfoldable pub limited_plan : {A : Type 0} → Plan A → ℕ → LimitWord → Plan (List A × List ℕ)
limited_plan p most w = andThen (one (Few most w)) (entries_plan p)

-- A vector whose places do not matter.
unfoldable pub list_plan : {A : Type 0} → Plan A → Plan (List A)
list_plan p = andThen (vector_plan p) (λ x. Complete x.0)

-- A vector of bytes: a count, and so many bytes (5.1.3).
unfoldable pub bytes_plan : Plan (List ℕ)
bytes_plan = andThen (one Number) (λ n. one (Bytes n))

-- A name: its length, and that many bytes in UTF-8 (5.2.4).
unfoldable pub name_plan : Plan (List ℕ)
name_plan = andThen (one Number) (λ n. one (Utf8 n))

-- A region of its own: its size, what it has, and its end.
unfoldable pub sized_plan : {A : Type 0} → Plan A → Plan A
sized_plan p = Want Size (λ s. andThen p (λ x. Want RegionEnd (λ e. Complete x)))

-- A function type (5.3.3). It has at most so many parameters.
unfoldable pub func_type_plan : ℕ → Plan FuncType
func_type_plan most =
    andThen (one (Tag 0x60)) (λ tag. andThen (limited_plan (one ValueType) most limit.Params) (λ params. andThen (list_plan (one ValueType)) (λ results.
    Complete (record { params = params.0; results = results }))))

-- The maximum of limits, which there is where the flag says so (5.3.4).
abbrev pub greatest_plan : Bool → Plan (Option ℕ)
greatest_plan false = Complete None
greatest_plan true = andThen (one Number) (λ n. Complete (Some n))

-- Limits (5.3.4).
unfoldable pub limits_plan : Plan Limits
limits_plan = andThen (one Flag) (λ flag. andThen (one Number) (λ least. andThen (greatest_plan flag) (λ greatest. Complete (record { min = least; max = greatest }))))

-- A table type (5.3.6).
unfoldable pub table_type_plan : Plan Limits
table_type_plan = andThen (one (Tag 0x70)) (λ tag. limits_plan)

-- A global type (5.3.7).
unfoldable pub global_type_plan : Plan GlobalType
global_type_plan = andThen (one ValueType) (λ t. andThen (one Flag) (λ flag. Complete (record { value = t; mutable = flag })))

-- What is imported, by the byte of its kind (5.5.5).
unfoldable pub imported_plan : ℕ → Plan ImportKind
imported_plan b =
    if b == 0 then andThen (one Number) (λ x. Complete (import.Func x)) else
    (if b == 1 then andThen table_type_plan (λ x. Complete (import.Table x)) else
    (if b == 2 then andThen limits_plan (λ x. Complete (import.Memory x)) else andThen global_type_plan (λ x. Complete (import.Global x))))

-- An import (5.5.5).
unfoldable pub import_plan : Plan Import
import_plan =
    andThen name_plan (λ first. andThen name_plan (λ second. andThen (Want KindByte imported_plan) (λ kind.
    Complete (record { «module» = first; name = second; kind = kind }))))

-- What is exported, by the byte of its kind (5.5.10).
unfoldable pub exported_plan : ℕ → Plan ExportKind
exported_plan b =
    if b == 0 then andThen (one Number) (λ x. Complete (export.Func x)) else
    (if b == 1 then andThen (one Number) (λ x. Complete (export.Table x)) else
    (if b == 2 then andThen (one Number) (λ x. Complete (export.Memory x)) else andThen (one Number) (λ x. Complete (export.Global x))))

-- An export (5.5.10).
unfoldable pub export_plan : Plan Export
export_plan = andThen name_plan (λ name. andThen (Want KindByte exported_plan) (λ kind. Complete (record { name = name; kind = kind })))

-- an instruction with one number
abbrev pub indexed_plan : (ℕ → Instr) → Plan Instr
indexed_plan f = andThen (one Number) (λ n. Complete (f n))

-- an instruction with two numbers
abbrev pub two_plan : (ℕ → ℕ → Instr) → Plan Instr
two_plan f = andThen (one Number) (λ a. andThen (one Number) (λ b. Complete (f a b)))

-- an instruction with a byte 0
abbrev pub zero_plan : Instr → Plan Instr
zero_plan i = andThen (one (Tag 0)) (λ z. Complete i)

-- What follows an opcode that begins no block and is no `else` or `end`. `op_plan` asks for no others, so that the last
-- case is never reached.
unfoldable pub instr_plan : Opcode → Plan Instr
instr_plan op.Unreachable = Complete (instr.Plain plain.Unreachable)
instr_plan op.Nop = Complete (instr.Plain plain.Nop)
instr_plan op.Return = Complete (instr.Plain plain.Return)
instr_plan op.Drop = Complete (instr.Plain plain.Drop)
instr_plan op.Select = Complete (instr.Plain plain.Select)
instr_plan (op.Num o) = Complete (instr.Num o)
instr_plan op.MemorySize = zero_plan (instr.Plain plain.MemorySize)
instr_plan op.MemoryGrow = zero_plan (instr.Plain plain.MemoryGrow)
instr_plan op.I32Const = andThen (one Word32) (λ n. Complete (instr.Const (val.I32 n)))
instr_plan op.I64Const = andThen (one Word64) (λ n. Complete (instr.Const (val.I64 n)))
instr_plan op.Br = indexed_plan instr.Br
instr_plan op.BrIf = indexed_plan instr.BrIf
instr_plan op.BrTable = andThen (list_plan (one Number)) (λ labels. andThen (one Number) (λ last. Complete (instr.BrTable labels last)))
instr_plan op.Call = indexed_plan instr.Call
instr_plan op.CallIndirect = andThen (one Number) (λ n. andThen (one (Tag 0)) (λ z. Complete (instr.CallIndirect n)))
instr_plan op.LocalGet = indexed_plan instr.LocalGet
instr_plan op.LocalSet = indexed_plan instr.LocalSet
instr_plan op.LocalTee = indexed_plan instr.LocalTee
instr_plan op.GlobalGet = indexed_plan instr.GlobalGet
instr_plan op.GlobalSet = indexed_plan instr.GlobalSet
instr_plan (op.Load o) = two_plan (instr.Load o)
instr_plan (op.Store o) = two_plan (instr.Store o)
instr_plan _ = Complete (instr.Plain plain.Nop)

-- What follows an opcode (5.4).
unfoldable pub op_plan : Opcode → Plan Flat
op_plan op.Block = andThen (one BlockType) (λ t. Complete (item.Block t))
op_plan op.Loop = andThen (one BlockType) (λ t. Complete (item.Loop t))
op_plan op.If = andThen (one BlockType) (λ t. Complete (item.If t))
op_plan op.Else = Complete item.Else
op_plan op.End = Complete item.End
op_plan o = andThen (instr_plan o) (λ i. Complete (item.One i))

-- An item of flat code (5.4). `turn` says whether an `else` may come, `full` whether no block may.
unfoldable pub item_plan : Bool → Bool → Plan Flat
item_plan turn full = Want (Op turn full) op_plan

-- The rest of an expression with these open parts; at most so many items, as many as the file has bytes. Each item of code
-- has a byte, and a file begins with a header, so that no reading of a file reaches the case of `zero`.
unfoldable pub rest_plan : ℕ → ℕ → List Part → Plan (List Instr × List ℕ)
rest_plan most zero ps = Want (Op false false) (λ o. Complete ([], []))
rest_plan most (suc n) ps = Want Here (λ at. andThen (item_plan (may_turn ps) (nat_lt most (length ps))) (λ i.
    if is_last (length ps) i then Complete (own_instrs ps, at ∷ []) else andThen (rest_plan most n (then_item ps i)) (λ x. Complete (x.0, at ∷ x.1))))

-- An expression, with the place of each item (5.4.6), in a file of so many bytes. At most so many blocks are open at once.
unfoldable pub expression_plan : ℕ → ℕ → Plan (List Instr × List ℕ)
expression_plan len most = rest_plan most len (own [] ∷ [])

-- An expression whose places do not matter.
unfoldable pub instrs_plan : ℕ → ℕ → Plan (List Instr)
instrs_plan len most = andThen (expression_plan len most) (λ x. Complete x.0)

-- Runs of locals, behind a number of locals.
unfoldable pub runs_plan : ℕ → ℕ → ℕ → Plan (List ValType)
runs_plan most sum zero = Complete []
runs_plan most sum (suc n) = andThen (one (RunCount most sum)) (λ c. andThen (one ValueType) (λ t. andThen (runs_plan most (sum + c) n) (λ more. Complete (copies c t ++ more))))

-- A function's locals: a vector of runs (5.5.13). At most so many locals are declared.
unfoldable pub locals_plan : ℕ → Plan (List ValType)
locals_plan most = andThen (one Number) (runs_plan most 0)

-- A function's locals and code, in a region of their own (5.5.13).
unfoldable pub body_plan : ℕ → ℕ → ℕ → Plan Body
body_plan len locals nesting =
    sized_plan (andThen (locals_plan locals) (λ ls. andThen (expression_plan len nesting) (λ code. Complete (record { locals = ls; code = code.0; places = code.1 }))))

-- A global (5.5.9).
unfoldable pub global_plan : ℕ → ℕ → Plan Global
global_plan len nesting = andThen global_type_plan (λ t. andThen (instrs_plan len nesting) (λ init. Complete (record { ty = t; init = init })))

-- An element segment (5.5.12).
unfoldable pub elem_plan : ℕ → ℕ → Plan Elem
elem_plan len nesting =
    andThen (one Number) (λ table. andThen (instrs_plan len nesting) (λ offset. andThen (list_plan (one Number)) (λ funcs.
    Complete (record { table = table; offset = offset; funcs = funcs }))))

-- A data segment (5.5.14).
unfoldable pub segment_plan : ℕ → ℕ → Plan Segment
segment_plan len nesting =
    andThen (one Number) (λ memory. andThen (instrs_plan len nesting) (λ offset. andThen bytes_plan (λ contents.
    Complete (record { memory = memory; offset = offset; bytes = contents }))))

-- The contents of the section with an id.
unfoldable pub contents_plan : ℕ → Bounds → ℕ → ℕ → Plan Section
contents_plan len most declared id =
    if id == 0 then andThen name_plan (λ name. andThen (one Rest) (λ bs. Complete (section.Custom name bs))) else
    (if id == 1 then andThen (limited_plan (func_type_plan most.params) most.types limit.Types) (λ x. Complete (section.Types x.0 x.1)) else
    (if id == 2 then andThen (limited_plan import_plan most.imports limit.Imports) (λ x. Complete (section.Imports x.0 x.1)) else
    (if id == 3 then andThen (limited_plan (one Number) most.functions limit.Functions) (λ x. Complete (section.Funcs x.0 x.1)) else
    (if id == 4 then andThen (vector_plan table_type_plan) (λ x. Complete (section.Tables x.0 x.1)) else
    (if id == 5 then andThen (vector_plan limits_plan) (λ x. Complete (section.Memories x.0 x.1)) else
    (if id == 6 then andThen (limited_plan (global_plan len most.nesting) most.globals limit.Globals) (λ x. Complete (section.Globals x.0 x.1)) else
    (if id == 7 then andThen (vector_plan export_plan) (λ x. Complete (section.Exports x.0 x.1)) else
    (if id == 8 then Want Here (λ at. andThen (one Number) (λ n. Complete (section.Start n at))) else
    (if id == 9 then andThen (vector_plan (elem_plan len most.nesting)) (λ x. Complete (section.Elems x.0 x.1)) else
    (if id == 10 then andThen (one (Count declared)) (λ n. andThen (entries_plan (body_plan len most.locals most.nesting) n) (λ x. Complete (section.Bodies x.0))) else
    andThen (vector_plan (segment_plan len most.nesting)) (λ x. Complete (section.Segments x.0 x.1))))))))))))

-- The id of the last section that is not custom, behind one more section.
abbrev pub last_behind : ℕ → Section → ℕ
last_behind last s = if id_of s == 0 then last else id_of s

-- How many functions are declared, behind one more section.
abbrev pub declared_behind : ℕ → Section → ℕ
declared_behind declared (section.Funcs es ps) = length es
declared_behind declared _ = declared

-- Sections up to the end of the file, behind sections of which the last that is not custom has this id and which declare so
-- many functions; at most so many, as many as the file has bytes. No reading of a file reaches the case of `zero`, since each
-- section has bytes.
unfoldable pub sections_plan : ℕ → Bounds → ℕ → ℕ → ℕ → Plan (List Section)
sections_plan len most zero last declared = Want (Next last) (λ o. Complete [])
sections_plan len most (suc n) last declared = Want (Next last) (λ o. elim o as (λ v. Plan (List Section)) [
  | None ↦ Complete []
  | Some id ↦ andThen (sized_plan (contents_plan len most declared id)) (λ s.
      andThen (sections_plan len most n (last_behind last s) (declared_behind declared s)) (λ ss. Complete (s ∷ ss)))
])

-- How many functions sections declare. Each has a body in the code section.
abbrev pub functions_of : List Section → ℕ
functions_of ss = length (given function_section ([], []) ss).0

-- How many bodies sections have.
abbrev pub bodies_of : List Section → ℕ
bodies_of ss = length (given code_section [] ss)

-- A module's bytes, of which there are so many: its sections.
unfoldable pub module_plan : Bounds → ℕ → Plan (List Section)
module_plan most len =
    Want Header (λ h. andThen (sections_plan len most len 0 0) (λ ss. Want (FileEnd (functions_of ss) (bodies_of ss)) (λ e. Complete ss)))

-- All of the bytes of a file.
abbrev pub whole_file : List ℕ → Left
whole_file bytes = record { end = length bytes; bytes = bytes; outer = [] }

-- The bytes have a complete reading, which gives sections, and these are the parts of a module and its marks.
abbrev pub ReadsModule : Bounds → List ℕ → Decoded → Type 0
ReadsModule most bytes r =
    (sections : List Section) × ReadsTo (module_plan most (length bytes)) (whole_file bytes) sections ×
    AreParts sections r.module r.marks × (r.marks.len ≡ length bytes)

-- The bytes' longest reading is not complete, and this is the place and the word that the item gives that is wanted next.
-- Whether an item is accepted, what it gives and what its fault is, `accept` takes from the reading functions of single
-- items: numbers, bytes, names, types, sizes and ends of regions, ids of sections, the header; opcodes and counts it judges
-- itself. The plans take from them where an expression ends and which instructions its items are (`is_last`, `own_instrs`).
-- `Spells` takes nothing from reading functions; that a reading is complete exactly where bytes spell a module within the
-- limits is a law.
abbrev pub Fault : Bounds → List ℕ → DecodeFault → Type 0
Fault most bytes f = StopsAt (module_plan most (length bytes)) (whole_file bytes) f

-- What a refusal is: the bytes' fault, or want of memory.
abbrev pub Refused : Bounds → List ℕ → DecodeFault → Type 0
Refused most bytes OutOfMemory = Unit {0}
Refused most bytes (Malformed at w) = Fault most bytes (Malformed at w)
Refused most bytes (Limit at w) = Fault most bytes (Limit at w)
