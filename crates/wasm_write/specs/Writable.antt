-- Which modules can be written.
use Rattle.std.specs.Prelude.{◌≡◌, ℕ, ◌^◌, ◌<◌, ◌≤◌, ◌⊎◌, ◌==◌, if◌then◌else◌, List, [], ◌∷◌, length, Option, Some, None}
use Rattle.std.specs.List.{AllByRecursion}
use Rattle.std.specs.Str.{IsUtf8}
use Rattle.wasm_values.specs.declared.number.Val.{Val}
use Rattle.wasm_values.specs.declared.number.Val.TheVariants as val
use Rattle.wasm_syntax.specs.declared.module.FuncType.{FuncType}
use Rattle.wasm_syntax.specs.declared.module.Limits.{Limits}
use Rattle.wasm_syntax.specs.declared.module.Import.{Import}
use Rattle.wasm_syntax.specs.declared.module.ImportKind.{ImportKind}
use Rattle.wasm_syntax.specs.declared.module.ImportKind.TheVariants as import
use Rattle.wasm_syntax.specs.declared.module.Export.{Export}
use Rattle.wasm_syntax.specs.declared.module.Global.{Global}
use Rattle.wasm_syntax.specs.declared.module.Func.{Func}
use Rattle.wasm_syntax.specs.declared.module.Elem.{Elem}
use Rattle.wasm_syntax.specs.declared.module.Segment.{Segment}
use Rattle.wasm_syntax.specs.declared.module.Custom.{Custom}
use Rattle.wasm_syntax.specs.declared.module.Module.{Module}
use Rattle.wasm_syntax.specs.declared.instr.Instr.{Instr, Plain, Num, Const, LocalGet, LocalSet, LocalTee, GlobalGet, GlobalSet, Load, Store, Block', Loop', If', Br, BrIf, BrTable, Call, CallIndirect}
use Rattle.wasm_syntax.specs.declared.flat.Flat.{Flat}
use Rattle.wasm_syntax.specs.declared.flat.Flat.TheVariants as item
use Rattle.wasm_syntax.specs.FlatForm.{flat}
use Rattle.binary_grammar.specs.Grammar.{export_index}
use Rattle.binary_grammar.specs.Bounds.{the_bounds}
use Rattle.binary_grammar.specs.ModuleGrammar.{InLimits}
use Rattle.wasm_write.specs.Encoding.{vector_text, func_type_text, import_text, type_text, table_type_text, limits_text, global_text, export_text, elem_text, func_text, body_text, segment_text, custom_contents}

-- A number is a u32, as each count, length and size has to be.
abbrev pub IsU32 : ℕ → Type 0
IsU32 n = n < 2 ^ 32

-- There are few enough of these for a count.
abbrev pub IsCounted : {A : Type 0} → List A → Type 0
IsCounted xs = IsU32 (length xs)

-- A name has few enough bytes for a count, and is UTF-8 (5.2.4).
abbrev pub IsName : List ℕ → Type 0
IsName name = IsCounted name × IsUtf8 name

-- A number that may be left out is a u32 where it is there.
abbrev pub IsMaximum : Option ℕ → Type 0
IsMaximum None = Unit {0}
IsMaximum (Some n) = IsU32 n

-- The numbers of limits are u32 (5.3.4).
abbrev pub AreLimits : Limits → Type 0
AreLimits l = IsU32 l.min × IsMaximum l.max

-- A function type has few enough parameters and results for their counts (5.3.3).
abbrev pub TypeWritable : FuncType → Type 0
TypeWritable t = IsCounted t.params × IsCounted t.results

-- The numbers of what is imported are u32 (5.5.5).
abbrev pub ImportKindWritable : ImportKind → Type 0
ImportKindWritable (import.Func n) = IsU32 n
ImportKindWritable (import.Table l) = AreLimits l
ImportKindWritable (import.Memory l) = AreLimits l
ImportKindWritable (import.Global g) = Unit {0}

-- An import has two names, and numbers that can be written (5.5.5).
abbrev pub ImportWritable : Import → Type 0
ImportWritable i = IsName i.«module» × IsName i.name × ImportKindWritable i.kind

-- An export has a name, and an index that is a u32 (5.5.10).
abbrev pub ExportWritable : Export → Type 0
ExportWritable e = IsName e.name × IsU32 (export_index e.kind)

-- A constant's number is below 2 to the number of its type's bits (2.4.1).
abbrev pub ConstWritable : Val → Type 0
ConstWritable (val.I32 n) = n < 2 ^ 32
ConstWritable (val.I64 n) = n < 2 ^ 64

-- The numbers of an instruction are those of its form (section 2.4).
abbrev pub InstrWritable : Instr → Type 0
InstrWritable (Plain p) = Unit {0}
InstrWritable (Num n) = Unit {0}
InstrWritable (Const v) = ConstWritable v
InstrWritable (LocalGet x) = IsU32 x
InstrWritable (LocalSet x) = IsU32 x
InstrWritable (LocalTee x) = IsU32 x
InstrWritable (GlobalGet x) = IsU32 x
InstrWritable (GlobalSet x) = IsU32 x
InstrWritable (Load l a o) = IsU32 a × IsU32 o
InstrWritable (Store s a o) = IsU32 a × IsU32 o
InstrWritable (Block' t n is) = Unit {0}
InstrWritable (Loop' t n is) = Unit {0}
InstrWritable (If' t n is os) = Unit {0}
InstrWritable (Br l) = IsU32 l
InstrWritable (BrIf l) = IsU32 l
InstrWritable (BrTable ls l) = IsCounted ls × AllByRecursion IsU32 ls × IsU32 l
InstrWritable (Call f) = IsU32 f
InstrWritable (CallIndirect t) = IsU32 t

-- The numbers of an item that is a single instruction are those of its form. Other items have none.
abbrev pub ItemWritable : Flat → Type 0
ItemWritable (item.One i) = InstrWritable i
ItemWritable _ = Unit {0}

-- The instructions of an expression, those in blocks among them.
abbrev pub CodeWritable : List Instr → Type 0
CodeWritable is = AllByRecursion ItemWritable (flat is)

-- The code of a global's initial value can be written (5.5.9).
abbrev pub GlobalWritable : Global → Type 0
GlobalWritable g = CodeWritable g.init

-- A function's type index is a u32, the size of its locals and code is too, and its code can be written (5.5.6,
-- 5.5.13).
abbrev pub FuncWritable : Func → Type 0
FuncWritable f = IsU32 f.ty × IsCounted (body_text f) × CodeWritable f.body

-- An element segment's numbers are u32, it has few enough functions for a count, and its offset can be written
-- (5.5.12).
abbrev pub ElemWritable : Elem → Type 0
ElemWritable e = IsU32 e.table × CodeWritable e.offset × IsCounted e.funcs × AllByRecursion IsU32 e.funcs

-- A data segment's index is a u32, it has few enough bytes for a count, and its offset can be written (5.5.14).
abbrev pub SegmentWritable : Segment → Type 0
SegmentWritable s = IsU32 s.memory × CodeWritable s.offset × IsCounted s.bytes

-- A custom section has a name, and contents whose size is a u32 (5.5.3).
abbrev pub CustomWritable : Custom → Type 0
CustomWritable c = IsName c.name × IsCounted (custom_contents c)

-- How many entries the start section has: one, where there is a start function.
abbrev pub start_count : Option ℕ → ℕ
start_count None = 0
start_count (Some n) = 1

-- How many entries the section with an id has.
abbrev pub entries_of : Module → ℕ → ℕ
entries_of m id =
    if id == 1 then length m.types else
    (if id == 2 then length m.imports else
    (if id == 3 then length m.funcs else
    (if id == 4 then length m.tables else
    (if id == 5 then length m.memories else
    (if id == 6 then length m.globals else
    (if id == 7 then length m.exports else
    (if id == 8 then start_count m.start else
    (if id == 9 then length m.elems else
    (if id == 10 then length m.funcs else
    (if id == 11 then length m.segments else 0))))))))))

-- A custom section stands first, or behind a section that has an entry.
abbrev pub NamesSection : Module → Custom → Type 0
NamesSection m c = (c.after ≡ 0) ⊎ (0 < entries_of m c.after)

-- The ids that custom sections name never fall, from an id on.
abbrev pub NeverFalls : ℕ → List Custom → Type 0
NeverFalls low [] = Unit {0}
NeverFalls low (c ∷ cs) = (low ≤ c.after) × NeverFalls c.after cs

-- The contents of each section have a size below 2 ^ 32.
pub record SizesFit (m : Module) : Type 0 where
  pub types : IsCounted (vector_text func_type_text m.types)
  pub imports : IsCounted (vector_text import_text m.imports)
  pub funcs : IsCounted (vector_text type_text m.funcs)
  pub tables : IsCounted (vector_text table_type_text m.tables)
  pub memories : IsCounted (vector_text limits_text m.memories)
  pub globals : IsCounted (vector_text global_text m.globals)
  pub exports : IsCounted (vector_text export_text m.exports)
  pub elems : IsCounted (vector_text elem_text m.elems)
  pub bodies : IsCounted (vector_text func_text m.funcs)
  pub segments : IsCounted (vector_text segment_text m.segments)

-- A module can be written: each count, name's length and size is below 2 ^ 32, each number is in the range of its form,
-- each name is UTF-8, the limits of the decoder hold, and the custom sections stand in the order of the sections that
-- they name, which have entries.
pub record Writable (m : Module) : Type 0 where
  pub limits : InLimits the_bounds m
  pub sizes : SizesFit m
  pub each_type : AllByRecursion TypeWritable m.types
  pub imports : IsCounted m.imports
  pub each_import : AllByRecursion ImportWritable m.imports
  pub funcs : IsCounted m.funcs
  pub each_func : AllByRecursion FuncWritable m.funcs
  pub tables : IsCounted m.tables
  pub each_table : AllByRecursion AreLimits m.tables
  pub memories : IsCounted m.memories
  pub each_memory : AllByRecursion AreLimits m.memories
  pub globals : IsCounted m.globals
  pub each_global : AllByRecursion GlobalWritable m.globals
  pub exports : IsCounted m.exports
  pub each_export : AllByRecursion ExportWritable m.exports
  pub start : IsMaximum m.start
  pub elems : IsCounted m.elems
  pub each_elem : AllByRecursion ElemWritable m.elems
  pub segments : IsCounted m.segments
  pub each_segment : AllByRecursion SegmentWritable m.segments
  pub each_custom : AllByRecursion CustomWritable m.customs
  pub customs_order : NeverFalls 0 m.customs
  pub customs_place : AllByRecursion (NamesSection m) m.customs
