-- The first fault of a module that isn't valid: sections in the order of their ids (Core Specification, section 5.5.2),
-- entries and instructions in the order of the file, and of an entry or instruction the first of its conditions that fails.
use Rattle.std.specs.Prelude.{◌≡◌, ℕ, ◌+◌, ◌<◌, ◌^◌, ◌⊎◌, Bool, true, false, ◌&&◌, not, nat_eq, nat_lt, nat_le, List, [], ◌∷◌, length, map, take, slice_get, is_some, Option, Some, None, IfSome, if◌then◌else◌}
use Rattle.std.specs.List.{filter_map, list_any, list_all}
use Rattle.std.specs.Option.{unwrap_or}
use Rattle.std.specs.Str.{bytes_eq}
use Rattle.wasm_values.specs.declared.number.ValType.{ValType}
use Rattle.wasm_values.specs.declared.number.ValType.TheVariants.{I32}
use Rattle.wasm_values.specs.Types.{is_same_type, are_same_types, is_at_most}
use Rattle.wasm_syntax.specs.declared.instr.Plain.{Plain}
use Rattle.wasm_syntax.specs.declared.instr.Plain.TheVariants.{MemorySize, MemoryGrow}
use Rattle.wasm_syntax.specs.declared.instr.Instr as source
use Rattle.wasm_syntax.specs.declared.instr.Instr.{Instr}
use Rattle.wasm_syntax.specs.declared.flat.Flat.{Flat}
use Rattle.wasm_syntax.specs.declared.flat.Flat.TheVariants.{One}
use Rattle.wasm_syntax.specs.declared.module.FuncType.{FuncType}
use Rattle.wasm_syntax.specs.declared.module.GlobalType.{GlobalType}
use Rattle.wasm_syntax.specs.declared.module.Limits.{Limits}
use Rattle.wasm_syntax.specs.declared.module.Import.{Import}
use Rattle.wasm_syntax.specs.declared.module.ImportKind.{ImportKind}
use Rattle.wasm_syntax.specs.declared.module.ImportKind.TheVariants as import
use Rattle.wasm_syntax.specs.declared.module.Export.{Export}
use Rattle.wasm_syntax.specs.declared.module.ExportKind.{ExportKind}
use Rattle.wasm_syntax.specs.declared.module.ExportKind.TheVariants as export
use Rattle.wasm_syntax.specs.declared.module.Global.{Global}
use Rattle.wasm_syntax.specs.declared.module.Func.{Func}
use Rattle.wasm_syntax.specs.declared.module.Elem.{Elem}
use Rattle.wasm_syntax.specs.declared.module.Segment.{Segment}
use Rattle.wasm_syntax.specs.declared.module.Module.{Module}
use Rattle.wasm_syntax.specs.declared.module.Marks.{Marks}
use Rattle.wasm_syntax.specs.FlatForm.{flat_body}
use Rattle.wasm_typing.specs.declared.fault.ValidWord.{ValidWord}
use Rattle.wasm_typing.specs.declared.fault.ValidWord.TheVariants as word
use Rattle.wasm_typing.specs.declared.fault.ValidFault.{ValidFault}
use Rattle.wasm_typing.specs.declared.fault.ValidFault.TheVariants.{Invalid, OutOfMemory}
use Rattle.wasm_syntax.specs.Accesses.{bytes_loaded, bytes_stored}
use Rattle.wasm_typing.specs.Typing.{Types, Context}
use Rattle.wasm_typing.specs.faults.Open.{labels_of, parts_before, TypedThrough}
use Rattle.wasm_typing.specs.Valid.{func_types_of, funcs_of, tables_of, memories_of, globals_of, imported_globals_of, context_of, table_import, memory_import, const_type, FuncValid}

-- The fault of a refusal, its place and word, where it is no want of memory.
abbrev pub fault_of : ValidFault → Option (ℕ × ValidWord)
fault_of (Invalid at w) = Some (at, w)
fault_of OutOfMemory = None

-- ---- rows: conditions with their words

-- A condition, and the word of the fault where it fails.
pub record Condition : Type 0 where
  pub holds : Bool
  pub word : ValidWord

-- this condition, with this word
abbrev pub condition : Bool → ValidWord → Condition
condition b w = record { holds = b; word = w }

-- The word of the first condition that fails, if one does.
abbrev pub first_failing : List Condition → Option ValidWord
first_failing [] = None
first_failing (c ∷ cs) = if c.holds then first_failing cs else Some c.word

-- A number, if there is one, is at most a bound.
abbrev pub is_within : Option ℕ → ℕ → Bool
is_within None bound = true
is_within (Some n) bound = nat_le n bound

-- A memory's minimum is at most its maximum, and both are at most 65,536 pages (section 3.2.4).
abbrev pub are_pages : Limits → Bool
are_pages l = is_at_most l.min l.max && (nat_le l.min 65536 && is_within l.max 65536)

-- There is a type, and it is this one.
abbrev pub has_type : Option ValType → ValType → Bool
has_type None t = false
has_type (Some s) t = is_same_type s t

-- A function type: `type` where there is more than one result.
abbrev pub type_fault : FuncType → Option ValidWord
type_fault ty = first_failing (condition (nat_le (length ty.results) 1) word.WrongType ∷ [])

-- A table: `count` where it isn't the first, imports counted; `limits` where the minimum is over the maximum.
abbrev pub table_fault : (is_first : Bool) → Limits → Option ValidWord
table_fault is_first l = first_failing (condition is_first word.Count ∷ condition (is_at_most l.min l.max) word.Limits ∷ [])

-- A memory likewise: `limits` also where it passes 65,536 pages.
abbrev pub memory_fault : (is_first : Bool) → Limits → Option ValidWord
memory_fault is_first l = first_failing (condition is_first word.Count ∷ condition (are_pages l) word.Limits ∷ [])

-- An import, of so many types: `index` for an unknown type, and a table or memory as above.
abbrev pub import_row : (count : ℕ) → (is_first_table is_first_memory : Bool) → ImportKind → Option ValidWord
import_row count is_first_table is_first_memory (import.Func t) = first_failing (condition (nat_lt t count) word.Index ∷ [])
import_row count is_first_table is_first_memory (import.Table l) = table_fault is_first_table l
import_row count is_first_table is_first_memory (import.Memory l) = memory_fault is_first_memory l
import_row count is_first_table is_first_memory (import.Global g) = None

-- The n-th import, after those before it.
abbrev pub import_fault : Module → ℕ → Import → Option ValidWord
import_fault m n i =
    let before = take n m.imports in
    import_row (length m.types)
    (nat_eq (length (filter_map (λ (j : Import). table_import j.kind) before)) 0)
    (nat_eq (length (filter_map (λ (j : Import). memory_import j.kind) before)) 0)
    i.kind

-- A function: `index` for an unknown type.
abbrev pub func_fault : Module → Func → Option ValidWord
func_fault m f = first_failing (condition (nat_lt f.ty (length m.types)) word.Index ∷ [])

-- A global: `const` where its expression is none over imported immutable globals; `type` where it has another type.
abbrev pub global_fault : Module → Global → Option ValidWord
global_fault m g =
    let ty = const_type (imported_globals_of m) g.init in
    first_failing (condition (is_some ty) word.Const ∷ condition (has_type ty g.ty.value) word.WrongType ∷ [])

-- What an export names exists.
abbrev pub names_one : Module → ExportKind → Bool
names_one m (export.Func f) = nat_lt f (length (func_types_of m))
names_one m (export.Table t) = nat_lt t (length (tables_of m))
names_one m (export.Memory k) = nat_lt k (length (memories_of m))
names_one m (export.Global g) = nat_lt g (length (globals_of m))

-- An export after those of these names: `index` where what it names doesn't exist; `export` for a name used before.
abbrev pub export_row : Module → List (List ℕ) → Export → Option ValidWord
export_row m names e =
    first_failing (
    condition (names_one m e.kind) word.Index ∷
    condition (not (list_any (bytes_eq e.name) names)) word.Export ∷ [])

-- The n-th export, after those before it.
abbrev pub export_fault : Module → ℕ → Export → Option ValidWord
export_fault m n e = export_row m (map (λ (o : Export). o.name) (take n m.exports)) e

-- There is a function type, and it is `[] -> []`.
abbrev pub is_empty_type : Option FuncType → Bool
is_empty_type None = false
is_empty_type (Some ty) = nat_eq (length ty.params) 0 && nat_eq (length ty.results) 0

-- The start function: `index` where it doesn't exist; `start` unless its type is `[] -> []`.
abbrev pub start_fault : Module → ℕ → Option ValidWord
start_fault m f =
    first_failing (
    condition (nat_lt f (length (func_types_of m))) word.Index ∷
    condition (is_empty_type (slice_get (funcs_of m) f)) word.Start ∷ [])

-- An element segment: `index` where the table doesn't exist; `const` where the offset is no constant expression; `type`
-- where that is no i32; `index` for an unknown function.
abbrev pub elem_fault : Module → Elem → Option ValidWord
elem_fault m e =
    let ty = const_type (globals_of m) e.offset in
    first_failing (
    condition (nat_lt e.table (length (tables_of m))) word.Index ∷
    condition (is_some ty) word.Const ∷
    condition (has_type ty I32) word.WrongType ∷
    condition (list_all (λ f. nat_lt f (length (func_types_of m))) e.funcs) word.Index ∷ [])

-- A data segment: `index` where the memory doesn't exist; `const` and `type` as above.
abbrev pub segment_fault : Module → Segment → Option ValidWord
segment_fault m s =
    let ty = const_type (globals_of m) s.offset in
    first_failing (
    condition (nat_lt s.memory (length (memories_of m))) word.Index ∷
    condition (is_some ty) word.Const ∷
    condition (has_type ty I32) word.WrongType ∷ [])

-- ---- instructions

-- There is a global type, and it is mutable.
abbrev pub is_mutable : Option GlobalType → Bool
is_mutable None = false
is_mutable (Some g) = g.mutable

-- There is a label, and a branch to it takes these types.
abbrev pub is_label_of : Option Types → Types → Bool
is_label_of None ts = false
is_label_of (Some us) ts = are_same_types us ts

-- The targets of a `br_table` exist, and a branch to each takes what one to the last takes.
abbrev pub are_targets : List Types → List ℕ → Option Types → Bool
are_targets labels ls None = false
are_targets labels ls (Some ts) = list_all (λ l. is_label_of (slice_get labels l) ts) ls

-- What an instruction without immediates needs beside its operands: `memory.size` and `memory.grow` need a memory.
abbrev pub plain_conditions : Context → Plain → List Condition
plain_conditions c MemorySize = condition (nat_lt 0 (length c.memories)) word.Index ∷ []
plain_conditions c MemoryGrow = condition (nat_lt 0 (length c.memories)) word.Index ∷ []
plain_conditions c _ = []

-- What an instruction needs beside its operands, under labels of these types: `index` where what it names doesn't exist;
-- `label` where a label is too deep, or the targets of `br_table` differ in what a branch takes; `align` where the alignment
-- is over the access width; `type` at a set of an immutable global.
abbrev pub conditions : Context → List Types → Instr → List Condition
conditions c labels (source.Plain op) = plain_conditions c op
conditions c labels (source.LocalGet x) = condition (is_some (slice_get c.locals x)) word.Index ∷ []
conditions c labels (source.LocalSet x) = condition (is_some (slice_get c.locals x)) word.Index ∷ []
conditions c labels (source.LocalTee x) = condition (is_some (slice_get c.locals x)) word.Index ∷ []
conditions c labels (source.GlobalGet x) = condition (is_some (slice_get c.globals x)) word.Index ∷ []
conditions c labels (source.GlobalSet x) =
    condition (is_some (slice_get c.globals x)) word.Index ∷ condition (is_mutable (slice_get c.globals x)) word.WrongType ∷ []
conditions c labels (source.Load op align offset) =
    condition (nat_lt 0 (length c.memories)) word.Index ∷ condition (nat_le (2 ^ align) (bytes_loaded op)) word.Align ∷ []
conditions c labels (source.Store op align offset) =
    condition (nat_lt 0 (length c.memories)) word.Index ∷ condition (nat_le (2 ^ align) (bytes_stored op)) word.Align ∷ []
conditions c labels (source.Br l) = condition (is_some (slice_get labels l)) word.Label ∷ []
conditions c labels (source.BrIf l) = condition (is_some (slice_get labels l)) word.Label ∷ []
conditions c labels (source.BrTable ls l) = condition (are_targets labels ls (slice_get labels l)) word.Label ∷ []
conditions c labels (source.Call f) = condition (is_some (slice_get c.funcs f)) word.Index ∷ []
conditions c labels (source.CallIndirect t) =
    condition (nat_lt 0 (length c.tables) && is_some (slice_get c.types t)) word.Index ∷ []
conditions c labels _ = []

-- The first fault of an item beside its operands, if there is one.
abbrev pub item_fault : Context → List Types → Flat → Option ValidWord
item_fault c labels (One i) = first_failing (conditions c labels i)
item_fault c labels _ = None

-- The word of an item through which a body has no typing: the first of its conditions that fails, or else `stack`.
abbrev pub item_word : Context → List Types → Flat → ValidWord
item_word c labels x = unwrap_or (item_fault c labels x) word.Stack

-- ---- the first fault

-- No entry of a list has a fault.
abbrev pub NoFault : {X : Type 0} → (ℕ → X → Option ValidWord) → List X → Type 0
NoFault {X} fault xs = (n : ℕ) (x : X) → slice_get xs n ≡ Some x → fault n x ≡ None

-- An entry of a list is the first with a fault; this is its place, and the word of the first condition that fails.
pub record FirstFault {X : Type 0} (fault : ℕ → X → Option ValidWord) (xs : List X) (places : List ℕ) (at : ℕ) (w : ValidWord) : Type 0 where
  pub entry : ℕ
  pub item : X
  pub there : slice_get xs entry ≡ Some item
  pub before : (n : ℕ) (x : X) → n < entry → slice_get xs n ≡ Some x → fault n x ≡ None
  pub here : fault entry item ≡ Some w
  pub place : slice_get places entry ≡ Some at

-- An item of a body is the first through which it has no typing; this is its place, and the word of the first condition
-- that fails.
pub record BodyFault (c : Context) (body : List Instr) (places : List ℕ) (at : ℕ) (w : ValidWord) : Type 0 where
  pub number : ℕ
  pub item : Flat
  pub there : slice_get (flat_body body) number ≡ Some item
  pub before : (n : ℕ) → n < number → TypedThrough c body n
  pub here : TypedThrough c body number → ⊥
  pub word_is : w ≡ item_word c (labels_of c (parts_before body number)) item
  pub place : slice_get places number ≡ Some at

-- A function's body is the first that isn't valid, and this is its fault.
pub record CodeFault (m : Module) (code : List (List ℕ)) (at : ℕ) (w : ValidWord) : Type 0 where
  pub number : ℕ
  pub func : Func
  pub there : slice_get m.funcs number ≡ Some func
  pub before : (n : ℕ) (f : Func) → n < number → slice_get m.funcs n ≡ Some f → FuncValid m f
  pub places : List ℕ
  pub marked : slice_get code number ≡ Some places
  pub body : BodyFault (context_of m func) func.body places at w

-- The bodies are valid.
abbrev pub BodiesValid : Module → Type 0
BodiesValid m = (n : ℕ) (f : Func) → slice_get m.funcs n ≡ Some f → FuncValid m f

-- A section has the first fault, or none, and then what comes later has it.
abbrev pub In : (fails holds later : Type 0) → Type 0
In fails holds later = fails ⊎ (holds × later)

-- The start function's fault.
abbrev pub StartFault : Module → Option ℕ → ℕ → ℕ → ValidWord → Type 0
StartFault m None place at w = ⊥
StartFault m (Some f) place at w = (start_fault m f ≡ Some w) × (at ≡ place)

-- The tables that are imported come first.
abbrev pub module_table_fault : Module → ℕ → Limits → Option ValidWord
module_table_fault m n l = table_fault (nat_eq (length (filter_map (λ (j : Import). table_import j.kind) m.imports) + n) 0) l

-- The memories that are imported come first.
abbrev pub module_memory_fault : Module → ℕ → Limits → Option ValidWord
module_memory_fault m n l = memory_fault (nat_eq (length (filter_map (λ (j : Import). memory_import j.kind) m.imports) + n) 0) l

-- The first fault of a module with these marks: its place and word. Types, imports, functions, tables, memories, globals,
-- exports, the start function, element segments, bodies and data segments are looked at in this order, which is that of
-- the section ids.
abbrev pub InvalidAt : Module → Marks → ℕ → ValidWord → Type 0
InvalidAt m k at w =
    In (FirstFault (λ n. type_fault) m.types k.types at w) (NoFault (λ n. type_fault) m.types) (
    In (FirstFault (import_fault m) m.imports k.imports at w) (NoFault (import_fault m) m.imports) (
    In (FirstFault (λ n. func_fault m) m.funcs k.funcs at w) (NoFault (λ n. func_fault m) m.funcs) (
    In (FirstFault (module_table_fault m) m.tables k.tables at w) (NoFault (module_table_fault m) m.tables) (
    In (FirstFault (module_memory_fault m) m.memories k.memories at w) (NoFault (module_memory_fault m) m.memories) (
    In (FirstFault (λ n. global_fault m) m.globals k.globals at w) (NoFault (λ n. global_fault m) m.globals) (
    In (FirstFault (export_fault m) m.exports k.exports at w) (NoFault (export_fault m) m.exports) (
    In (StartFault m m.start k.start at w) (IfSome m.start (λ f. start_fault m f ≡ None)) (
    In (FirstFault (λ n. elem_fault m) m.elems k.elems at w) (NoFault (λ n. elem_fault m) m.elems) (
    In (CodeFault m k.code at w) (BodiesValid m) (
    FirstFault (λ n. segment_fault m) m.segments k.segments at w))))))))))

-- No entry of a module has a fault.
pub record HasNoFault (m : Module) : Type 0 where
  pub types : NoFault (λ n. type_fault) m.types
  pub imports : NoFault (import_fault m) m.imports
  pub funcs : NoFault (λ n. func_fault m) m.funcs
  pub tables : NoFault (module_table_fault m) m.tables
  pub memories : NoFault (module_memory_fault m) m.memories
  pub globals : NoFault (λ n. global_fault m) m.globals
  pub exports : NoFault (export_fault m) m.exports
  pub start : IfSome m.start (λ f. start_fault m f ≡ None)
  pub elems : NoFault (λ n. elem_fault m) m.elems
  pub bodies : BodiesValid m
  pub segments : NoFault (λ n. segment_fault m) m.segments

-- The marks have one place for each entry and each instruction.
pub record Marked (m : Module) (k : Marks) : Type 0 where
  pub types : length k.types ≡ length m.types
  pub imports : length k.imports ≡ length m.imports
  pub funcs : length k.funcs ≡ length m.funcs
  pub tables : length k.tables ≡ length m.tables
  pub memories : length k.memories ≡ length m.memories
  pub globals : length k.globals ≡ length m.globals
  pub exports : length k.exports ≡ length m.exports
  pub elems : length k.elems ≡ length m.elems
  pub segments : length k.segments ≡ length m.segments
  pub code : length k.code ≡ length m.funcs
  pub items : (n : ℕ) (f : Func) (places : List ℕ) → slice_get m.funcs n ≡ Some f → slice_get k.code n ≡ Some places → length places ≡ length (flat_body f.body)
