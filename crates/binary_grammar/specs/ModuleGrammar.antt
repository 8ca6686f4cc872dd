-- How sections and modules are spelled (Core Specification, 5.5).
use Rattle.std.specs.Prelude.{◌≡◌, ℕ, ◌+◌, ◌<◌, ◌≤◌, ◌⊎◌, ◌==◌, if◌then◌else◌, List, [], ◌∷◌, ◌++◌, length, map, Option, Some, None, unwrap_or}
use Rattle.std.specs.List.{AllByRecursion}
use Rattle.wasm_syntax.specs.declared.module.FuncType.{FuncType}
use Rattle.wasm_syntax.specs.declared.module.Limits.{Limits}
use Rattle.wasm_syntax.specs.declared.module.Import.{Import}
use Rattle.wasm_syntax.specs.declared.module.Export.{Export}
use Rattle.wasm_syntax.specs.declared.module.Global.{Global}
use Rattle.wasm_syntax.specs.declared.module.Func.{Func}
use Rattle.wasm_syntax.specs.declared.module.Elem.{Elem}
use Rattle.wasm_syntax.specs.declared.module.Segment.{Segment}
use Rattle.wasm_syntax.specs.declared.module.Custom.{Custom}
use Rattle.wasm_syntax.specs.declared.module.Module.{Module}
use Rattle.wasm_syntax.specs.declared.module.Marks.{Marks}
use Rattle.binary_grammar.specs.declared.section.Body.{Body}
use Rattle.binary_grammar.specs.declared.section.Section.{Section}
use Rattle.binary_grammar.specs.declared.section.Section.TheVariants as section
use Rattle.binary_grammar.specs.Bounds.{Bounds}
use Rattle.binary_grammar.specs.Grammar.{Spelling, Then, Done, Tagged, SpellsNumber, SpellsVector, SpellsList, SpellsBytes, SpellsName, SpellsFuncType, SpellsLimits, SpellsTableType, SpellsGlobalType, SpellsImport, SpellsExport}
use Rattle.binary_grammar.specs.CodeGrammar.{SpellsInstrs, Sized, SpellsBody, NestsAtMost}

-- A global (5.5.9).
unfoldable pub SpellsGlobal : Spelling Global
SpellsGlobal = Then SpellsGlobalType (λ t. Then SpellsInstrs (λ init. Done (record { ty = t; init = init })))

-- An element segment (5.5.12).
unfoldable pub SpellsElem : Spelling Elem
SpellsElem =
    Then SpellsNumber (λ table. Then SpellsInstrs (λ offset. Then (SpellsList SpellsNumber) (λ funcs.
    Done (record { table = table; offset = offset; funcs = funcs }))))

-- A data segment (5.5.14).
unfoldable pub SpellsSegment : Spelling Segment
SpellsSegment =
    Then SpellsNumber (λ memory. Then SpellsInstrs (λ offset. Then SpellsBytes (λ contents.
    Done (record { memory = memory; offset = offset; bytes = contents }))))

-- A section's id (5.5.2).
abbrev pub id_of : Section → ℕ
id_of (section.Custom name bytes) = 0
id_of (section.Types es ps) = 1
id_of (section.Imports es ps) = 2
id_of (section.Funcs es ps) = 3
id_of (section.Tables es ps) = 4
id_of (section.Memories es ps) = 5
id_of (section.Globals es ps) = 6
id_of (section.Exports es ps) = 7
id_of (section.Start n p) = 8
id_of (section.Elems es ps) = 9
id_of (section.Bodies bs) = 10
id_of (section.Segments es ps) = 11

-- A section's contents (5.5.3 to 5.5.14).
unfoldable pub SpellsContents : Spelling Section
SpellsContents at text (section.Custom name bytes) = (front : List ℕ) × (text ≡ front ++ bytes) × SpellsName at front name
SpellsContents at text (section.Types es ps) = SpellsVector SpellsFuncType at text (es, ps)
SpellsContents at text (section.Imports es ps) = SpellsVector SpellsImport at text (es, ps)
SpellsContents at text (section.Funcs es ps) = SpellsVector SpellsNumber at text (es, ps)
SpellsContents at text (section.Tables es ps) = SpellsVector SpellsTableType at text (es, ps)
SpellsContents at text (section.Memories es ps) = SpellsVector SpellsLimits at text (es, ps)
SpellsContents at text (section.Globals es ps) = SpellsVector SpellsGlobal at text (es, ps)
SpellsContents at text (section.Exports es ps) = SpellsVector SpellsExport at text (es, ps)
SpellsContents at text (section.Start n p) = SpellsNumber at text n × (p ≡ at)
SpellsContents at text (section.Elems es ps) = SpellsVector SpellsElem at text (es, ps)
SpellsContents at text (section.Bodies bs) = (ps : List ℕ) × SpellsVector SpellsBody at text (bs, ps)
SpellsContents at text (section.Segments es ps) = SpellsVector SpellsSegment at text (es, ps)

-- A section: its id, its size, and its contents (5.5.2).
unfoldable pub SpellsSection : Spelling Section
SpellsSection = Tagged (λ b at text s. (b ≡ id_of s) × Sized SpellsContents at text s)

-- Sections one after another.
abbrev pub InTurn : ℕ → List ℕ → List Section → Type 0
InTurn at text [] = text ≡ []
InTurn at text (s ∷ ss) = (first : List ℕ) × (second : List ℕ) × (text ≡ first ++ second) × SpellsSection at first s × InTurn (at + length first) second ss

-- Each section is custom, or has a greater id than the last before it that is not (5.5.2, 5.5.15).
abbrev pub Rising : ℕ → List Section → Type 0
Rising last [] = Unit {0}
Rising last (s ∷ ss) = ((id_of s ≡ 0) × Rising last ss) ⊎ ((last < id_of s) × Rising (id_of s) ss)

-- What the section of a kind gives, where there is one; else this.
abbrev pub given : {A : Type 0} → (Section → Option A) → A → List Section → A
given kind none [] = none
given kind none (s ∷ ss) = unwrap_or (kind s) (given kind none ss)

-- The kinds of sections that are not custom, each with what a section of it gives: its entries and their places. The first
-- is that of types (5.5.4).
abbrev pub type_section : Section → Option (List FuncType × List ℕ)
type_section (section.Types es ps) = Some (es, ps)
type_section _ = None

-- the imports (5.5.5)
abbrev pub import_section : Section → Option (List Import × List ℕ)
import_section (section.Imports es ps) = Some (es, ps)
import_section _ = None

-- the types of functions, by their numbers (5.5.6)
abbrev pub function_section : Section → Option (List ℕ × List ℕ)
function_section (section.Funcs es ps) = Some (es, ps)
function_section _ = None

-- the tables (5.5.7)
abbrev pub table_section : Section → Option (List Limits × List ℕ)
table_section (section.Tables es ps) = Some (es, ps)
table_section _ = None

-- the memories (5.5.8)
abbrev pub memory_section : Section → Option (List Limits × List ℕ)
memory_section (section.Memories es ps) = Some (es, ps)
memory_section _ = None

-- the globals (5.5.9)
abbrev pub global_section : Section → Option (List Global × List ℕ)
global_section (section.Globals es ps) = Some (es, ps)
global_section _ = None

-- the exports (5.5.10)
abbrev pub export_section : Section → Option (List Export × List ℕ)
export_section (section.Exports es ps) = Some (es, ps)
export_section _ = None

-- the start function and its place (5.5.11)
abbrev pub start_section : Section → Option (Option ℕ × ℕ)
start_section (section.Start n p) = Some (Some n, p)
start_section _ = None

-- the element segments (5.5.12)
abbrev pub element_section : Section → Option (List Elem × List ℕ)
element_section (section.Elems es ps) = Some (es, ps)
element_section _ = None

-- the bodies, each of which has the places of its instructions (5.5.13)
abbrev pub code_section : Section → Option (List Body)
code_section (section.Bodies bs) = Some bs
code_section _ = None

-- the data segments (5.5.14)
abbrev pub data_section : Section → Option (List Segment × List ℕ)
data_section (section.Segments es ps) = Some (es, ps)
data_section _ = None

-- The declared functions and the bodies are as many, and make the functions one by one (5.5.15).
abbrev pub AreFuncs : List ℕ → List Body → List Func → Type 0
AreFuncs [] [] [] = Unit {0}
AreFuncs (t ∷ ts) (b ∷ bs) (f ∷ fs) = (f ≡ record { ty = t; locals = b.locals; body = b.code }) × AreFuncs ts bs fs
AreFuncs _ _ _ = ⊥

-- How many entries a section has; a custom section has none.
abbrev pub entry_count : Section → ℕ
entry_count (section.Custom name bytes) = 0
entry_count (section.Types es ps) = length es
entry_count (section.Imports es ps) = length es
entry_count (section.Funcs es ps) = length es
entry_count (section.Tables es ps) = length es
entry_count (section.Memories es ps) = length es
entry_count (section.Globals es ps) = length es
entry_count (section.Exports es ps) = length es
entry_count (section.Start n p) = 1
entry_count (section.Elems es ps) = length es
entry_count (section.Bodies bs) = length bs
entry_count (section.Segments es ps) = length es

-- The id of the last section that has an entry, behind one more section.
abbrev pub last_filled : ℕ → Section → ℕ
last_filled last s = if entry_count s == 0 then last else id_of s

-- A section that is custom, with the id of the last section before it that has an entry.
abbrev pub if_custom : ℕ → Section → List Custom
if_custom last (section.Custom name bytes) = record { after = last; name = name; bytes = bytes } ∷ []
if_custom last _ = []

-- The custom sections, in their order.
abbrev pub customs_of : ℕ → List Section → List Custom
customs_of last [] = []
customs_of last (s ∷ ss) = if_custom last s ++ customs_of (last_filled last s) ss

-- What a module and its marks are, by the sections.
pub record AreParts (sections : List Section) (m : Module) (k : Marks) : Type 0 where
  pub types : (m.types, k.types) ≡ given type_section ([], []) sections
  pub imports : (m.imports, k.imports) ≡ given import_section ([], []) sections
  pub tables : (m.tables, k.tables) ≡ given table_section ([], []) sections
  pub memories : (m.memories, k.memories) ≡ given memory_section ([], []) sections
  pub globals : (m.globals, k.globals) ≡ given global_section ([], []) sections
  pub exports : (m.exports, k.exports) ≡ given export_section ([], []) sections
  pub start : (m.start, k.start) ≡ given start_section (None, 0) sections
  pub elems : (m.elems, k.elems) ≡ given element_section ([], []) sections
  pub segments : (m.segments, k.segments) ≡ given data_section ([], []) sections
  pub funcs : AreFuncs (given function_section ([], []) sections).0 (given code_section [] sections) m.funcs
  pub func_places : k.funcs ≡ (given function_section ([], []) sections).1
  pub code : k.code ≡ map (λ b. b.places) (given code_section [] sections)
  pub customs : m.customs ≡ customs_of 0 sections

-- A module begins with the magic (5.5.15).
abbrev pub magic : List ℕ
magic = 0x00 ∷ 0x61 ∷ 0x73 ∷ 0x6d ∷ []

-- The version follows the magic (5.5.15).
abbrev pub version : List ℕ
version = 0x01 ∷ 0x00 ∷ 0x00 ∷ 0x00 ∷ []

-- Bytes spell a module with its marks: they are the magic, the version and sections in their order, whose contents are the
-- parts of the module (5.5.15). This takes nothing from the reading functions.
unfoldable pub Spells : List ℕ → Module → Marks → Type 0
Spells bytes m k =
    (sections : List Section) × (rest : List ℕ) × (bytes ≡ magic ++ (version ++ rest)) × InTurn 8 rest sections × Rising 0 sections ×
    AreParts sections m k × (k.len ≡ length bytes)

-- A function type has at most so many parameters.
abbrev pub FuncTypeWithin : Bounds → FuncType → Type 0
FuncTypeWithin most t = length t.params ≤ most.params

-- Of the expression of a global at most so many blocks are open at once.
abbrev pub GlobalWithin : Bounds → Global → Type 0
GlobalWithin most g = NestsAtMost most.nesting g.init

-- The same of the offset of an element segment.
abbrev pub ElemWithin : Bounds → Elem → Type 0
ElemWithin most e = NestsAtMost most.nesting e.offset

-- The same of the offset of a data segment.
abbrev pub SegmentWithin : Bounds → Segment → Type 0
SegmentWithin most s = NestsAtMost most.nesting s.offset

-- A function declares at most so many locals, and of its body at most so many blocks are open at once.
abbrev pub FuncWithin : Bounds → Func → Type 0
FuncWithin most f = (length f.locals ≤ most.locals) × NestsAtMost most.nesting f.body

-- A module is within the limits of the decoder.
pub record InLimits (most : Bounds) (m : Module) : Type 0 where
  pub types : length m.types ≤ most.types
  pub imports : length m.imports ≤ most.imports
  pub functions : length m.funcs ≤ most.functions
  pub globals : length m.globals ≤ most.globals
  pub each_type : AllByRecursion (FuncTypeWithin most) m.types
  pub each_func : AllByRecursion (FuncWithin most) m.funcs
  pub each_global : AllByRecursion (GlobalWithin most) m.globals
  pub each_elem : AllByRecursion (ElemWithin most) m.elems
  pub each_segment : AllByRecursion (SegmentWithin most) m.segments
