-- Reading sections and whole modules (Core Specification, 5.5).
use Rattle.std.specs.Prelude.{ℕ, zero, suc, nat_lt, nat_le, ◌==◌, not, ◌&&◌, if◌then◌else◌, List, [], ◌∷◌, ◌++◌, length, map, Some, None, Result, Ok, Err}
use Rattle.wasm_syntax.specs.declared.module.Global.{Global}
use Rattle.wasm_syntax.specs.declared.module.Func.{Func}
use Rattle.wasm_syntax.specs.declared.module.Elem.{Elem}
use Rattle.wasm_syntax.specs.declared.module.Segment.{Segment}
use Rattle.wasm_syntax.specs.declared.module.Module.{Module}
use Rattle.wasm_syntax.specs.declared.module.Marks.{Marks}
use Rattle.binary_grammar.specs.declared.fault.DecodeFault.{DecodeFault}
use Rattle.binary_grammar.specs.declared.fault.DecodeFault.TheVariants.{Malformed}
use Rattle.binary_grammar.specs.declared.fault.DecodeWord.TheVariants as word
use Rattle.wasm_values.specs.declared.limit.LimitWord.TheVariants as limit
use Rattle.binary_grammar.specs.declared.section.Body.{Body}
use Rattle.binary_grammar.specs.declared.section.Section.{Section}
use Rattle.binary_grammar.specs.declared.section.Section.TheVariants as section
use Rattle.binary_grammar.specs.declared.section.Draft.{Draft}
use Rattle.binary_grammar.specs.declared.section.Decoded.{Decoded}
use Rattle.binary_grammar.specs.Bounds.{Bounds}
use Rattle.binary_grammar.specs.words.Reading.{◌>>=◌, Reader, place, then_at, done_at, byte_at, number_at, entries_at, vector_at, limited_at, list_at, bytes_at, name_at, sized_at}
use Rattle.binary_grammar.specs.words.TypeReading.{func_type_at, limits_at, table_type_at, global_type_at, import_at, export_at}
use Rattle.binary_grammar.specs.words.CodeReading.{instrs_at, body_at}

-- A global (5.5.9). Of its expression at most so many blocks are open at once.
unfoldable pub global_at : ℕ → Reader Global
global_at nesting = then_at global_type_at (λ t. then_at (instrs_at nesting) (λ init. done_at (record { ty = t; init = init })))

-- An element segment, likewise (5.5.12).
unfoldable pub elem_at : ℕ → Reader Elem
elem_at nesting =
    then_at number_at (λ table. then_at (instrs_at nesting) (λ offset. then_at (list_at number_at) (λ funcs.
    done_at (record { table = table; offset = offset; funcs = funcs }))))

-- A data segment, likewise (5.5.14).
unfoldable pub segment_at : ℕ → Reader Segment
segment_at nesting =
    then_at number_at (λ memory. then_at (instrs_at nesting) (λ offset. then_at bytes_at (λ contents.
    done_at (record { memory = memory; offset = offset; bytes = contents }))))

-- A custom section's contents are a name and whatever follows it.
unfoldable pub custom_at : Reader Section
custom_at end bytes = name_at end bytes >>= λ name. Ok (section.Custom name.0 name.1, [])

-- The bodies are as many as the declared functions.
unfoldable pub bodies_at : Bounds → ℕ → Reader Section
bodies_at most declared end bytes = do
  n ← number_at end bytes
  if n.0 == declared then (entries_at (body_at most.locals most.nesting) n.0 end n.1 >>= λ x. Ok (section.Bodies x.0.0, x.1))
      else Err (Malformed (place end bytes) word.Count)

-- The types, at most so many (5.5.4).
unfoldable pub types_at : Bounds → Reader Section
types_at most = then_at (limited_at (func_type_at most.params) most.types limit.Types) (λ x. done_at (section.Types x.0 x.1))

-- The imports, at most so many (5.5.5).
unfoldable pub imports_at : Bounds → Reader Section
imports_at most = then_at (limited_at import_at most.imports limit.Imports) (λ x. done_at (section.Imports x.0 x.1))

-- The types of functions, by their numbers, at most so many (5.5.6).
unfoldable pub funcs_at : Bounds → Reader Section
funcs_at most = then_at (limited_at number_at most.functions limit.Functions) (λ x. done_at (section.Funcs x.0 x.1))

-- The tables (5.5.7).
unfoldable pub tables_at : Reader Section
tables_at = then_at (vector_at table_type_at) (λ x. done_at (section.Tables x.0 x.1))

-- The memories (5.5.8).
unfoldable pub memories_at : Reader Section
memories_at = then_at (vector_at limits_at) (λ x. done_at (section.Memories x.0 x.1))

-- The globals, at most so many (5.5.9).
unfoldable pub globals_at : Bounds → Reader Section
globals_at most = then_at (limited_at (global_at most.nesting) most.globals limit.Globals) (λ x. done_at (section.Globals x.0 x.1))

-- The exports (5.5.10).
unfoldable pub exports_at : Reader Section
exports_at = then_at (vector_at export_at) (λ x. done_at (section.Exports x.0 x.1))

-- The start function, with its place (5.5.11).
unfoldable pub start_at : Reader Section
start_at end bytes = number_at end bytes >>= λ x. Ok (section.Start x.0 (place end bytes), x.1)

-- The element segments (5.5.12).
unfoldable pub elems_at : Bounds → Reader Section
elems_at most = then_at (vector_at (elem_at most.nesting)) (λ x. done_at (section.Elems x.0 x.1))

-- The data segments (5.5.14).
unfoldable pub segments_at : Bounds → Reader Section
segments_at most = then_at (vector_at (segment_at most.nesting)) (λ x. done_at (section.Segments x.0 x.1))

-- The contents of the section with an id.
unfoldable pub contents_at : Bounds → ℕ → ℕ → Reader Section
contents_at most declared id end bytes =
    if id == 0 then custom_at end bytes else
    (if id == 1 then types_at most end bytes else
    (if id == 2 then imports_at most end bytes else
    (if id == 3 then funcs_at most end bytes else
    (if id == 4 then tables_at end bytes else
    (if id == 5 then memories_at end bytes else
    (if id == 6 then globals_at most end bytes else
    (if id == 7 then exports_at end bytes else
    (if id == 8 then start_at end bytes else
    (if id == 9 then elems_at most end bytes else
    (if id == 10 then bodies_at most declared end bytes else segments_at most end bytes))))))))))

-- A section's id: from 0 to 11, and greater than the last one unless it is custom.
unfoldable pub id_at : ℕ → Reader ℕ
id_at last end bytes = do
  b ← byte_at end bytes
  if nat_lt 11 b.0 then Err (Malformed (place end bytes) word.Byte) else
      (if not (b.0 == 0) && nat_le b.0 last then Err (Malformed (place end bytes) word.Order) else Ok b)

-- A section: its id, its size, and its contents in a region of that size.
unfoldable pub section_at : Bounds → ℕ → ℕ → Reader Section
section_at most last declared = then_at (id_at last) (λ id. sized_at (contents_at most declared id))

-- The id of the last section with an entry, behind a section with so many entries.
abbrev pub after_of : ℕ → ℕ → ℕ → ℕ
after_of old id entries = if entries == 0 then old else id

-- A module of which a further section was read.
abbrev pub with_section : Draft → Section → Draft
with_section d (section.Custom name bytes) =
    record d { «module» = record d.module { customs = d.module.customs ++ record { after = d.after; name = name; bytes = bytes } ∷ [] } }
with_section d (section.Types es ps) =
    record d { «module» = record d.module { types = es }; marks = record d.marks { types = ps }; last = 1; after = after_of d.after 1 (length es) }
with_section d (section.Imports es ps) =
    record d { «module» = record d.module { imports = es }; marks = record d.marks { imports = ps }; last = 2; after = after_of d.after 2 (length es) }
with_section d (section.Funcs es ps) =
    record d { declared = es; marks = record d.marks { funcs = ps }; last = 3; after = after_of d.after 3 (length es) }
with_section d (section.Tables es ps) =
    record d { «module» = record d.module { tables = es }; marks = record d.marks { tables = ps }; last = 4; after = after_of d.after 4 (length es) }
with_section d (section.Memories es ps) =
    record d { «module» = record d.module { memories = es }; marks = record d.marks { memories = ps }; last = 5; after = after_of d.after 5 (length es) }
with_section d (section.Globals es ps) =
    record d { «module» = record d.module { globals = es }; marks = record d.marks { globals = ps }; last = 6; after = after_of d.after 6 (length es) }
with_section d (section.Exports es ps) =
    record d { «module» = record d.module { exports = es }; marks = record d.marks { exports = ps }; last = 7; after = after_of d.after 7 (length es) }
with_section d (section.Start n p) =
    record d { «module» = record d.module { start = Some n }; marks = record d.marks { start = p }; last = 8; after = 8 }
with_section d (section.Elems es ps) =
    record d { «module» = record d.module { elems = es }; marks = record d.marks { elems = ps }; last = 9; after = after_of d.after 9 (length es) }
with_section d (section.Bodies bs) =
    record d { bodies = bs; last = 10; after = after_of d.after 10 (length bs) }
with_section d (section.Segments es ps) =
    record d { «module» = record d.module { segments = es }; marks = record d.marks { segments = ps }; last = 11; after = after_of d.after 11 (length es) }

-- a module with nothing in it
abbrev pub no_module : Module
no_module = record { types = []; imports = []; funcs = []; tables = []; memories = []; globals = []; exports = []; start = None; elems = []; segments = []; customs = [] }

-- the marks of a module with nothing in it, before its length is known
abbrev pub no_marks : Marks
no_marks = record { len = 0; types = []; imports = []; funcs = []; tables = []; memories = []; globals = []; exports = []; start = 0; elems = []; segments = []; code = [] }

-- A module of which no section was read.
abbrev pub no_sections : Draft
no_sections = record { «module» = no_module; marks = no_marks; declared = []; bodies = []; last = 0; after = 0 }

-- Sections one after another up to the end of the bytes; at most so many.
unfoldable pub sections_at : Bounds → ℕ → Draft → ℕ → List ℕ → Result Draft DecodeFault
sections_at most zero d end bytes = Ok d
sections_at most (suc n) d end [] = Ok d
sections_at most (suc n) d end (b ∷ bs) = do
  s ← section_at most d.last (length d.declared) end (b ∷ bs)
  sections_at most n (with_section d s.0) end s.1

-- The functions of these types and bodies.
abbrev pub funcs_of : List ℕ → List Body → List Func
funcs_of (t ∷ ts) (b ∷ bs) = record { ty = t; locals = b.locals; body = b.code } ∷ funcs_of ts bs
funcs_of _ _ = []

-- The places of the instructions of each body.
abbrev pub places_of : List Body → List (List ℕ)
places_of = map (λ b. b.places)

-- The module and its marks, behind the last section.
abbrev pub whole_module : ℕ → Draft → Decoded
whole_module len d = record {
  «module» = record d.module { funcs = funcs_of d.declared d.bodies };
  marks = record d.marks { len = len; code = places_of d.bodies };
}

-- At the end each declared function has its body.
unfoldable pub finished_at : ℕ → Draft → Result Decoded DecodeFault
finished_at len d = if length d.bodies == length d.declared then Ok (whole_module len d) else Err (Malformed len word.Count)

-- The magic and the version, with which a module begins (5.5.15).
abbrev pub header : List ℕ
header = 0x00 ∷ 0x61 ∷ 0x73 ∷ 0x6d ∷ 0x01 ∷ 0x00 ∷ 0x00 ∷ 0x00 ∷ []

-- The bytes behind a front that must be these bytes.
unfoldable pub magic_at : List ℕ → ℕ → List ℕ → Result (List ℕ) DecodeFault
magic_at [] end bytes = Ok bytes
magic_at (h ∷ hs) end [] = Err (Malformed end word.End)
magic_at (h ∷ hs) end (b ∷ bs) = if b == h then magic_at hs end bs else Err (Malformed (place end (b ∷ bs)) word.Magic)

-- The bytes behind the header. Fewer bytes than a header has end too early, whatever they are.
unfoldable pub header_at : ℕ → List ℕ → Result (List ℕ) DecodeFault
header_at end bytes = if nat_lt (length bytes) 8 then Err (Malformed end word.End) else magic_at header end bytes

-- All of the bytes, read as a module within these limits: the module and its marks, or the first fault.
unfoldable pub module_at : Bounds → List ℕ → Result Decoded DecodeFault
module_at most bytes = do
  rest ← header_at (length bytes) bytes
  d ← sections_at most (length rest) no_sections (length bytes) rest
  finished_at (length bytes) d
