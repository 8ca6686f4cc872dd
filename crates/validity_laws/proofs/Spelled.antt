-- The numbers of a module that bytes spell lie in the ranges of their types.
use Rattle.std.proofs.Common.{ℕ, ◌+◌, ◌<◌, if◌then◌else◌, ◌==◌, Bool, true, false, List, [], ◌∷◌, ◌++◌, length, IfSome, subst, arith}
use Rattle.std.specs.List.{AllByRecursion}
use Rattle.std.proofs.lemmas.List.Elements.{All-from_recursion, recursion_from_All}
use Rattle.wasm_syntax.specs.declared.module.Func.{Func}
use Rattle.wasm_syntax.specs.declared.module.Custom.{Custom}
use Rattle.wasm_syntax.specs.declared.module.Module.{Module}
use Rattle.wasm_syntax.specs.declared.module.Marks.{Marks}
use Rattle.wasm_typing.specs.Valid.{IsWord, LimitsInRange, BytesInRange, InRange}
use Rattle.binary_grammar.specs.declared.section.Body.{Body}
use Rattle.binary_grammar.specs.declared.section.Section.{Section}
use Rattle.binary_grammar.specs.declared.section.Section.TheVariants as section
use Rattle.binary_grammar.specs.declared.section.Draft.{Draft}
use Rattle.binary_grammar.specs.declared.section.Decoded.{Decoded}
use Rattle.binary_grammar.specs.Grammar.{SpellsNumber, SpellsTableType, SpellsLimits, SpellsImport, SpellsExport}
use Rattle.binary_grammar.specs.CodeGrammar.{SpellsBody}
use Rattle.binary_grammar.specs.words.SectionReading.{with_section, after_of, no_sections, whole_module, funcs_of, header}
use Rattle.binary_grammar.specs.ModuleGrammar.{SpellsGlobal, SpellsElem, SpellsSegment, SpellsContents, SpellsSection, InTurn, Spells}
use Rattle.binary_grammar.proofs.Drafts.{with_sections}
use Rattle.binary_grammar.proofs.DraftLaws.{drafted}
use Rattle.validity_laws.proofs.Ranges.{AreBytes, as_bytes, split_at, Gives, vector_gives, number_gives, name_gives, limits_give, table_gives, ImportIn, import_gives, ExportIn, export_gives, GlobalIn, global_gives, ElemIn, elem_gives, SegmentIn, segment_gives, InstrsIn, BodyIn, body_gives, sized_gives, tagged_gives}

-- ---- sections

-- the numbers of a section lie in their ranges
abbrev SectionIn : Section → Type 0
SectionIn (section.Custom name bytes) = BytesInRange name × BytesInRange bytes
SectionIn (section.Types es ps) = Unit {0}
SectionIn (section.Imports es ps) = AllByRecursion ImportIn es
SectionIn (section.Funcs es ps) = AllByRecursion IsWord es
SectionIn (section.Tables es ps) = AllByRecursion LimitsInRange es
SectionIn (section.Memories es ps) = AllByRecursion LimitsInRange es
SectionIn (section.Globals es ps) = AllByRecursion GlobalIn es
SectionIn (section.Exports es ps) = AllByRecursion ExportIn es
SectionIn (section.Start n p) = IsWord n
SectionIn (section.Elems es ps) = AllByRecursion ElemIn es
SectionIn (section.Bodies bs) = AllByRecursion BodyIn bs
SectionIn (section.Segments es ps) = AllByRecursion SegmentIn es

contents_give : Gives SpellsContents SectionIn
unfolding SpellsContents
contents_give at text (section.Custom name bytes) b h =
    let parts = split_at text h.0 bytes h.1 b in
    (name_gives at h.0 name parts.0 h.2, as_bytes bytes parts.1)
contents_give at text (section.Types es ps) b h = tt
contents_give at text (section.Imports es ps) b h = vector_gives SpellsImport ImportIn import_gives at text (es, ps) b h
contents_give at text (section.Funcs es ps) b h = vector_gives SpellsNumber IsWord number_gives at text (es, ps) b h
contents_give at text (section.Tables es ps) b h = vector_gives SpellsTableType LimitsInRange table_gives at text (es, ps) b h
contents_give at text (section.Memories es ps) b h = vector_gives SpellsLimits LimitsInRange limits_give at text (es, ps) b h
contents_give at text (section.Globals es ps) b h = vector_gives SpellsGlobal GlobalIn global_gives at text (es, ps) b h
contents_give at text (section.Exports es ps) b h = vector_gives SpellsExport ExportIn export_gives at text (es, ps) b h
contents_give at text (section.Start n p) b h = number_gives at text n b h.0
contents_give at text (section.Elems es ps) b h = vector_gives SpellsElem ElemIn elem_gives at text (es, ps) b h
contents_give at text (section.Bodies bs) b h = vector_gives SpellsBody BodyIn body_gives at text (bs, h.0) b h.1
contents_give at text (section.Segments es ps) b h = vector_gives SpellsSegment SegmentIn segment_gives at text (es, ps) b h

section_gives : Gives SpellsSection SectionIn
unfolding SpellsSection
section_gives = tagged_gives _ SectionIn (λ b at text s bytes h. sized_gives SpellsContents SectionIn contents_give at text s bytes h.1)

-- ---- drafts

abbrev CustomIn : Custom → Type 0
CustomIn s = (s.after < 256) × BytesInRange s.name × BytesInRange s.bytes

-- the numbers of a draft lie in their ranges
record DraftIn (d : Draft) : Type 0 where
  imports : AllByRecursion ImportIn d.module.imports
  declared : AllByRecursion IsWord d.declared
  bodies : AllByRecursion BodyIn d.bodies
  tables : AllByRecursion LimitsInRange d.module.tables
  memories : AllByRecursion LimitsInRange d.module.memories
  globals : AllByRecursion GlobalIn d.module.globals
  exports : AllByRecursion ExportIn d.module.exports
  start : IfSome d.module.start IsWord
  elems : AllByRecursion ElemIn d.module.elems
  segments : AllByRecursion SegmentIn d.module.segments
  customs : AllByRecursion CustomIn d.module.customs
  after : d.after < 256

none_in : DraftIn no_sections
none_in = record { imports = tt; declared = tt; bodies = tt; tables = tt; memories = tt; globals = tt; exports = tt; start = tt; elems = tt; segments = tt; customs = tt; after = omega arith }

one_more : {A : Type 0} (Q : A → Type 0) (xs : List A) (x : A) → AllByRecursion Q xs → Q x → AllByRecursion Q (xs ++ x ∷ [])
one_more Q [] x h q = (q, tt)
one_more Q (y ∷ ys) x h q = (h.0, one_more Q ys x h.1 q)

after_in : (old id entries : ℕ) → old < 256 → id < 256 → after_of old id entries < 256
after_in old id entries h g = by_test (entries == 0)
  where
    by_test : (b : Bool) → (if b then old else id) < 256
    by_test true = h
    by_test false = g

with_in : (d : Draft) (s : Section) → DraftIn d → SectionIn s → DraftIn (with_section d s)
with_in d (section.Custom name bytes) h e = record { imports = h.imports; declared = h.declared; bodies = h.bodies; tables = h.tables; memories = h.memories; globals = h.globals; exports = h.exports; start = h.start; elems = h.elems; segments = h.segments; customs = one_more CustomIn d.module.customs (record { after = d.after; name = name; bytes = bytes }) h.customs (h.after, e.0, e.1); after = h.after }
with_in d (section.Types es ps) h e = record { imports = h.imports; declared = h.declared; bodies = h.bodies; tables = h.tables; memories = h.memories; globals = h.globals; exports = h.exports; start = h.start; elems = h.elems; segments = h.segments; customs = h.customs; after = after_in d.after 1 (length es) h.after (omega arith) }
with_in d (section.Imports es ps) h e = record { imports = e; declared = h.declared; bodies = h.bodies; tables = h.tables; memories = h.memories; globals = h.globals; exports = h.exports; start = h.start; elems = h.elems; segments = h.segments; customs = h.customs; after = after_in d.after 2 (length es) h.after (omega arith) }
with_in d (section.Funcs es ps) h e = record { imports = h.imports; declared = e; bodies = h.bodies; tables = h.tables; memories = h.memories; globals = h.globals; exports = h.exports; start = h.start; elems = h.elems; segments = h.segments; customs = h.customs; after = after_in d.after 3 (length es) h.after (omega arith) }
with_in d (section.Tables es ps) h e = record { imports = h.imports; declared = h.declared; bodies = h.bodies; tables = e; memories = h.memories; globals = h.globals; exports = h.exports; start = h.start; elems = h.elems; segments = h.segments; customs = h.customs; after = after_in d.after 4 (length es) h.after (omega arith) }
with_in d (section.Memories es ps) h e = record { imports = h.imports; declared = h.declared; bodies = h.bodies; tables = h.tables; memories = e; globals = h.globals; exports = h.exports; start = h.start; elems = h.elems; segments = h.segments; customs = h.customs; after = after_in d.after 5 (length es) h.after (omega arith) }
with_in d (section.Globals es ps) h e = record { imports = h.imports; declared = h.declared; bodies = h.bodies; tables = h.tables; memories = h.memories; globals = e; exports = h.exports; start = h.start; elems = h.elems; segments = h.segments; customs = h.customs; after = after_in d.after 6 (length es) h.after (omega arith) }
with_in d (section.Exports es ps) h e = record { imports = h.imports; declared = h.declared; bodies = h.bodies; tables = h.tables; memories = h.memories; globals = h.globals; exports = e; start = h.start; elems = h.elems; segments = h.segments; customs = h.customs; after = after_in d.after 7 (length es) h.after (omega arith) }
with_in d (section.Start n p) h e = record { imports = h.imports; declared = h.declared; bodies = h.bodies; tables = h.tables; memories = h.memories; globals = h.globals; exports = h.exports; start = e; elems = h.elems; segments = h.segments; customs = h.customs; after = omega arith }
with_in d (section.Elems es ps) h e = record { imports = h.imports; declared = h.declared; bodies = h.bodies; tables = h.tables; memories = h.memories; globals = h.globals; exports = h.exports; start = h.start; elems = e; segments = h.segments; customs = h.customs; after = after_in d.after 9 (length es) h.after (omega arith) }
with_in d (section.Bodies bs) h e = record { imports = h.imports; declared = h.declared; bodies = e; tables = h.tables; memories = h.memories; globals = h.globals; exports = h.exports; start = h.start; elems = h.elems; segments = h.segments; customs = h.customs; after = after_in d.after 10 (length bs) h.after (omega arith) }
with_in d (section.Segments es ps) h e = record { imports = h.imports; declared = h.declared; bodies = h.bodies; tables = h.tables; memories = h.memories; globals = h.globals; exports = h.exports; start = h.start; elems = h.elems; segments = e; customs = h.customs; after = after_in d.after 11 (length es) h.after (omega arith) }

turn_in : (at : ℕ) (text : List ℕ) (ss : List Section) (d : Draft) → AreBytes text → InTurn at text ss → DraftIn d → DraftIn (with_sections d ss)
turn_in at text [] d b h m = m
turn_in at text (s ∷ ss) d b h m =
    let parts = split_at text h.0 h.1 h.2 b in
    turn_in (at + length h.0) h.1 ss (with_section d s) parts.1 h.4 (with_in d s m (section_gives at h.0 s parts.0 h.3))

-- ---- the module

abbrev FuncIn : Func → Type 0
FuncIn f = IsWord f.ty × InstrsIn f.body

funcs_in : (ts : List ℕ) (bs : List Body) → AllByRecursion IsWord ts → AllByRecursion BodyIn bs → AllByRecursion FuncIn (funcs_of ts bs)
funcs_in [] [] h g = tt
funcs_in [] (b ∷ bs) h g = tt
funcs_in (t ∷ ts) [] h g = tt
funcs_in (t ∷ ts) (b ∷ bs) h g = ((h.0, g.0), funcs_in ts bs h.1 g.1)

abbrev DecodedIn : Decoded → Type 0
DecodedIn x = InRange x.module

whole_in : (len : ℕ) (d : Draft) → DraftIn d → DecodedIn (whole_module len d)
whole_in len d h = record {
  imports = All-from_recursion ImportIn d.module.imports h.imports;
  funcs = All-from_recursion FuncIn (funcs_of d.declared d.bodies) (funcs_in d.declared d.bodies h.declared h.bodies);
  tables = All-from_recursion LimitsInRange d.module.tables h.tables;
  memories = All-from_recursion LimitsInRange d.module.memories h.memories;
  globals = All-from_recursion GlobalIn d.module.globals h.globals;
  exports = All-from_recursion ExportIn d.module.exports h.exports;
  start = h.start;
  elems = All-from_recursion ElemIn d.module.elems h.elems;
  segments = All-from_recursion SegmentIn d.module.segments h.segments;
  customs = All-from_recursion CustomIn d.module.customs h.customs;
}

pub spelled_in_range : (bytes : List ℕ) (m : Module) (k : Marks) → BytesInRange bytes → Spells bytes m k → InRange m
spelled_in_range bytes m k b spells =
    let h = drafted bytes m k spells in
    let all = recursion_from_All (λ n. n < 256) bytes b in
    let rest = (split_at bytes header h.rest h.parts all).1 in
    subst DecodedIn h.is (whole_in (length bytes) (with_sections no_sections h.sections) (turn_in 8 h.rest h.sections no_sections rest h.turn none_in))
