-- The text of a module spells it.
use Rattle.std.proofs.Common.{◌≡◌, ℕ, suc, ◌+◌, ◌<◌, ◌≤◌, true, false, leb, List, [], ◌∷◌, ◌++◌, length, map, Option, Some, None, Result, Ok, Err, inl, inr, refl, sym, ap, subst, ◌∙◌, append_assoc, arith}
use Rattle.std.specs.Prelude.{MatchResult}
use Rattle.std.specs.List.{AllByRecursion, flat_map}
use Rattle.std.proofs.lemmas.Bool.{ne_eqb, leb-true, leb-false}
use Rattle.std.proofs.lemmas.List.{append-nil, length-map}
use Rattle.wasm_values.specs.declared.number.ValType.{ValType}
use Rattle.wasm_syntax.specs.declared.instr.Instr.{Instr}
use Rattle.wasm_syntax.specs.declared.module.Func.{Func}
use Rattle.wasm_syntax.specs.declared.module.Custom.{Custom}
use Rattle.wasm_syntax.specs.declared.module.Module.{Module}
use Rattle.wasm_syntax.specs.declared.module.Marks.{Marks}
use Rattle.binary_grammar.specs.declared.fault.DecodeFault.{DecodeFault}
use Rattle.binary_grammar.specs.declared.fault.DecodeFault.TheVariants.{Malformed, Limit, OutOfMemory}
use Rattle.binary_grammar.specs.declared.section.Body.{Body}
use Rattle.binary_grammar.specs.declared.section.Section.TheVariants as section
use Rattle.binary_grammar.specs.declared.section.Draft.{Draft}
use Rattle.binary_grammar.specs.declared.section.Decoded.{Decoded}
use Rattle.binary_grammar.specs.Bounds.{the_bounds}
use Rattle.binary_grammar.specs.Grammar.{Each, Many, SpellsNumber, SpellsVector, SpellsFuncType, SpellsImport, SpellsTableType, SpellsLimits, SpellsExport}
use Rattle.binary_grammar.specs.CodeGrammar.{SpellsBody}
use Rattle.binary_grammar.specs.words.SectionReading.{after_of, no_module, no_sections, funcs_of, whole_module, header, module_at}
use Rattle.binary_grammar.specs.ModuleGrammar.{SpellsGlobal, SpellsElem, SpellsSegment, SpellsContents, FuncWithin, Spells}
use Rattle.binary_grammar.proofs.Drafts.{with_sections, Drafted}
use Rattle.binary_grammar.proofs.DraftLaws.{spelled}
use Rattle.binary_grammar.specs.words.Reading.{Gives}
use Rattle.binary_grammar.proofs.Exact.{ok}
use Rattle.binary_grammar.proofs.ModuleLaws.{module_again}
use Rattle.wasm_write.specs.Shortest.{number_text}
use Rattle.wasm_write.specs.Encoding.{vector_text, func_type_text, import_text, type_text, table_type_text, limits_text, global_text, export_text, elem_text, func_text, segment_text, section_text, entries_text, start_text, customs_after, customs_text, behind, first_sections, last_sections, encoded}
use Rattle.wasm_write.specs.Writable.{IsU32, IsCounted, IsMaximum, AreLimits, TypeWritable, ImportWritable, ExportWritable, GlobalWritable, FuncWritable, ElemWritable, SegmentWritable, CustomWritable, start_count, entries_of, NamesSection, NeverFalls, Writable}
use Rattle.wasm_write.proofs.TypeTexts.{then, number, func_type, import_, table_type, limits, export_}
use Rattle.wasm_write.proofs.NumberTexts.{short_number}
use Rattle.wasm_write.proofs.CodeTexts.{body_of}
use Rattle.wasm_write.proofs.SectionTexts.{global_, elem_, segment_}
use Rattle.wasm_write.proofs.Builds.{Builds, nothing, one_section, both, section_, entries, with_customs, customs, named_from, split_customs, all_named, none_past, after_all, some_after, first_named}

-- ---- what a draft is behind the sections up to an id

abbrev Shape : Type 0
Shape = List ValType × List Instr

abbrev shape : Body → Shape
shape b = (b.locals, b.code)

abbrev func_shape : Func → Shape
func_shape f = (f.locals, f.body)

-- its module but for the custom sections, its functions' types and bodies, and that the custom sections from an id on are still to come
record State (m : Module) (want : Module) (declared : List ℕ) (bodies : List Shape) (id next : ℕ) (d : Draft) : Type 0 where
  parts : record d.module { customs = [] } ≡ want
  named : d.module.customs ++ named_from next m.customs ≡ m.customs
  types : d.declared ≡ declared
  shapes : map shape d.bodies ≡ bodies
  last : d.last ≤ id

-- behind a section with so many entries
record Behind (m : Module) (want : Module) (declared : List ℕ) (bodies : List Shape) (id count : ℕ) (d : Draft) : Type 0 where
  state : State m want declared bodies id id d
  after : 0 < count → d.after ≡ id

names_at : (m : Module) (id : ℕ) (cs : List Custom) → 0 < id → AllByRecursion (NamesSection m) cs → AllByRecursion (λ c. c.after ≡ id → 0 < entries_of m id) cs
names_at m id [] lt h = tt
names_at m id (c ∷ cs) lt h = (λ e. one_name m id c lt e h.0, names_at m id cs lt h.1)
  where
    one_name : (m : Module) (id : ℕ) (c : Custom) → 0 < id → c.after ≡ id → NamesSection m c → 0 < entries_of m id
    one_name m id c lt e (inl z) = absurd (omega (arith, z, e))
    one_name m id c lt e (inr k) = subst (λ j. 0 < entries_of m j) e k

-- what custom sections leave
with_state : (m want : Module) (declared : List ℕ) (bodies : List Shape) (id : ℕ) (low : ℕ) (d : Draft) → NeverFalls low m.customs → State m want declared bodies id id d →
    State m want declared bodies id (suc id) (with_customs d (customs_after id m.customs))
unfolding with_customs
with_state m want declared bodies id low d falls s = record {
  parts = s.parts;
  named = append_assoc d.module.customs (customs_after id m.customs) (named_from (suc id) m.customs) ∙ ap (λ cs. d.module.customs ++ cs) (split_customs low id m.customs falls) ∙ s.named;
  types = s.types;
  shapes = s.shapes;
  last = s.last;
}

-- the custom sections that name a section
then_customs : (m want : Module) (declared : List ℕ) (bodies : List Shape) (id count : ℕ) → Writable m → AllByRecursion (λ c. c.after ≡ id → 0 < count) m.customs → (at : ℕ) (d : Draft) → Behind m want declared bodies id count d →
    Builds at (customs_text id m.customs) d (State m want declared bodies id (suc id))
unfolding customs_text
then_customs m want declared bodies id count w names at d b =
    let cs = customs_after id m.customs in
    let built = customs cs id (some_after CustomWritable id m.customs w.each_custom) (after_all id m.customs) at d (λ some. b.after (first_named (0 < count) id m.customs names some)) in
    record {
      sections = built.sections;
      turn = built.turn;
      stand = built.stand;
      done = subst (State m want declared bodies id (suc id)) (sym built.done) (with_state m want declared bodies id 0 d w.customs_order b.state);
    }

-- a section, and the custom sections that name it
with_behind : (m want : Module) (declared : List ℕ) (bodies : List Shape) (id count : ℕ) (text : List ℕ) → Writable m → 0 < id → entries_of m id ≡ count → (at : ℕ) (d : Draft) →
    Builds at text d (Behind m want declared bodies id count) → Builds at (behind id text m.customs) d (State m want declared bodies id (suc id))
with_behind m want declared bodies id count text w lt e at d b =
    let names = names_at m id m.customs lt w.customs_place in
    both at text (customs_text id m.customs) d (Behind m want declared bodies id count) (State m want declared bodies id (suc id)) b
    (then_customs m want declared bodies id count w (subst (λ k. AllByRecursion (λ (c : Custom). c.after ≡ id → 0 < k) m.customs) e names) (at + length text))

after_some : (old id n : ℕ) → 0 < n → after_of old id n ≡ id
after_some old id n lt = rw (ne_eqb n 0 (λ e. omega (arith, e))) refl

-- ---- the parts of a module up to a section

abbrev with_types : Module → Module
with_types m = record no_module { types = m.types }

abbrev with_imports : Module → Module
with_imports m = record (with_types m) { imports = m.imports }

abbrev with_tables : Module → Module
with_tables m = record (with_imports m) { tables = m.tables }

abbrev with_memories : Module → Module
with_memories m = record (with_tables m) { memories = m.memories }

abbrev with_globals : Module → Module
with_globals m = record (with_memories m) { globals = m.globals }

abbrev with_exports : Module → Module
with_exports m = record (with_globals m) { exports = m.exports }

abbrev with_start : Module → Module
with_start m = record (with_exports m) { start = m.start }

abbrev with_elems : Module → Module
with_elems m = record (with_start m) { elems = m.elems }

abbrev with_segments : Module → Module
with_segments m = record (with_elems m) { segments = m.segments }

-- ---- one section after another

abbrev Types : Module → List ℕ
Types m = map (λ (f : Func). f.ty) m.funcs

abbrev Shapes : Module → List Shape
Shapes m = map func_shape m.funcs

first_state : (m : Module) → State m no_module [] [] 0 0 no_sections
first_state m = record { parts = refl; named = all_named m.customs; types = refl; shapes = refl; last = omega arith }

at_first : (m : Module) → Writable m → (at : ℕ) → Builds at (customs_text 0 m.customs) no_sections (State m no_module [] [] 0 1)
at_first m w at = then_customs m no_module [] [] 0 1 w (always_some m.customs) at no_sections (record { state = first_state m; after = λ some. refl })
  where
    always_some : (cs : List Custom) → AllByRecursion (λ c. c.after ≡ 0 → 0 < 1) cs
    always_some [] = tt
    always_some (c ∷ cs) = (λ e. omega arith, always_some cs)

types_step : (m : Module) → Writable m → (at : ℕ) (d : Draft) → State m no_module [] [] 0 1 d → Builds at (behind 1 (entries_text 1 func_type_text m.types) m.customs) d (State m (with_types m) [] [] 1 2)
unfolding SpellsContents
types_step m w at d s =
    with_behind m (with_types m) [] [] 1 (length m.types) (entries_text 1 func_type_text m.types) w (omega arith) refl at d
    (entries section.Types 1 SpellsFuncType func_type_text TypeWritable (record { ids = λ xs ps. refl; contents = λ p text xs ps v. v; counts = λ n xs ps. tt }) func_type m.types
    (record { few = omega (arith, w.limits.types); size = w.sizes.types; each = w.each_type }) at d (Behind m (with_types m) [] [] 1 (length m.types)) (omega (arith, s.last))
    (λ none. record {
      state = record { parts = s.parts ∙ ap (λ xs. record no_module { types = xs }) (sym none); named = s.named; types = s.types; shapes = s.shapes; last = omega (arith, s.last) };
      after = λ some. absurd (omega (arith, ap length none));
    })
    (λ ps. record {
      state = record { parts = ap (λ (n : Module). record n { types = m.types }) s.parts; named = s.named; types = s.types; shapes = s.shapes; last = omega arith };
      after = λ some. after_some d.after 1 (length m.types) some;
    }))

imports_step : (m : Module) → Writable m → (at : ℕ) (d : Draft) → State m (with_types m) ([]) ([]) 1 2 d → Builds at (behind 2 (entries_text 2 import_text m.imports) m.customs) d (State m (with_imports m) ([]) ([]) 2 3)
unfolding SpellsContents
imports_step m w at d s =
    with_behind m (with_imports m) ([]) ([]) 2 (length m.imports) (entries_text 2 import_text m.imports) w (omega arith) refl at d
    (entries section.Imports 2 SpellsImport import_text ImportWritable (record { ids = λ xs ps. refl; contents = λ p text xs ps v. v; counts = λ n xs ps. tt }) import_ m.imports
    (record { few = w.imports; size = w.sizes.imports; each = w.each_import }) at d (Behind m (with_imports m) ([]) ([]) 2 (length m.imports)) (omega (arith, s.last))
    (λ none. record {
      state = record { parts = s.parts ∙ ap (λ xs. record (with_types m) { imports = xs }) (sym none); named = s.named; types = s.types; shapes = s.shapes; last = omega (arith, s.last) };
      after = λ some. absurd (omega (arith, ap length none));
    })
    (λ ps. record {
      state = record { parts = ap (λ (n : Module). record n { imports = m.imports }) s.parts; named = s.named; types = s.types; shapes = s.shapes; last = omega arith };
      after = λ some. after_some d.after 2 (length m.imports) some;
    }))

tables_step : (m : Module) → Writable m → (at : ℕ) (d : Draft) → State m (with_imports m) (Types m) ([]) 3 4 d → Builds at (behind 4 (entries_text 4 table_type_text m.tables) m.customs) d (State m (with_tables m) (Types m) ([]) 4 5)
unfolding SpellsContents
tables_step m w at d s =
    with_behind m (with_tables m) (Types m) ([]) 4 (length m.tables) (entries_text 4 table_type_text m.tables) w (omega arith) refl at d
    (entries section.Tables 4 SpellsTableType table_type_text AreLimits (record { ids = λ xs ps. refl; contents = λ p text xs ps v. v; counts = λ n xs ps. tt }) table_type m.tables
    (record { few = w.tables; size = w.sizes.tables; each = w.each_table }) at d (Behind m (with_tables m) (Types m) ([]) 4 (length m.tables)) (omega (arith, s.last))
    (λ none. record {
      state = record { parts = s.parts ∙ ap (λ xs. record (with_imports m) { tables = xs }) (sym none); named = s.named; types = s.types; shapes = s.shapes; last = omega (arith, s.last) };
      after = λ some. absurd (omega (arith, ap length none));
    })
    (λ ps. record {
      state = record { parts = ap (λ (n : Module). record n { tables = m.tables }) s.parts; named = s.named; types = s.types; shapes = s.shapes; last = omega arith };
      after = λ some. after_some d.after 4 (length m.tables) some;
    }))

memories_step : (m : Module) → Writable m → (at : ℕ) (d : Draft) → State m (with_tables m) (Types m) ([]) 4 5 d → Builds at (behind 5 (entries_text 5 limits_text m.memories) m.customs) d (State m (with_memories m) (Types m) ([]) 5 6)
unfolding SpellsContents
memories_step m w at d s =
    with_behind m (with_memories m) (Types m) ([]) 5 (length m.memories) (entries_text 5 limits_text m.memories) w (omega arith) refl at d
    (entries section.Memories 5 SpellsLimits limits_text AreLimits (record { ids = λ xs ps. refl; contents = λ p text xs ps v. v; counts = λ n xs ps. tt }) limits m.memories
    (record { few = w.memories; size = w.sizes.memories; each = w.each_memory }) at d (Behind m (with_memories m) (Types m) ([]) 5 (length m.memories)) (omega (arith, s.last))
    (λ none. record {
      state = record { parts = s.parts ∙ ap (λ xs. record (with_tables m) { memories = xs }) (sym none); named = s.named; types = s.types; shapes = s.shapes; last = omega (arith, s.last) };
      after = λ some. absurd (omega (arith, ap length none));
    })
    (λ ps. record {
      state = record { parts = ap (λ (n : Module). record n { memories = m.memories }) s.parts; named = s.named; types = s.types; shapes = s.shapes; last = omega arith };
      after = λ some. after_some d.after 5 (length m.memories) some;
    }))

globals_step : (m : Module) → Writable m → (at : ℕ) (d : Draft) → State m (with_memories m) (Types m) ([]) 5 6 d → Builds at (behind 6 (entries_text 6 global_text m.globals) m.customs) d (State m (with_globals m) (Types m) ([]) 6 7)
unfolding SpellsContents
globals_step m w at d s =
    with_behind m (with_globals m) (Types m) ([]) 6 (length m.globals) (entries_text 6 global_text m.globals) w (omega arith) refl at d
    (entries section.Globals 6 SpellsGlobal global_text GlobalWritable (record { ids = λ xs ps. refl; contents = λ p text xs ps v. v; counts = λ n xs ps. tt }) global_ m.globals
    (record { few = w.globals; size = w.sizes.globals; each = w.each_global }) at d (Behind m (with_globals m) (Types m) ([]) 6 (length m.globals)) (omega (arith, s.last))
    (λ none. record {
      state = record { parts = s.parts ∙ ap (λ xs. record (with_memories m) { globals = xs }) (sym none); named = s.named; types = s.types; shapes = s.shapes; last = omega (arith, s.last) };
      after = λ some. absurd (omega (arith, ap length none));
    })
    (λ ps. record {
      state = record { parts = ap (λ (n : Module). record n { globals = m.globals }) s.parts; named = s.named; types = s.types; shapes = s.shapes; last = omega arith };
      after = λ some. after_some d.after 6 (length m.globals) some;
    }))

exports_step : (m : Module) → Writable m → (at : ℕ) (d : Draft) → State m (with_globals m) (Types m) ([]) 6 7 d → Builds at (behind 7 (entries_text 7 export_text m.exports) m.customs) d (State m (with_exports m) (Types m) ([]) 7 8)
unfolding SpellsContents
exports_step m w at d s =
    with_behind m (with_exports m) (Types m) ([]) 7 (length m.exports) (entries_text 7 export_text m.exports) w (omega arith) refl at d
    (entries section.Exports 7 SpellsExport export_text ExportWritable (record { ids = λ xs ps. refl; contents = λ p text xs ps v. v; counts = λ n xs ps. tt }) export_ m.exports
    (record { few = w.exports; size = w.sizes.exports; each = w.each_export }) at d (Behind m (with_exports m) (Types m) ([]) 7 (length m.exports)) (omega (arith, s.last))
    (λ none. record {
      state = record { parts = s.parts ∙ ap (λ xs. record (with_globals m) { exports = xs }) (sym none); named = s.named; types = s.types; shapes = s.shapes; last = omega (arith, s.last) };
      after = λ some. absurd (omega (arith, ap length none));
    })
    (λ ps. record {
      state = record { parts = ap (λ (n : Module). record n { exports = m.exports }) s.parts; named = s.named; types = s.types; shapes = s.shapes; last = omega arith };
      after = λ some. after_some d.after 7 (length m.exports) some;
    }))

elems_step : (m : Module) → Writable m → (at : ℕ) (d : Draft) → State m (with_start m) (Types m) ([]) 8 9 d → Builds at (behind 9 (entries_text 9 elem_text m.elems) m.customs) d (State m (with_elems m) (Types m) ([]) 9 10)
unfolding SpellsContents
elems_step m w at d s =
    with_behind m (with_elems m) (Types m) ([]) 9 (length m.elems) (entries_text 9 elem_text m.elems) w (omega arith) refl at d
    (entries section.Elems 9 SpellsElem elem_text ElemWritable (record { ids = λ xs ps. refl; contents = λ p text xs ps v. v; counts = λ n xs ps. tt }) elem_ m.elems
    (record { few = w.elems; size = w.sizes.elems; each = w.each_elem }) at d (Behind m (with_elems m) (Types m) ([]) 9 (length m.elems)) (omega (arith, s.last))
    (λ none. record {
      state = record { parts = s.parts ∙ ap (λ xs. record (with_start m) { elems = xs }) (sym none); named = s.named; types = s.types; shapes = s.shapes; last = omega (arith, s.last) };
      after = λ some. absurd (omega (arith, ap length none));
    })
    (λ ps. record {
      state = record { parts = ap (λ (n : Module). record n { elems = m.elems }) s.parts; named = s.named; types = s.types; shapes = s.shapes; last = omega arith };
      after = λ some. after_some d.after 9 (length m.elems) some;
    }))

segments_step : (m : Module) → Writable m → (at : ℕ) (d : Draft) → State m (with_elems m) (Types m) (Shapes m) 10 11 d → Builds at (behind 11 (entries_text 11 segment_text m.segments) m.customs) d (State m (with_segments m) (Types m) (Shapes m) 11 12)
unfolding SpellsContents
segments_step m w at d s =
    with_behind m (with_segments m) (Types m) (Shapes m) 11 (length m.segments) (entries_text 11 segment_text m.segments) w (omega arith) refl at d
    (entries section.Segments 11 SpellsSegment segment_text SegmentWritable (record { ids = λ xs ps. refl; contents = λ p text xs ps v. v; counts = λ n xs ps. tt }) segment_ m.segments
    (record { few = w.segments; size = w.sizes.segments; each = w.each_segment }) at d (Behind m (with_segments m) (Types m) (Shapes m) 11 (length m.segments)) (omega (arith, s.last))
    (λ none. record {
      state = record { parts = s.parts ∙ ap (λ xs. record (with_elems m) { segments = xs }) (sym none); named = s.named; types = s.types; shapes = s.shapes; last = omega (arith, s.last) };
      after = λ some. absurd (omega (arith, ap length none));
    })
    (λ ps. record {
      state = record { parts = ap (λ (n : Module). record n { segments = m.segments }) s.parts; named = s.named; types = s.types; shapes = s.shapes; last = omega arith };
      after = λ some. after_some d.after 11 (length m.segments) some;
    }))

-- the types of functions, as entries of their own
types_text : (fs : List Func) → flat_map type_text fs ≡ flat_map number_text (map (λ (f : Func). f.ty) fs)
types_text [] = refl
types_text (f ∷ fs) = ap (λ text. number_text f.ty ++ text) (types_text fs)

types_vector : (fs : List Func) → vector_text type_text fs ≡ vector_text number_text (map (λ (f : Func). f.ty) fs)
unfolding vector_text
types_vector fs =
    ap (λ n. number_text n ++ flat_map type_text fs) (sym (length-map fs (λ (f : Func). f.ty))) ∙
    ap (λ text. number_text (length (map (λ (f : Func). f.ty) fs)) ++ text) (types_text fs)

types_entries : (id : ℕ) (fs : List Func) → entries_text id number_text (map (λ (f : Func). f.ty) fs) ≡ entries_text id type_text fs
unfolding entries_text
types_entries id [] = refl
types_entries id (f ∷ fs) = ap (section_text id) (sym (types_vector (f ∷ fs)))

each_type : (fs : List Func) → AllByRecursion FuncWritable fs → AllByRecursion IsU32 (map (λ (f : Func). f.ty) fs)
each_type [] w = tt
each_type (f ∷ fs) w = (w.0.0, each_type fs w.1)

funcs_step : (m : Module) → Writable m → (at : ℕ) (d : Draft) → State m (with_imports m) [] [] 2 3 d → Builds at (behind 3 (entries_text 3 type_text m.funcs) m.customs) d (State m (with_imports m) (Types m) [] 3 4)
unfolding SpellsContents
funcs_step m w at d s =
    let count : length (Types m) ≡ length m.funcs = length-map m.funcs (λ (f : Func). f.ty) in
    let built : Builds at (entries_text 3 number_text (Types m)) d (Behind m (with_imports m) (Types m) [] 3 (length m.funcs)) =
    entries section.Funcs 3 SpellsNumber number_text IsU32 (record { ids = λ xs ps. refl; contents = λ p text xs ps v. v; counts = λ n xs ps. tt }) (λ x h p. number p x h) (Types m)
    (record { few = subst IsU32 (sym count) w.funcs; size = subst IsCounted (types_vector m.funcs) w.sizes.funcs; each = each_type m.funcs w.each_func }) at d (Behind m (with_imports m) (Types m) [] 3 (length m.funcs)) (omega (arith, s.last))
    (λ none. record {
      state = record { parts = s.parts; named = s.named; types = s.types ∙ sym none; shapes = s.shapes; last = omega (arith, s.last) };
      after = λ some. absurd (omega (arith, ap length none, count));
    })
    (λ ps. record {
      state = record { parts = s.parts; named = s.named; types = refl; shapes = s.shapes; last = omega arith };
      after = λ some. after_some d.after 3 (length (Types m)) (omega (arith, count));
    }) in
    with_behind m (with_imports m) (Types m) [] 3 (length m.funcs) (entries_text 3 type_text m.funcs) w (omega arith) refl at d
    (subst (λ text. Builds at text d (Behind m (with_imports m) (Types m) [] 3 (length m.funcs))) (types_entries 3 m.funcs) built)

start_section : (m : Module) (start : Option ℕ) → m.start ≡ start → IsMaximum start → (at : ℕ) (d : Draft) → State m (with_exports m) (Types m) [] 7 8 d → Builds at (start_text start) d (Behind m (with_start m) (Types m) [] 8 (start_count start))
unfolding SpellsContents start_text
start_section m None e h at d s =
    nothing at d (Behind m (with_start m) (Types m) [] 8 0) (record {
      state = record { parts = s.parts ∙ ap (λ x. record (with_exports m) { start = x }) (sym e); named = s.named; types = s.types; shapes = s.shapes; last = omega (arith, s.last) };
      after = λ some. absurd (omega arith);
    })
start_section m (Some n) e h at d s =
    let text = number_text n in
    let start = at + 1 + length (number_text (length text)) in
    one_section at (section_text 8 text) d (Behind m (with_start m) (Types m) [] 8 1) (section.Start n start)
    (section_ at 8 text (section.Start n start) refl (short_number n h) (number start n h, refl)) (inr (omega (arith, s.last))) tt
    (record {
      state = record { parts = ap (λ (x : Module). record x { start = Some n }) s.parts ∙ ap (λ x. record (with_exports m) { start = x }) (sym e); named = s.named; types = s.types; shapes = s.shapes; last = omega arith };
      after = λ some. refl;
    })

start_step : (m : Module) → Writable m → (at : ℕ) (d : Draft) → State m (with_exports m) (Types m) [] 7 8 d → Builds at (behind 8 (start_text m.start) m.customs) d (State m (with_start m) (Types m) [] 8 9)
start_step m w at d s =
    with_behind m (with_start m) (Types m) [] 8 (start_count m.start) (start_text m.start) w (omega arith) refl at d (start_section m m.start refl w.start at d s)

-- ---- bodies

record Bodies (at : ℕ) (fs : List Func) : Type 0 where
  bodies : List Body
  places : List ℕ
  each : Each SpellsBody at (flat_map func_text fs) (bodies, places)
  shapes : map shape bodies ≡ map func_shape fs

each_body : (fs : List Func) → AllByRecursion FuncWritable fs → AllByRecursion (FuncWithin the_bounds) fs → (at : ℕ) → Bodies at fs
each_body [] w l at = record { bodies = []; places = []; each = refl; shapes = refl }
each_body (f ∷ fs) w l at =
    let b = body_of f w.0 l.0.0 at in
    let more = each_body fs w.1 l.1 (at + length (func_text f)) in
    record {
      bodies = b.body ∷ more.bodies;
      places = at ∷ more.places;
      each = (refl, func_text f, flat_map func_text fs, refl, b.spells, more.each);
      shapes = ap (λ (s : Shape). s ∷ map shape more.bodies) (one_shape b.body.locals f.locals b.body.code f.body b.locals b.code) ∙ ap (λ ss. func_shape f ∷ ss) more.shapes;
    }
  where
    one_shape : (a b : List ValType) (c d : List Instr) → a ≡ b → c ≡ d → ◌≡◌ {A = Shape} (a, c) (b, d)
    one_shape a b c d e f = ap (λ x. (x, c)) e ∙ ap (λ x. (b, x)) f

bodies_section : (m : Module) (fs : List Func) → m.funcs ≡ fs → IsCounted fs → IsCounted (vector_text func_text fs) → AllByRecursion FuncWritable fs → AllByRecursion (FuncWithin the_bounds) fs →
    (at : ℕ) (d : Draft) → State m (with_elems m) (Types m) [] 9 10 d → Builds at (entries_text 10 func_text fs) d (Behind m (with_elems m) (Types m) (Shapes m) 10 (length fs))
unfolding SpellsContents entries_text vector_text SpellsVector Many
bodies_section m [] e few size w l at d s =
    nothing at d (Behind m (with_elems m) (Types m) (Shapes m) 10 0) (record {
      state = record { parts = s.parts; named = s.named; types = s.types; shapes = s.shapes ∙ ap (map func_shape) (sym e); last = omega (arith, s.last) };
      after = λ some. absurd (omega arith);
    })
bodies_section m (f ∷ fs) e few size w l at d s =
    let gs = f ∷ fs in
    let contents = vector_text func_text gs in
    let start = at + 1 + length (number_text (length contents)) in
    let bs = each_body gs w l (start + length (number_text (length gs))) in
    let count : length bs.bodies ≡ length gs = sym (length-map bs.bodies shape) ∙ ap length bs.shapes ∙ length-map gs func_shape in
    let declared : length d.declared ≡ length gs = ap length s.types ∙ length-map m.funcs (λ (g : Func). g.ty) ∙ ap length e in
    let spells : SpellsVector SpellsBody start contents (bs.bodies, bs.places) =
    then _ _ start (number_text (length gs)) (flat_map func_text gs) (length gs) (bs.bodies, bs.places) (number start (length gs) few) (count, bs.each) in
    one_section at (section_text 10 contents) d (Behind m (with_elems m) (Types m) (Shapes m) 10 (length gs)) (section.Bodies bs.bodies)
    (section_ at 10 contents (section.Bodies bs.bodies) refl size (bs.places, spells)) (inr (omega (arith, s.last))) (count ∙ sym declared)
    (record {
      state = record { parts = s.parts; named = s.named; types = s.types; shapes = bs.shapes ∙ ap (map func_shape) (sym e); last = omega arith };
      after = λ some. after_some d.after 10 (length bs.bodies) (omega (arith, count));
    })

bodies_step : (m : Module) → Writable m → (at : ℕ) (d : Draft) → State m (with_elems m) (Types m) [] 9 10 d → Builds at (behind 10 (entries_text 10 func_text m.funcs) m.customs) d (State m (with_elems m) (Types m) (Shapes m) 10 11)
bodies_step m w at d s =
    with_behind m (with_elems m) (Types m) (Shapes m) 10 (length m.funcs) (entries_text 10 func_text m.funcs) w (omega arith) refl at d
    (bodies_section m m.funcs refl w.funcs w.sizes.bodies w.each_func w.limits.each_func at d s)

-- ---- the whole

sections_first : (m : Module) → Writable m → (at : ℕ) → Builds at (first_sections m) no_sections (State m (with_globals m) (Types m) [] 6 7)
unfolding first_sections
sections_first m w at =
    both at _ _ no_sections _ _ (at_first m w at) (λ d s.
    both _ _ _ d _ _ (types_step m w _ d s) (λ d s.
    both _ _ _ d _ _ (imports_step m w _ d s) (λ d s.
    both _ _ _ d _ _ (funcs_step m w _ d s) (λ d s.
    both _ _ _ d _ _ (tables_step m w _ d s) (λ d s.
    both _ _ _ d _ _ (memories_step m w _ d s) (λ d s.
    globals_step m w _ d s))))))

sections_last : (m : Module) → Writable m → (at : ℕ) (d : Draft) → State m (with_globals m) (Types m) [] 6 7 d → Builds at (last_sections m) d (State m (with_segments m) (Types m) (Shapes m) 11 12)
unfolding last_sections
sections_last m w at d s =
    both at _ _ d _ _ (exports_step m w at d s) (λ d s.
    both _ _ _ d _ _ (start_step m w _ d s) (λ d s.
    both _ _ _ d _ _ (elems_step m w _ d s) (λ d s.
    both _ _ _ d _ _ (bodies_step m w _ d s) (λ d s.
    segments_step m w _ d s))))

same_funcs : (fs : List Func) (bs : List Body) → map shape bs ≡ map func_shape fs → funcs_of (map (λ (f : Func). f.ty) fs) bs ≡ fs
same_funcs [] bs e = refl
same_funcs (f ∷ fs) [] e = absurd (omega (arith, ap length e))
same_funcs (f ∷ fs) (b ∷ bs) e =
    let h : shape b ≡ func_shape f = cc in
    let t : map shape bs ≡ map func_shape fs = cc in
    ap (λ (s : Shape). record { ty = f.ty; locals = s.0; body = s.1 } ∷ funcs_of (map (λ (g : Func). g.ty) fs) bs) h ∙ ap (λ gs. f ∷ gs) (same_funcs fs bs t)

entries_past : (m : Module) (k : ℕ) → 11 < k → entries_of m k ≡ 0
entries_past m k lt =
    rw (
      ne_eqb k 1 (λ e. omega (arith, e)),
      ne_eqb k 2 (λ e. omega (arith, e)),
      ne_eqb k 3 (λ e. omega (arith, e)),
      ne_eqb k 4 (λ e. omega (arith, e)),
      ne_eqb k 5 (λ e. omega (arith, e)),
      ne_eqb k 6 (λ e. omega (arith, e)),
      ne_eqb k 7 (λ e. omega (arith, e)),
      ne_eqb k 8 (λ e. omega (arith, e)),
      ne_eqb k 9 (λ e. omega (arith, e)),
      ne_eqb k 10 (λ e. omega (arith, e)),
      ne_eqb k 11 (λ e. omega (arith, e)),
    ) refl

few_names : (m : Module) (cs : List Custom) → AllByRecursion (NamesSection m) cs → AllByRecursion (λ c. c.after ≤ 11) cs
few_names m [] h = tt
few_names m (c ∷ cs) h = (one_name m c h.0, few_names m cs h.1)
  where
    one_name : (m : Module) (c : Custom) → NamesSection m c → c.after ≤ 11
    one_name m c (inl z) = omega (arith, z)
    one_name m c (inr k) = past m c.after k
      where
        past : (m : Module) (j : ℕ) → 0 < entries_of m j → j ≤ 11
        past m j k = elim (leb j 11) as (λ b. leb j 11 ≡ b → j ≤ 11) [
          | true ↦ λ e. leb-true j 11 e
          | false ↦ λ e. absurd (omega (arith, entries_past m j (leb-false j 11 e), k))
        ] refl

whole : (m : Module) (len : ℕ) (d : Draft) → Writable m → State m (with_segments m) (Types m) (Shapes m) 11 12 d → (whole_module len d).«module» ≡ m
whole m len d w s =
    let cs : d.module.customs ≡ m.customs = sym (append-nil d.module.customs) ∙ ap (λ xs. d.module.customs ++ xs) (sym (none_past 11 m.customs (few_names m m.customs w.customs_place))) ∙ s.named in
    let fs : funcs_of d.declared d.bodies ≡ m.funcs = ap (λ ts. funcs_of ts d.bodies) s.types ∙ same_funcs m.funcs d.bodies s.shapes in
    ap (λ (n : Module). record n { customs = d.module.customs; funcs = funcs_of d.declared d.bodies }) s.parts ∙
    ap (λ xs. record (with_segments m) { customs = xs; funcs = funcs_of d.declared d.bodies }) cs ∙
    ap (λ gs. record (with_segments m) { customs = m.customs; funcs = gs }) fs

pub spells_encoded : (m : Module) → Writable m → (k : Marks) × Spells (encoded m) m k
unfolding encoded
spells_encoded m w =
    let built : Builds 8 (first_sections m ++ last_sections m) no_sections (State m (with_segments m) (Types m) (Shapes m) 11 12) =
    both 8 (first_sections m) (last_sections m) no_sections _ _ (sections_first m w 8) (λ d s. sections_last m w _ d s) in
    let d = with_sections no_sections built.sections in
    let len = length (header ++ (first_sections m ++ last_sections m)) in
    let k : Marks = (whole_module len d).marks in
    let count : length d.bodies ≡ length d.declared =
    sym (length-map d.bodies shape) ∙ ap length built.done.shapes ∙ length-map m.funcs func_shape ∙ sym (ap length built.done.types ∙ length-map m.funcs (λ (f : Func). f.ty)) in
    let put : Drafted (header ++ (first_sections m ++ last_sections m)) m k = record { sections = built.sections; rest = first_sections m ++ last_sections m; parts = refl; turn = built.turn; stand = built.stand; counted = count; is = ap (λ (n : Module). decoded n k) (whole m len d w built.done) } in
    (k, spelled (header ++ (first_sections m ++ last_sections m)) m k put)
  where
    decoded : Module → Marks → Decoded
    decoded n k = record { «module» = n; marks = k }

-- so the text is read as the module
pub reads_encoded : (m : Module) → Writable m → (k : Marks) × (module_at the_bounds (encoded m) ≡ Ok (record { «module» = m; marks = k }))
reads_encoded m w = let s = spells_encoded m w in (s.0, module_again the_bounds (encoded m) m s.0 s.1 w.limits)

-- what is read as the module, unless memory ran out
pub read_again : (m : Module) (bytes : List ℕ) (r : Result Decoded DecodeFault) → bytes ≡ encoded m → Gives (λ d. d) r (module_at the_bounds bytes) → Writable m → MatchResult r (λ d. d.«module» ≡ m) (λ f. f ≡ OutOfMemory)
read_again m bytes r e g w = let s = reads_encoded m w in given m s.0 r (subst (Gives (λ (d : Decoded). d) r) (ap (module_at the_bounds) e ∙ s.1) g)
  where
    given : (m : Module) (k : Marks) (r : Result Decoded DecodeFault) → Gives (λ d. d) r (Ok (record { «module» = m; marks = k })) → MatchResult r (λ d. d.«module» ≡ m) (λ f. f ≡ OutOfMemory)
    given m k (Ok d) g = sym (ap (λ (x : Decoded). x.«module») (same (record { «module» = m; marks = k }) d g))
      where
        same : (x y : Decoded) → ok x ≡ ok y → x ≡ y
        same x y e = cc
    given m k (Err OutOfMemory) g = refl
    given m k (Err (Malformed at word)) g = absurd cc
    given m k (Err (Limit at word)) g = absurd cc
