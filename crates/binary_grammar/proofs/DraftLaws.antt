-- The sections of a text put a module together as a draft does.
use Rattle.std.proofs.Common.{◌≡◌, ℕ, suc, ◌<◌, ◌≤◌, List, [], ◌∷◌, ◌++◌, length, Option, None, unwrap_or, ◌⊎◌, inl, inr, refl, sym, ap, subst, ◌∙◌, append_assoc, arith}
use Rattle.std.proofs.lemmas.List.{append-nil}
use Rattle.wasm_syntax.specs.declared.module.FuncType.{FuncType}
use Rattle.wasm_syntax.specs.declared.module.Limits.{Limits}
use Rattle.wasm_syntax.specs.declared.module.Import.{Import}
use Rattle.wasm_syntax.specs.declared.module.Export.{Export}
use Rattle.wasm_syntax.specs.declared.module.Global.{Global}
use Rattle.wasm_syntax.specs.declared.module.Func.{Func}
use Rattle.wasm_syntax.specs.declared.module.Elem.{Elem}
use Rattle.wasm_syntax.specs.declared.module.Segment.{Segment}
use Rattle.wasm_syntax.specs.declared.module.Module.{Module}
use Rattle.wasm_syntax.specs.declared.module.Marks.{Marks}
use Rattle.binary_grammar.specs.declared.section.Body.{Body}
use Rattle.binary_grammar.specs.declared.section.Section.{Section}
use Rattle.binary_grammar.specs.declared.section.Section.TheVariants as section
use Rattle.binary_grammar.specs.declared.section.Draft.{Draft}
use Rattle.binary_grammar.specs.declared.section.Decoded.{Decoded}
use Rattle.binary_grammar.specs.words.SectionReading.{with_section, no_sections, whole_module, funcs_of, places_of}
use Rattle.binary_grammar.specs.ModuleGrammar.{id_of, Rising, given, type_section, import_section, function_section, table_section, memory_section, global_section, export_section, start_section, element_section, code_section, data_section, AreFuncs, last_filled, if_custom, customs_of, AreParts, Spells}
use Rattle.binary_grammar.proofs.Drafts.{InOrder, Counts, MayStand, with_sections, Drafted}

-- ---- what a draft has of each kind of section

abbrev pub types : Draft → List FuncType × List ℕ
types d = (d.module.types, d.marks.types)

abbrev pub imports : Draft → List Import × List ℕ
imports d = (d.module.imports, d.marks.imports)

abbrev pub declared : Draft → List ℕ × List ℕ
declared d = (d.declared, d.marks.funcs)

abbrev pub tables : Draft → List Limits × List ℕ
tables d = (d.module.tables, d.marks.tables)

abbrev pub memories : Draft → List Limits × List ℕ
memories d = (d.module.memories, d.marks.memories)

abbrev pub globals : Draft → List Global × List ℕ
globals d = (d.module.globals, d.marks.globals)

abbrev pub exports : Draft → List Export × List ℕ
exports d = (d.module.exports, d.marks.exports)

abbrev pub start : Draft → Option ℕ × ℕ
start d = (d.module.start, d.marks.start)

abbrev pub elems : Draft → List Elem × List ℕ
elems d = (d.module.elems, d.marks.elems)

abbrev pub bodies : Draft → List Body
bodies d = d.bodies

abbrev pub segments : Draft → List Segment × List ℕ
segments d = (d.module.segments, d.marks.segments)

-- a kind is that of one id alone
abbrev Own : {A : Type 0} → (Section → Option A) → ℕ → Section → Type 0
Own kind id s = (kind s ≡ None) ⊎ (id_of s ≡ id)

record Owns (s : Section) : Type 0 where
  types : Own type_section 1 s
  imports : Own import_section 2 s
  declared : Own function_section 3 s
  tables : Own table_section 4 s
  memories : Own memory_section 5 s
  globals : Own global_section 6 s
  exports : Own export_section 7 s
  start : Own start_section 8 s
  elems : Own element_section 9 s
  bodies : Own code_section 10 s
  segments : Own data_section 11 s

owns : (s : Section) → Owns s
owns (section.Custom name bytes) = record { types = inl refl; imports = inl refl; declared = inl refl; tables = inl refl; memories = inl refl; globals = inl refl; exports = inl refl; start = inl refl; elems = inl refl; bodies = inl refl; segments = inl refl }
owns (section.Types es ps) = record { types = inr refl; imports = inl refl; declared = inl refl; tables = inl refl; memories = inl refl; globals = inl refl; exports = inl refl; start = inl refl; elems = inl refl; bodies = inl refl; segments = inl refl }
owns (section.Imports es ps) = record { types = inl refl; imports = inr refl; declared = inl refl; tables = inl refl; memories = inl refl; globals = inl refl; exports = inl refl; start = inl refl; elems = inl refl; bodies = inl refl; segments = inl refl }
owns (section.Funcs es ps) = record { types = inl refl; imports = inl refl; declared = inr refl; tables = inl refl; memories = inl refl; globals = inl refl; exports = inl refl; start = inl refl; elems = inl refl; bodies = inl refl; segments = inl refl }
owns (section.Tables es ps) = record { types = inl refl; imports = inl refl; declared = inl refl; tables = inr refl; memories = inl refl; globals = inl refl; exports = inl refl; start = inl refl; elems = inl refl; bodies = inl refl; segments = inl refl }
owns (section.Memories es ps) = record { types = inl refl; imports = inl refl; declared = inl refl; tables = inl refl; memories = inr refl; globals = inl refl; exports = inl refl; start = inl refl; elems = inl refl; bodies = inl refl; segments = inl refl }
owns (section.Globals es ps) = record { types = inl refl; imports = inl refl; declared = inl refl; tables = inl refl; memories = inl refl; globals = inr refl; exports = inl refl; start = inl refl; elems = inl refl; bodies = inl refl; segments = inl refl }
owns (section.Exports es ps) = record { types = inl refl; imports = inl refl; declared = inl refl; tables = inl refl; memories = inl refl; globals = inl refl; exports = inr refl; start = inl refl; elems = inl refl; bodies = inl refl; segments = inl refl }
owns (section.Start n p) = record { types = inl refl; imports = inl refl; declared = inl refl; tables = inl refl; memories = inl refl; globals = inl refl; exports = inl refl; start = inr refl; elems = inl refl; bodies = inl refl; segments = inl refl }
owns (section.Elems es ps) = record { types = inl refl; imports = inl refl; declared = inl refl; tables = inl refl; memories = inl refl; globals = inl refl; exports = inl refl; start = inl refl; elems = inr refl; bodies = inl refl; segments = inl refl }
owns (section.Bodies bs) = record { types = inl refl; imports = inl refl; declared = inl refl; tables = inl refl; memories = inl refl; globals = inl refl; exports = inl refl; start = inl refl; elems = inl refl; bodies = inr refl; segments = inl refl }
owns (section.Segments es ps) = record { types = inl refl; imports = inl refl; declared = inl refl; tables = inl refl; memories = inl refl; globals = inl refl; exports = inl refl; start = inl refl; elems = inl refl; bodies = inl refl; segments = inr refl }

-- what a draft has of a kind is changed by a section of that kind alone
abbrev Taken : {A : Type 0} → (Section → Option A) → (Draft → A) → Draft → Section → Type 0
Taken kind has d s = has (with_section d s) ≡ unwrap_or (kind s) (has d)

record Takes (d : Draft) (s : Section) : Type 0 where
  types : Taken type_section types d s
  imports : Taken import_section imports d s
  declared : Taken function_section declared d s
  tables : Taken table_section tables d s
  memories : Taken memory_section memories d s
  globals : Taken global_section globals d s
  exports : Taken export_section exports d s
  start : Taken start_section start d s
  elems : Taken element_section elems d s
  bodies : Taken code_section bodies d s
  segments : Taken data_section segments d s

takes : (d : Draft) (s : Section) → Takes d s
takes d (section.Custom name bytes) = record { types = refl; imports = refl; declared = refl; tables = refl; memories = refl; globals = refl; exports = refl; start = refl; elems = refl; bodies = refl; segments = refl }
takes d (section.Types es ps) = record { types = refl; imports = refl; declared = refl; tables = refl; memories = refl; globals = refl; exports = refl; start = refl; elems = refl; bodies = refl; segments = refl }
takes d (section.Imports es ps) = record { types = refl; imports = refl; declared = refl; tables = refl; memories = refl; globals = refl; exports = refl; start = refl; elems = refl; bodies = refl; segments = refl }
takes d (section.Funcs es ps) = record { types = refl; imports = refl; declared = refl; tables = refl; memories = refl; globals = refl; exports = refl; start = refl; elems = refl; bodies = refl; segments = refl }
takes d (section.Tables es ps) = record { types = refl; imports = refl; declared = refl; tables = refl; memories = refl; globals = refl; exports = refl; start = refl; elems = refl; bodies = refl; segments = refl }
takes d (section.Memories es ps) = record { types = refl; imports = refl; declared = refl; tables = refl; memories = refl; globals = refl; exports = refl; start = refl; elems = refl; bodies = refl; segments = refl }
takes d (section.Globals es ps) = record { types = refl; imports = refl; declared = refl; tables = refl; memories = refl; globals = refl; exports = refl; start = refl; elems = refl; bodies = refl; segments = refl }
takes d (section.Exports es ps) = record { types = refl; imports = refl; declared = refl; tables = refl; memories = refl; globals = refl; exports = refl; start = refl; elems = refl; bodies = refl; segments = refl }
takes d (section.Start n p) = record { types = refl; imports = refl; declared = refl; tables = refl; memories = refl; globals = refl; exports = refl; start = refl; elems = refl; bodies = refl; segments = refl }
takes d (section.Elems es ps) = record { types = refl; imports = refl; declared = refl; tables = refl; memories = refl; globals = refl; exports = refl; start = refl; elems = refl; bodies = refl; segments = refl }
takes d (section.Bodies bs) = record { types = refl; imports = refl; declared = refl; tables = refl; memories = refl; globals = refl; exports = refl; start = refl; elems = refl; bodies = refl; segments = refl }
takes d (section.Segments es ps) = record { types = refl; imports = refl; declared = refl; tables = refl; memories = refl; globals = refl; exports = refl; start = refl; elems = refl; bodies = refl; segments = refl }

-- ---- the order

rises : (d : Draft) (s : Section) (ss : List Section) → Rising d.last (s ∷ ss) → Rising (with_section d s).last ss
rises d (section.Custom name bytes) ss (inl h) = h.1
rises d (section.Custom name bytes) ss (inr h) = absurd (omega (arith, h.0))
rises d (section.Types es ps) ss (inl h) = absurd (omega (arith, h.0))
rises d (section.Types es ps) ss (inr h) = h.1
rises d (section.Imports es ps) ss (inl h) = absurd (omega (arith, h.0))
rises d (section.Imports es ps) ss (inr h) = h.1
rises d (section.Funcs es ps) ss (inl h) = absurd (omega (arith, h.0))
rises d (section.Funcs es ps) ss (inr h) = h.1
rises d (section.Tables es ps) ss (inl h) = absurd (omega (arith, h.0))
rises d (section.Tables es ps) ss (inr h) = h.1
rises d (section.Memories es ps) ss (inl h) = absurd (omega (arith, h.0))
rises d (section.Memories es ps) ss (inr h) = h.1
rises d (section.Globals es ps) ss (inl h) = absurd (omega (arith, h.0))
rises d (section.Globals es ps) ss (inr h) = h.1
rises d (section.Exports es ps) ss (inl h) = absurd (omega (arith, h.0))
rises d (section.Exports es ps) ss (inr h) = h.1
rises d (section.Start n p) ss (inl h) = absurd (omega (arith, h.0))
rises d (section.Start n p) ss (inr h) = h.1
rises d (section.Elems es ps) ss (inl h) = absurd (omega (arith, h.0))
rises d (section.Elems es ps) ss (inr h) = h.1
rises d (section.Bodies bs) ss (inl h) = absurd (omega (arith, h.0))
rises d (section.Bodies bs) ss (inr h) = h.1
rises d (section.Segments es ps) ss (inl h) = absurd (omega (arith, h.0))
rises d (section.Segments es ps) ss (inr h) = h.1

stands_rise : (d : Draft) (s : Section) (ss : List Section) → InOrder d.last (id_of s) → Rising (with_section d s).last ss → Rising d.last (s ∷ ss)
stands_rise d (section.Custom name bytes) ss o h = inl (refl, h)
stands_rise d (section.Types es ps) ss (inl e) h = absurd (omega (arith, e))
stands_rise d (section.Types es ps) ss (inr l) h = inr (l, h)
stands_rise d (section.Imports es ps) ss (inl e) h = absurd (omega (arith, e))
stands_rise d (section.Imports es ps) ss (inr l) h = inr (l, h)
stands_rise d (section.Funcs es ps) ss (inl e) h = absurd (omega (arith, e))
stands_rise d (section.Funcs es ps) ss (inr l) h = inr (l, h)
stands_rise d (section.Tables es ps) ss (inl e) h = absurd (omega (arith, e))
stands_rise d (section.Tables es ps) ss (inr l) h = inr (l, h)
stands_rise d (section.Memories es ps) ss (inl e) h = absurd (omega (arith, e))
stands_rise d (section.Memories es ps) ss (inr l) h = inr (l, h)
stands_rise d (section.Globals es ps) ss (inl e) h = absurd (omega (arith, e))
stands_rise d (section.Globals es ps) ss (inr l) h = inr (l, h)
stands_rise d (section.Exports es ps) ss (inl e) h = absurd (omega (arith, e))
stands_rise d (section.Exports es ps) ss (inr l) h = inr (l, h)
stands_rise d (section.Start n p) ss (inl e) h = absurd (omega (arith, e))
stands_rise d (section.Start n p) ss (inr l) h = inr (l, h)
stands_rise d (section.Elems es ps) ss (inl e) h = absurd (omega (arith, e))
stands_rise d (section.Elems es ps) ss (inr l) h = inr (l, h)
stands_rise d (section.Bodies bs) ss (inl e) h = absurd (omega (arith, e))
stands_rise d (section.Bodies bs) ss (inr l) h = inr (l, h)
stands_rise d (section.Segments es ps) ss (inl e) h = absurd (omega (arith, e))
stands_rise d (section.Segments es ps) ss (inr l) h = inr (l, h)

pub stand_rising : (d : Draft) (ss : List Section) → MayStand d ss → Rising d.last ss
stand_rising d [] h = tt
stand_rising d (s ∷ ss) h = stands_rise d s ss h.0 (stand_rising (with_section d s) ss h.2)

-- no section of a kind stands behind one of its id or a greater one
absent : {A : Type 0} (kind : Section → Option A) (id : ℕ) → ((s : Section) → Own kind id s) → 0 < id → (last : ℕ) (ss : List Section) → id ≤ last → Rising last ss → (x : A) → given kind x ss ≡ x
absent kind id own some last [] le h x = refl
absent {A} kind id own some last (s ∷ ss) le (inl h) x =
    elim (own s) [
      | inl e ↦ ap (λ (o : Option A). unwrap_or o (given kind x ss)) e ∙ absent kind id own some last ss le h.1 x
      | inr e ↦ absurd (omega (arith, e, h.0))
    ]
absent {A} kind id own some last (s ∷ ss) le (inr h) x =
    elim (own s) [
      | inl e ↦ ap (λ (o : Option A). unwrap_or o (given kind x ss)) e ∙ absent kind id own some (id_of s) ss (omega (arith, h.0)) h.1 x
      | inr e ↦ absurd (omega (arith, e, h.0))
    ]

-- what a draft has behind sections is what they give
all_given : {A : Type 0} (kind : Section → Option A) (id : ℕ) (has : Draft → A) → ((s : Section) → Own kind id s) → ((d : Draft) (s : Section) → Taken kind has d s) → 0 < id →
    (d : Draft) (ss : List Section) → Rising d.last ss → has (with_sections d ss) ≡ given kind (has d) ss
all_given kind id has own taken some d [] h = refl
all_given {A} kind id has own taken some d (s ∷ ss) h =
    all_given kind id has own taken some (with_section d s) ss (rises d s ss h) ∙ ap (λ (x : A). given kind x ss) (taken d s) ∙ once (own s) h
  where
    once : Own kind id s → Rising d.last (s ∷ ss) → given kind (unwrap_or (kind s) (has d)) ss ≡ unwrap_or (kind s) (given kind (has d) ss)
    once (inl e) h = rw e refl
    once (inr e) (inl h) = absurd (omega (arith, e, h.0))
    once (inr e) (inr h) =
        let none = absent kind id own some (id_of s) ss (omega (arith, e)) h.1 in
        none (unwrap_or (kind s) (has d)) ∙ ap (λ (x : A). unwrap_or (kind s) x) (sym (none (has d)))

-- ---- the counts

code_counts : (d : Draft) (s : Section) (ss : List Section) → Rising d.last (s ∷ ss) → length (with_sections d (s ∷ ss)).bodies ≡ length (with_sections d (s ∷ ss)).declared → Counts (length d.declared) s
code_counts d (section.Custom name bytes) ss h e = tt
code_counts d (section.Types es ps) ss h e = tt
code_counts d (section.Imports es ps) ss h e = tt
code_counts d (section.Funcs es ps) ss h e = tt
code_counts d (section.Tables es ps) ss h e = tt
code_counts d (section.Memories es ps) ss h e = tt
code_counts d (section.Globals es ps) ss h e = tt
code_counts d (section.Exports es ps) ss h e = tt
code_counts d (section.Start n p) ss h e = tt
code_counts d (section.Elems es ps) ss h e = tt
code_counts d (section.Bodies bs) ss h e =
    let d2 = with_section d (section.Bodies bs) in
    let r = rises d (section.Bodies bs) ss h in
    let b : bodies (with_sections d2 ss) ≡ bs = all_given code_section 10 bodies (λ s. (owns s).bodies) (λ d s. (takes d s).bodies) (omega arith) d2 ss r ∙ absent code_section 10 (λ s. (owns s).bodies) (omega arith) 10 ss (omega arith) r bs in
    let t : declared (with_sections d2 ss) ≡ declared d = all_given function_section 3 declared (λ s. (owns s).declared) (λ d s. (takes d s).declared) (omega arith) d2 ss r ∙ absent function_section 3 (λ s. (owns s).declared) (omega arith) 10 ss (omega arith) r (declared d) in
    ap length (sym b) ∙ e ∙ ap (λ (x : List ℕ × List ℕ). length x.0) t
code_counts d (section.Segments es ps) ss h e = tt

in_order : (d : Draft) (s : Section) (ss : List Section) → Rising d.last (s ∷ ss) → InOrder d.last (id_of s)
in_order d s ss (inl h) = inl h.0
in_order d s ss (inr h) = inr h.0

rising_stand : (d : Draft) (ss : List Section) → Rising d.last ss → length (with_sections d ss).bodies ≡ length (with_sections d ss).declared → MayStand d ss
rising_stand d [] h e = tt
rising_stand d (s ∷ ss) h e = (in_order d s ss h, code_counts d s ss h e, rising_stand (with_section d s) ss (rises d s ss h) e)

-- ---- custom sections

record Named (d : Draft) (s : Section) : Type 0 where
  customs : (with_section d s).module.customs ≡ d.module.customs ++ if_custom d.after s
  after : (with_section d s).after ≡ last_filled d.after s

named : (d : Draft) (s : Section) → Named d s
named d (section.Custom name bytes) = record { customs = refl; after = refl }
named d (section.Types es ps) = record { customs = sym (append-nil d.module.customs); after = refl }
named d (section.Imports es ps) = record { customs = sym (append-nil d.module.customs); after = refl }
named d (section.Funcs es ps) = record { customs = sym (append-nil d.module.customs); after = refl }
named d (section.Tables es ps) = record { customs = sym (append-nil d.module.customs); after = refl }
named d (section.Memories es ps) = record { customs = sym (append-nil d.module.customs); after = refl }
named d (section.Globals es ps) = record { customs = sym (append-nil d.module.customs); after = refl }
named d (section.Exports es ps) = record { customs = sym (append-nil d.module.customs); after = refl }
named d (section.Start n p) = record { customs = sym (append-nil d.module.customs); after = refl }
named d (section.Elems es ps) = record { customs = sym (append-nil d.module.customs); after = refl }
named d (section.Bodies bs) = record { customs = sym (append-nil d.module.customs); after = refl }
named d (section.Segments es ps) = record { customs = sym (append-nil d.module.customs); after = refl }

all_named : (d : Draft) (ss : List Section) → (with_sections d ss).module.customs ≡ d.module.customs ++ customs_of d.after ss
all_named d [] = sym (append-nil d.module.customs)
all_named d (s ∷ ss) =
    let n = named d s in
    all_named (with_section d s) ss ∙
    ap (λ cs. cs ++ customs_of (with_section d s).after ss) n.customs ∙
    ap (λ last. (d.module.customs ++ if_custom d.after s) ++ customs_of last ss) n.after ∙
    append_assoc d.module.customs (if_custom d.after s) (customs_of (last_filled d.after s) ss)

-- ---- functions

are_funcs : (ts : List ℕ) (bs : List Body) → length bs ≡ length ts → AreFuncs ts bs (funcs_of ts bs)
are_funcs [] [] e = tt
are_funcs [] (b ∷ bs) e = absurd (omega (arith, e))
are_funcs (t ∷ ts) [] e = absurd (omega (arith, e))
are_funcs (t ∷ ts) (b ∷ bs) e = (refl, are_funcs ts bs (omega (arith, e)))

pub funcs_count : (ts : List ℕ) (bs : List Body) (fs : List Func) → AreFuncs ts bs fs → length bs ≡ length ts
funcs_count [] [] [] h = refl
funcs_count [] [] (f ∷ fs) h = absurd h
funcs_count [] (b ∷ bs) fs h = absurd h
funcs_count (t ∷ ts) [] fs h = absurd h
funcs_count (t ∷ ts) (b ∷ bs) [] h = absurd h
funcs_count (t ∷ ts) (b ∷ bs) (f ∷ fs) h = ap suc (funcs_count ts bs fs h.1)

funcs_are : (ts : List ℕ) (bs : List Body) (fs : List Func) → AreFuncs ts bs fs → funcs_of ts bs ≡ fs
funcs_are [] [] [] h = refl
funcs_are [] [] (f ∷ fs) h = absurd h
funcs_are [] (b ∷ bs) fs h = absurd h
funcs_are (t ∷ ts) [] fs h = absurd h
funcs_are (t ∷ ts) (b ∷ bs) [] h = absurd h
funcs_are (t ∷ ts) (b ∷ bs) (f ∷ fs) h =
    ap (λ (g : Func). g ∷ funcs_of ts bs) (sym h.0) ∙ ap (λ (gs : List Func). f ∷ gs) (funcs_are ts bs fs h.1)

-- ---- the whole module

-- what a draft behind sections from nothing has
pub record Gives (ss : List Section) (d : Draft) : Type 0 where
  pub types : types d ≡ given type_section ([], []) ss
  pub imports : imports d ≡ given import_section ([], []) ss
  pub declared : declared d ≡ given function_section ([], []) ss
  pub tables : tables d ≡ given table_section ([], []) ss
  pub memories : memories d ≡ given memory_section ([], []) ss
  pub globals : globals d ≡ given global_section ([], []) ss
  pub exports : exports d ≡ given export_section ([], []) ss
  pub start : start d ≡ given start_section (None, 0) ss
  pub elems : elems d ≡ given element_section ([], []) ss
  pub bodies : bodies d ≡ given code_section [] ss
  pub segments : segments d ≡ given data_section ([], []) ss
  pub customs : d.module.customs ≡ customs_of 0 ss

pub gives : (ss : List Section) → Rising 0 ss → Gives ss (with_sections no_sections ss)
gives ss h = record {
  types = all_given type_section 1 types (λ s. (owns s).types) (λ d s. (takes d s).types) (omega arith) no_sections ss h;
  imports = all_given import_section 2 imports (λ s. (owns s).imports) (λ d s. (takes d s).imports) (omega arith) no_sections ss h;
  declared = all_given function_section 3 declared (λ s. (owns s).declared) (λ d s. (takes d s).declared) (omega arith) no_sections ss h;
  tables = all_given table_section 4 tables (λ s. (owns s).tables) (λ d s. (takes d s).tables) (omega arith) no_sections ss h;
  memories = all_given memory_section 5 memories (λ s. (owns s).memories) (λ d s. (takes d s).memories) (omega arith) no_sections ss h;
  globals = all_given global_section 6 globals (λ s. (owns s).globals) (λ d s. (takes d s).globals) (omega arith) no_sections ss h;
  exports = all_given export_section 7 exports (λ s. (owns s).exports) (λ d s. (takes d s).exports) (omega arith) no_sections ss h;
  start = all_given start_section 8 start (λ s. (owns s).start) (λ d s. (takes d s).start) (omega arith) no_sections ss h;
  elems = all_given element_section 9 elems (λ s. (owns s).elems) (λ d s. (takes d s).elems) (omega arith) no_sections ss h;
  bodies = all_given code_section 10 bodies (λ s. (owns s).bodies) (λ d s. (takes d s).bodies) (omega arith) no_sections ss h;
  segments = all_given data_section 11 segments (λ s. (owns s).segments) (λ d s. (takes d s).segments) (omega arith) no_sections ss h;
  customs = all_named no_sections ss;
}

pub parts_of : (ss : List Section) (len : ℕ) (d : Draft) → Gives ss d → length d.bodies ≡ length d.declared → AreParts ss (whole_module len d).«module» (whole_module len d).marks
parts_of ss len d g e = record {
  types = g.types;
  imports = g.imports;
  tables = g.tables;
  memories = g.memories;
  globals = g.globals;
  exports = g.exports;
  start = g.start;
  elems = g.elems;
  segments = g.segments;
  funcs = subst (λ (bs : List Body). AreFuncs (given function_section ([], []) ss).0 bs (funcs_of d.declared d.bodies)) g.bodies
      (subst (λ (x : List ℕ × List ℕ). AreFuncs x.0 d.bodies (funcs_of d.declared d.bodies)) g.declared (are_funcs d.declared d.bodies e));
  func_places = ap (λ (x : List ℕ × List ℕ). x.1) g.declared;
  code = ap places_of g.bodies;
  customs = g.customs;
}

-- bytes that are so put together are spelled
pub spelled : (bytes : List ℕ) (m : Module) (k : Marks) → Drafted bytes m k → Spells bytes m k
unfolding Spells
spelled bytes m k h =
    let ss = h.sections in
    let d = with_sections no_sections ss in
    let r = stand_rising no_sections ss h.stand in
    let parts = parts_of ss (length bytes) d (gives ss r) h.counted in
    (ss, h.rest, h.parts, h.turn, r, subst (λ (x : Decoded). AreParts ss x.«module» x.marks) h.is parts, sym (ap (λ (x : Decoded). x.marks.len) h.is))

same_module : (m n : Module) → m.types ≡ n.types → m.imports ≡ n.imports → m.funcs ≡ n.funcs → m.tables ≡ n.tables → m.memories ≡ n.memories → m.globals ≡ n.globals → m.exports ≡ n.exports →
    m.start ≡ n.start → m.elems ≡ n.elems → m.segments ≡ n.segments → m.customs ≡ n.customs → m ≡ n
same_module m n same_types same_imports same_funcs same_tables same_memories same_globals same_exports same_start same_elems same_segments same_customs =
    ap (λ x. record { types = x; imports = m.imports; funcs = m.funcs; tables = m.tables; memories = m.memories; globals = m.globals; exports = m.exports; start = m.start; elems = m.elems; segments = m.segments; customs = m.customs }) same_types ∙
    ap (λ x. record { types = n.types; imports = x; funcs = m.funcs; tables = m.tables; memories = m.memories; globals = m.globals; exports = m.exports; start = m.start; elems = m.elems; segments = m.segments; customs = m.customs }) same_imports ∙
    ap (λ x. record { types = n.types; imports = n.imports; funcs = x; tables = m.tables; memories = m.memories; globals = m.globals; exports = m.exports; start = m.start; elems = m.elems; segments = m.segments; customs = m.customs }) same_funcs ∙
    ap (λ x. record { types = n.types; imports = n.imports; funcs = n.funcs; tables = x; memories = m.memories; globals = m.globals; exports = m.exports; start = m.start; elems = m.elems; segments = m.segments; customs = m.customs }) same_tables ∙
    ap (λ x. record { types = n.types; imports = n.imports; funcs = n.funcs; tables = n.tables; memories = x; globals = m.globals; exports = m.exports; start = m.start; elems = m.elems; segments = m.segments; customs = m.customs }) same_memories ∙
    ap (λ x. record { types = n.types; imports = n.imports; funcs = n.funcs; tables = n.tables; memories = n.memories; globals = x; exports = m.exports; start = m.start; elems = m.elems; segments = m.segments; customs = m.customs }) same_globals ∙
    ap (λ x. record { types = n.types; imports = n.imports; funcs = n.funcs; tables = n.tables; memories = n.memories; globals = n.globals; exports = x; start = m.start; elems = m.elems; segments = m.segments; customs = m.customs }) same_exports ∙
    ap (λ x. record { types = n.types; imports = n.imports; funcs = n.funcs; tables = n.tables; memories = n.memories; globals = n.globals; exports = n.exports; start = x; elems = m.elems; segments = m.segments; customs = m.customs }) same_start ∙
    ap (λ x. record { types = n.types; imports = n.imports; funcs = n.funcs; tables = n.tables; memories = n.memories; globals = n.globals; exports = n.exports; start = n.start; elems = x; segments = m.segments; customs = m.customs }) same_elems ∙
    ap (λ x. record { types = n.types; imports = n.imports; funcs = n.funcs; tables = n.tables; memories = n.memories; globals = n.globals; exports = n.exports; start = n.start; elems = n.elems; segments = x; customs = m.customs }) same_segments ∙
    ap (λ x. record { types = n.types; imports = n.imports; funcs = n.funcs; tables = n.tables; memories = n.memories; globals = n.globals; exports = n.exports; start = n.start; elems = n.elems; segments = n.segments; customs = x }) same_customs

same_marks : (j k : Marks) → j.len ≡ k.len → j.types ≡ k.types → j.imports ≡ k.imports → j.funcs ≡ k.funcs → j.tables ≡ k.tables → j.memories ≡ k.memories → j.globals ≡ k.globals → j.exports ≡ k.exports →
    j.start ≡ k.start → j.elems ≡ k.elems → j.segments ≡ k.segments → j.code ≡ k.code → j ≡ k
same_marks j k same_len same_types same_imports same_funcs same_tables same_memories same_globals same_exports same_start same_elems same_segments same_code =
    ap (λ x. record { len = x; types = j.types; imports = j.imports; funcs = j.funcs; tables = j.tables; memories = j.memories; globals = j.globals; exports = j.exports; start = j.start; elems = j.elems; segments = j.segments; code = j.code }) same_len ∙
    ap (λ x. record { len = k.len; types = x; imports = j.imports; funcs = j.funcs; tables = j.tables; memories = j.memories; globals = j.globals; exports = j.exports; start = j.start; elems = j.elems; segments = j.segments; code = j.code }) same_types ∙
    ap (λ x. record { len = k.len; types = k.types; imports = x; funcs = j.funcs; tables = j.tables; memories = j.memories; globals = j.globals; exports = j.exports; start = j.start; elems = j.elems; segments = j.segments; code = j.code }) same_imports ∙
    ap (λ x. record { len = k.len; types = k.types; imports = k.imports; funcs = x; tables = j.tables; memories = j.memories; globals = j.globals; exports = j.exports; start = j.start; elems = j.elems; segments = j.segments; code = j.code }) same_funcs ∙
    ap (λ x. record { len = k.len; types = k.types; imports = k.imports; funcs = k.funcs; tables = x; memories = j.memories; globals = j.globals; exports = j.exports; start = j.start; elems = j.elems; segments = j.segments; code = j.code }) same_tables ∙
    ap (λ x. record { len = k.len; types = k.types; imports = k.imports; funcs = k.funcs; tables = k.tables; memories = x; globals = j.globals; exports = j.exports; start = j.start; elems = j.elems; segments = j.segments; code = j.code }) same_memories ∙
    ap (λ x. record { len = k.len; types = k.types; imports = k.imports; funcs = k.funcs; tables = k.tables; memories = k.memories; globals = x; exports = j.exports; start = j.start; elems = j.elems; segments = j.segments; code = j.code }) same_globals ∙
    ap (λ x. record { len = k.len; types = k.types; imports = k.imports; funcs = k.funcs; tables = k.tables; memories = k.memories; globals = k.globals; exports = x; start = j.start; elems = j.elems; segments = j.segments; code = j.code }) same_exports ∙
    ap (λ x. record { len = k.len; types = k.types; imports = k.imports; funcs = k.funcs; tables = k.tables; memories = k.memories; globals = k.globals; exports = k.exports; start = x; elems = j.elems; segments = j.segments; code = j.code }) same_start ∙
    ap (λ x. record { len = k.len; types = k.types; imports = k.imports; funcs = k.funcs; tables = k.tables; memories = k.memories; globals = k.globals; exports = k.exports; start = k.start; elems = x; segments = j.segments; code = j.code }) same_elems ∙
    ap (λ x. record { len = k.len; types = k.types; imports = k.imports; funcs = k.funcs; tables = k.tables; memories = k.memories; globals = k.globals; exports = k.exports; start = k.start; elems = k.elems; segments = x; code = j.code }) same_segments ∙
    ap (λ x. record { len = k.len; types = k.types; imports = k.imports; funcs = k.funcs; tables = k.tables; memories = k.memories; globals = k.globals; exports = k.exports; start = k.start; elems = k.elems; segments = k.segments; code = x }) same_code

firsts : {A B : Type 0} (x y : A × B) → x ≡ y → x.0 ≡ y.0
firsts {A} {B} x y e = ap (λ (z : A × B). z.0) e

seconds : {A B : Type 0} (x y : A × B) → x ≡ y → x.1 ≡ y.1
seconds {A} {B} x y e = ap (λ (z : A × B). z.1) e

abbrev pub decoded : Module → Marks → Decoded
decoded m k = record { «module» = m; marks = k }

funcs_same : (ss : List Section) (d : Draft) (fs : List Func) → Gives ss d → AreFuncs (given function_section ([], []) ss).0 (given code_section [] ss) fs → funcs_of d.declared d.bodies ≡ fs
funcs_same ss d fs g h =
    ap (λ (x : List ℕ × List ℕ). funcs_of x.0 d.bodies) g.declared ∙ ap (funcs_of (given function_section ([], []) ss).0) g.bodies ∙
    funcs_are (given function_section ([], []) ss).0 (given code_section [] ss) fs h

pub module_same : (ss : List Section) (len : ℕ) (d : Draft) (m : Module) (k : Marks) → Gives ss d → AreParts ss m k → (whole_module len d).«module» ≡ m
module_same ss len d m k g h =
    same_module (whole_module len d).«module» m
    (firsts (types d) (m.types, k.types) (g.types ∙ sym h.types))
    (firsts (imports d) (m.imports, k.imports) (g.imports ∙ sym h.imports))
    (funcs_same ss d m.funcs g h.funcs)
    (firsts (tables d) (m.tables, k.tables) (g.tables ∙ sym h.tables))
    (firsts (memories d) (m.memories, k.memories) (g.memories ∙ sym h.memories))
    (firsts (globals d) (m.globals, k.globals) (g.globals ∙ sym h.globals))
    (firsts (exports d) (m.exports, k.exports) (g.exports ∙ sym h.exports))
    (firsts (start d) (m.start, k.start) (g.start ∙ sym h.start))
    (firsts (elems d) (m.elems, k.elems) (g.elems ∙ sym h.elems))
    (firsts (segments d) (m.segments, k.segments) (g.segments ∙ sym h.segments))
    (g.customs ∙ sym h.customs)

pub marks_same : (ss : List Section) (len : ℕ) (d : Draft) (m : Module) (k : Marks) → Gives ss d → AreParts ss m k → k.len ≡ len → (whole_module len d).marks ≡ k
marks_same ss len d m k g h e =
    same_marks (whole_module len d).marks k
    (sym e)
    (seconds (types d) (m.types, k.types) (g.types ∙ sym h.types))
    (seconds (imports d) (m.imports, k.imports) (g.imports ∙ sym h.imports))
    (ap (λ (x : List ℕ × List ℕ). x.1) g.declared ∙ sym h.func_places)
    (seconds (tables d) (m.tables, k.tables) (g.tables ∙ sym h.tables))
    (seconds (memories d) (m.memories, k.memories) (g.memories ∙ sym h.memories))
    (seconds (globals d) (m.globals, k.globals) (g.globals ∙ sym h.globals))
    (seconds (exports d) (m.exports, k.exports) (g.exports ∙ sym h.exports))
    (seconds (start d) (m.start, k.start) (g.start ∙ sym h.start))
    (seconds (elems d) (m.elems, k.elems) (g.elems ∙ sym h.elems))
    (seconds (segments d) (m.segments, k.segments) (g.segments ∙ sym h.segments))
    (ap places_of g.bodies ∙ sym h.code)

-- what bytes spell is so put together
pub drafted : (bytes : List ℕ) (m : Module) (k : Marks) → Spells bytes m k → Drafted bytes m k
unfolding Spells
drafted bytes m k h =
    let ss = h.0 in
    let len = length bytes in
    let d = with_sections no_sections ss in
    let g = gives ss h.4 in
    let counted : length d.bodies ≡ length d.declared =
    ap length g.bodies ∙ funcs_count (given function_section ([], []) ss).0 (given code_section [] ss) m.funcs h.5.funcs ∙ sym (ap (λ (x : List ℕ × List ℕ). length x.0) g.declared) in
    record {
      sections = ss;
      rest = h.1;
      parts = h.2;
      turn = h.3;
      stand = rising_stand no_sections ss h.4 counted;
      counted = counted;
      is = ap (λ (n : Module). decoded n (whole_module len d).marks) (module_same ss len d m k g h.5) ∙ ap (λ (j : Marks). decoded m j) (marks_same ss len d m k g h.5 h.6);
    }
