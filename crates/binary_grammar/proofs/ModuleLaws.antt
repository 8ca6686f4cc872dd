-- Modules are read exactly, within the limits.
use Rattle.std.proofs.Common.{◌≡◌, ℕ, zero, suc, ◌<◌, ◌≤◌, ltb, eqb, List, [], ◌∷◌, ◌++◌, length, Result, Ok, Err, inl, inr, refl, sym, ap, subst, ◌∙◌, arith}
use Rattle.std.specs.List.{AllByRecursion}
use Rattle.std.proofs.lemmas.Bool.{le-ltb, eqb-true, eq-eqb}
use Rattle.std.proofs.lemmas.List.{length-append, nil_from_length}
use Rattle.wasm_syntax.specs.declared.module.Module.{Module}
use Rattle.wasm_syntax.specs.declared.module.Marks.{Marks}
use Rattle.binary_grammar.specs.declared.fault.DecodeFault.{DecodeFault}
use Rattle.binary_grammar.specs.declared.fault.DecodeFault.TheVariants.{Malformed}
use Rattle.binary_grammar.specs.declared.fault.DecodeWord.TheVariants as word
use Rattle.binary_grammar.specs.declared.section.Body.{Body}
use Rattle.binary_grammar.specs.declared.section.Section.{Section}
use Rattle.binary_grammar.specs.declared.section.Section.TheVariants as section
use Rattle.binary_grammar.specs.declared.section.Draft.{Draft}
use Rattle.binary_grammar.specs.declared.section.Decoded.{Decoded}
use Rattle.binary_grammar.specs.Bounds.{Bounds}
use Rattle.binary_grammar.specs.words.Reading.{◌>>=◌, place}
use Rattle.binary_grammar.specs.words.SectionReading.{section_at, with_section, no_sections, sections_at, funcs_of, whole_module, finished_at, header, magic_at, header_at, module_at}
use Rattle.binary_grammar.specs.ModuleGrammar.{id_of, SpellsSection, InTurn, Spells, FuncTypeWithin, GlobalWithin, ElemWithin, SegmentWithin, FuncWithin, InLimits}
use Rattle.binary_grammar.proofs.Drafts.{InOrder, MayStand, with_sections, Drafted}
use Rattle.binary_grammar.proofs.DraftLaws.{spelled, drafted}
use Rattle.binary_grammar.proofs.NumberLaws.{chosen}
use Rattle.binary_grammar.proofs.Exact.{ok, ok_is, bind_ok, place_after, shorter}
use Rattle.binary_grammar.proofs.BodyLaws.{BodyWithin}
use Rattle.binary_grammar.proofs.SectionLaws.{SectionWithin, exact_section, some_section}

abbrev err : {A : Type 0} → DecodeFault → Result A DecodeFault
err e = Err e

-- ---- the header

magic_takes : (hs : List ℕ) (end : ℕ) (bytes rest : List ℕ) → magic_at hs end bytes ≡ Ok rest → bytes ≡ hs ++ rest
unfolding magic_at
magic_takes [] end bytes rest e = ok_is bytes rest e
magic_takes (h ∷ hs) end [] rest e = absurd cc
magic_takes (h ∷ hs) end (b ∷ bs) rest e =
    elim (chosen (eqb b h) (magic_at hs end bs) (err (Malformed (place end (b ∷ bs)) word.Magic)) (ok rest) e) [
      | inl k ↦ ap (λ x. x ∷ bs) (eqb-true b h k.0) ∙ ap (λ xs. h ∷ xs) (magic_takes hs end bs rest k.1)
      | inr k ↦ absurd (let q = k.1 in cc)
    ]

magic_again : (hs : List ℕ) (end : ℕ) (rest : List ℕ) → magic_at hs end (hs ++ rest) ≡ Ok rest
unfolding magic_at
magic_again [] end rest = refl
magic_again (h ∷ hs) end rest = rw (eq-eqb h h refl) (magic_again hs end rest)

pub header_takes : (end : ℕ) (bytes rest : List ℕ) → header_at end bytes ≡ Ok rest → bytes ≡ header ++ rest
unfolding header_at
header_takes end bytes rest e =
    elim (chosen (ltb (length bytes) 8) (err (Malformed end word.End)) (magic_at header end bytes) (ok rest) e) [
      | inl h ↦ absurd (let k = h.1 in cc)
      | inr h ↦ magic_takes header end bytes rest h.1
    ]

header_again : (end : ℕ) (rest : List ℕ) → header_at end (header ++ rest) ≡ Ok rest
unfolding header_at
header_again end rest = rw (le-ltb (length (header ++ rest)) 8 (omega (arith, length-append header rest))) (magic_again header end rest)

-- ---- sections

-- what was taken of sections
record SectionsTaken (most : Bounds) (d : Draft) (end : ℕ) (bytes : List ℕ) (e : Draft) : Type 0 where
  sections : List Section
  turn : InTurn (place end bytes) bytes sections
  stand : MayStand d sections
  is : e ≡ with_sections d sections
  within : AllByRecursion (SectionWithin most) sections

none_left : (most : Bounds) (d e : Draft) (end : ℕ) (bytes : List ℕ) → bytes ≡ [] → ok d ≡ ok e → SectionsTaken most d end bytes e
none_left most d e end bytes none q = record { sections = []; turn = none; stand = tt; is = sym (ok_is d e q); within = tt }

sections_take : (most : Bounds) (n : ℕ) (d e : Draft) (end : ℕ) (bytes : List ℕ) → length bytes ≤ end → length bytes ≤ n → sections_at most n d end bytes ≡ Ok e → SectionsTaken most d end bytes e
unfolding sections_at
sections_take most zero d e end bytes le few q = none_left most d e end bytes (nil_from_length bytes (omega arith)) q
sections_take most (suc n) d e end [] le few q = none_left most d e end [] refl q
sections_take most (suc n) d e end (b ∷ bs) le few q =
    let p = bind_ok (section_at most d.last (length d.declared) end (b ∷ bs)) (λ s. sections_at most n (with_section d s.0) end s.1) e q in
    let s = p.0.0 in
    let rest = p.0.1 in
    let t = (exact_section most d.last (length d.declared)).takes end (b ∷ bs) rest s le p.1 in
    let some = some_section (place end (b ∷ bs)) t.text s t.spells in
    let left : length rest ≤ n = omega (arith, ap length t.parts, length-append t.text rest) in
    let u = sections_take most n (with_section d s) e end rest (shorter end (b ∷ bs) t.text rest le t.parts) left p.2 in
    record {
      sections = s ∷ u.sections;
      turn = (t.text, rest, t.parts, t.spells, subst (λ at. InTurn at rest u.sections) (sym (place_after end (b ∷ bs) t.text rest le t.parts)) u.turn);
      stand = (t.within.1, t.within.0.1, u.stand);
      is = u.is;
      within = (t.within.0.0, u.within);
    }

one_section : (most : Bounds) (n : ℕ) (d : Draft) (end : ℕ) (bytes : List ℕ) (s : Section) (rest : List ℕ) → 0 < length bytes → section_at most d.last (length d.declared) end bytes ≡ Ok (s, rest) →
    sections_at most (suc n) d end bytes ≡ sections_at most n (with_section d s) end rest
unfolding sections_at
one_section most n d end [] s rest some e = absurd (omega arith)
one_section most n d end (b ∷ bs) s rest some e = ap (λ v. v >>= λ z. sections_at most n (with_section d z.0) end z.1) e

no_more : (most : Bounds) (n : ℕ) (d : Draft) (end : ℕ) → sections_at most n d end [] ≡ Ok d
unfolding sections_at
no_more most zero d end = refl
no_more most (suc n) d end = refl

sections_again : (most : Bounds) (n : ℕ) (d : Draft) (end : ℕ) (text : List ℕ) (ss : List Section) → length text ≤ end → length text ≤ n → InTurn (place end text) text ss → MayStand d ss →
    AllByRecursion (SectionWithin most) ss → sections_at most n d end text ≡ Ok (with_sections d ss)
sections_again most n d end text [] le few h st w = ap (sections_at most n d end) h ∙ no_more most n d end
sections_again most zero d end text (s ∷ ss) le few h st w =
    absurd (omega (arith, some_section (place end text) h.0 s h.3, ap length h.2, length-append h.0 h.1))
sections_again most (suc n) d end text (s ∷ ss) le few h st w =
    let a = h.0 in
    let b = h.1 in
    let le2 : length (a ++ b) ≤ end = subst (λ t. length t ≤ end) h.2 le in
    let here : SpellsSection (place end (a ++ b)) a s = subst (λ t. SpellsSection (place end t) a s) h.2 h.3 in
    let read : section_at most d.last (length d.declared) end text ≡ Ok (s, b) =
    ap (section_at most d.last (length d.declared) end) h.2 ∙ (exact_section most d.last (length d.declared)).again end a b s le2 here ((w.0, st.1), st.0) in
    let some = some_section (place end text) a s h.3 in
    let left : length b ≤ n = omega (arith, ap length h.2, length-append a b) in
    let turn : InTurn (place end b) b ss = subst (λ at. InTurn at b ss) (place_after end text a b le h.2) h.4 in
    one_section most n d end text s b (omega (arith, ap length h.2, length-append a b)) read ∙ sections_again most n (with_section d s) end b ss (shorter end text a b le h.2) left turn st.2 w.1

-- ---- limits

-- the limits of a draft
record DraftWithin (most : Bounds) (d : Draft) : Type 0 where
  types : length d.module.types ≤ most.types
  each_type : AllByRecursion (FuncTypeWithin most) d.module.types
  imports : length d.module.imports ≤ most.imports
  declared : length d.declared ≤ most.functions
  globals : length d.module.globals ≤ most.globals
  each_global : AllByRecursion (GlobalWithin most) d.module.globals
  each_elem : AllByRecursion (ElemWithin most) d.module.elems
  each_body : AllByRecursion (BodyWithin most.locals most.nesting) d.bodies
  each_segment : AllByRecursion (SegmentWithin most) d.module.segments

none_within : (most : Bounds) → DraftWithin most no_sections
none_within most = record { types = omega arith; each_type = tt; imports = omega arith; declared = omega arith; globals = omega arith; each_global = tt; each_elem = tt; each_body = tt; each_segment = tt }

section_in : (most : Bounds) (d : Draft) (s : Section) → DraftWithin most d → SectionWithin most s → DraftWithin most (with_section d s)
section_in most d (section.Custom name bytes) h w = record { types = h.types; each_type = h.each_type; imports = h.imports; declared = h.declared; globals = h.globals; each_global = h.each_global; each_elem = h.each_elem; each_body = h.each_body; each_segment = h.each_segment }
section_in most d (section.Types es ps) h w = record { types = w.0; each_type = w.1; imports = h.imports; declared = h.declared; globals = h.globals; each_global = h.each_global; each_elem = h.each_elem; each_body = h.each_body; each_segment = h.each_segment }
section_in most d (section.Imports es ps) h w = record { types = h.types; each_type = h.each_type; imports = w; declared = h.declared; globals = h.globals; each_global = h.each_global; each_elem = h.each_elem; each_body = h.each_body; each_segment = h.each_segment }
section_in most d (section.Funcs es ps) h w = record { types = h.types; each_type = h.each_type; imports = h.imports; declared = w; globals = h.globals; each_global = h.each_global; each_elem = h.each_elem; each_body = h.each_body; each_segment = h.each_segment }
section_in most d (section.Tables es ps) h w = record { types = h.types; each_type = h.each_type; imports = h.imports; declared = h.declared; globals = h.globals; each_global = h.each_global; each_elem = h.each_elem; each_body = h.each_body; each_segment = h.each_segment }
section_in most d (section.Memories es ps) h w = record { types = h.types; each_type = h.each_type; imports = h.imports; declared = h.declared; globals = h.globals; each_global = h.each_global; each_elem = h.each_elem; each_body = h.each_body; each_segment = h.each_segment }
section_in most d (section.Globals es ps) h w = record { types = h.types; each_type = h.each_type; imports = h.imports; declared = h.declared; globals = w.0; each_global = w.1; each_elem = h.each_elem; each_body = h.each_body; each_segment = h.each_segment }
section_in most d (section.Exports es ps) h w = record { types = h.types; each_type = h.each_type; imports = h.imports; declared = h.declared; globals = h.globals; each_global = h.each_global; each_elem = h.each_elem; each_body = h.each_body; each_segment = h.each_segment }
section_in most d (section.Start n p) h w = record { types = h.types; each_type = h.each_type; imports = h.imports; declared = h.declared; globals = h.globals; each_global = h.each_global; each_elem = h.each_elem; each_body = h.each_body; each_segment = h.each_segment }
section_in most d (section.Elems es ps) h w = record { types = h.types; each_type = h.each_type; imports = h.imports; declared = h.declared; globals = h.globals; each_global = h.each_global; each_elem = w; each_body = h.each_body; each_segment = h.each_segment }
section_in most d (section.Bodies bs) h w = record { types = h.types; each_type = h.each_type; imports = h.imports; declared = h.declared; globals = h.globals; each_global = h.each_global; each_elem = h.each_elem; each_body = w; each_segment = h.each_segment }
section_in most d (section.Segments es ps) h w = record { types = h.types; each_type = h.each_type; imports = h.imports; declared = h.declared; globals = h.globals; each_global = h.each_global; each_elem = h.each_elem; each_body = h.each_body; each_segment = w }

sections_in : (most : Bounds) (d : Draft) (ss : List Section) → DraftWithin most d → AllByRecursion (SectionWithin most) ss → DraftWithin most (with_sections d ss)
sections_in most d [] h w = h
sections_in most d (s ∷ ss) h w = sections_in most (with_section d s) ss (section_in most d s h w.0) w.1

-- further sections keep what sections of smaller ids gave
record Kept (d e : Draft) : Type 0 where
  last : d.last ≤ e.last
  types : 1 ≤ d.last → e.module.types ≡ d.module.types
  imports : 2 ≤ d.last → e.module.imports ≡ d.module.imports
  declared : 3 ≤ d.last → e.declared ≡ d.declared
  globals : 6 ≤ d.last → e.module.globals ≡ d.module.globals
  elems : 9 ≤ d.last → e.module.elems ≡ d.module.elems
  bodies : 10 ≤ d.last → e.bodies ≡ d.bodies
  segments : 11 ≤ d.last → e.module.segments ≡ d.module.segments

kept_same : (d : Draft) → Kept d d
kept_same d = record { last = omega arith; types = λ h. refl; imports = λ h. refl; declared = λ h. refl; globals = λ h. refl; elems = λ h. refl; bodies = λ h. refl; segments = λ h. refl }

kept_then : (d e f : Draft) → Kept d e → Kept e f → Kept d f
kept_then d e f a b = record { last = omega (arith, a.last, b.last); types = λ h. b.types (omega (arith, a.last)) ∙ a.types h; imports = λ h. b.imports (omega (arith, a.last)) ∙ a.imports h; declared = λ h. b.declared (omega (arith, a.last)) ∙ a.declared h; globals = λ h. b.globals (omega (arith, a.last)) ∙ a.globals h; elems = λ h. b.elems (omega (arith, a.last)) ∙ a.elems h; bodies = λ h. b.bodies (omega (arith, a.last)) ∙ a.bodies h; segments = λ h. b.segments (omega (arith, a.last)) ∙ a.segments h }

-- a section that is not custom has a greater id
greater : (last id : ℕ) → 0 < id → InOrder last id → last < id
greater last id some (inl e) = absurd (omega arith)
greater last id some (inr h) = h

kept_one : (d : Draft) (s : Section) → InOrder d.last (id_of s) → Kept d (with_section d s)
kept_one d (section.Custom name bytes) o = record { last = omega arith; types = λ h. refl; imports = λ h. refl; declared = λ h. refl; globals = λ h. refl; elems = λ h. refl; bodies = λ h. refl; segments = λ h. refl }
kept_one d (section.Types es ps) o = let g = greater d.last 1 (omega arith) o in record { last = omega arith; types = λ h. absurd (omega arith); imports = λ h. refl; declared = λ h. refl; globals = λ h. refl; elems = λ h. refl; bodies = λ h. refl; segments = λ h. refl }
kept_one d (section.Imports es ps) o = let g = greater d.last 2 (omega arith) o in record { last = omega arith; types = λ h. refl; imports = λ h. absurd (omega arith); declared = λ h. refl; globals = λ h. refl; elems = λ h. refl; bodies = λ h. refl; segments = λ h. refl }
kept_one d (section.Funcs es ps) o = let g = greater d.last 3 (omega arith) o in record { last = omega arith; types = λ h. refl; imports = λ h. refl; declared = λ h. absurd (omega arith); globals = λ h. refl; elems = λ h. refl; bodies = λ h. refl; segments = λ h. refl }
kept_one d (section.Tables es ps) o = let g = greater d.last 4 (omega arith) o in record { last = omega arith; types = λ h. refl; imports = λ h. refl; declared = λ h. refl; globals = λ h. refl; elems = λ h. refl; bodies = λ h. refl; segments = λ h. refl }
kept_one d (section.Memories es ps) o = let g = greater d.last 5 (omega arith) o in record { last = omega arith; types = λ h. refl; imports = λ h. refl; declared = λ h. refl; globals = λ h. refl; elems = λ h. refl; bodies = λ h. refl; segments = λ h. refl }
kept_one d (section.Globals es ps) o = let g = greater d.last 6 (omega arith) o in record { last = omega arith; types = λ h. refl; imports = λ h. refl; declared = λ h. refl; globals = λ h. absurd (omega arith); elems = λ h. refl; bodies = λ h. refl; segments = λ h. refl }
kept_one d (section.Exports es ps) o = let g = greater d.last 7 (omega arith) o in record { last = omega arith; types = λ h. refl; imports = λ h. refl; declared = λ h. refl; globals = λ h. refl; elems = λ h. refl; bodies = λ h. refl; segments = λ h. refl }
kept_one d (section.Start n p) o = let g = greater d.last 8 (omega arith) o in record { last = omega arith; types = λ h. refl; imports = λ h. refl; declared = λ h. refl; globals = λ h. refl; elems = λ h. refl; bodies = λ h. refl; segments = λ h. refl }
kept_one d (section.Elems es ps) o = let g = greater d.last 9 (omega arith) o in record { last = omega arith; types = λ h. refl; imports = λ h. refl; declared = λ h. refl; globals = λ h. refl; elems = λ h. absurd (omega arith); bodies = λ h. refl; segments = λ h. refl }
kept_one d (section.Bodies bs) o = let g = greater d.last 10 (omega arith) o in record { last = omega arith; types = λ h. refl; imports = λ h. refl; declared = λ h. refl; globals = λ h. refl; elems = λ h. refl; bodies = λ h. absurd (omega arith); segments = λ h. refl }
kept_one d (section.Segments es ps) o = let g = greater d.last 11 (omega arith) o in record { last = omega arith; types = λ h. refl; imports = λ h. refl; declared = λ h. refl; globals = λ h. refl; elems = λ h. refl; bodies = λ h. refl; segments = λ h. absurd (omega arith) }

kept_all : (d : Draft) (ss : List Section) → MayStand d ss → Kept d (with_sections d ss)
kept_all d [] st = kept_same d
kept_all d (s ∷ ss) st = kept_then d (with_section d s) (with_sections (with_section d s) ss) (kept_one d s st.0) (kept_all (with_section d s) ss st.2)

section_out : (most : Bounds) (d e : Draft) (s : Section) → Kept (with_section d s) e → DraftWithin most e → SectionWithin most s
section_out most d e (section.Custom name bytes) k h = tt
section_out most d e (section.Types es ps) k h = (subst (λ xs. length xs ≤ most.types) (k.types (omega arith)) h.types, subst (AllByRecursion (FuncTypeWithin most)) (k.types (omega arith)) h.each_type)
section_out most d e (section.Imports es ps) k h = subst (λ xs. length xs ≤ most.imports) (k.imports (omega arith)) h.imports
section_out most d e (section.Funcs es ps) k h = subst (λ xs. length xs ≤ most.functions) (k.declared (omega arith)) h.declared
section_out most d e (section.Tables es ps) k h = tt
section_out most d e (section.Memories es ps) k h = tt
section_out most d e (section.Globals es ps) k h = (subst (λ xs. length xs ≤ most.globals) (k.globals (omega arith)) h.globals, subst (AllByRecursion (GlobalWithin most)) (k.globals (omega arith)) h.each_global)
section_out most d e (section.Exports es ps) k h = tt
section_out most d e (section.Start n p) k h = tt
section_out most d e (section.Elems es ps) k h = subst (AllByRecursion (ElemWithin most)) (k.elems (omega arith)) h.each_elem
section_out most d e (section.Bodies bs) k h = subst (AllByRecursion (BodyWithin most.locals most.nesting)) (k.bodies (omega arith)) h.each_body
section_out most d e (section.Segments es ps) k h = subst (AllByRecursion (SegmentWithin most)) (k.segments (omega arith)) h.each_segment

sections_out : (most : Bounds) (d : Draft) (ss : List Section) → MayStand d ss → DraftWithin most (with_sections d ss) → AllByRecursion (SectionWithin most) ss
sections_out most d [] st h = tt
sections_out most d (s ∷ ss) st h =
    (section_out most d (with_sections (with_section d s) ss) s (kept_all (with_section d s) ss st.2) h, sections_out most (with_section d s) ss st.2 h)

count_funcs : (ts : List ℕ) (bs : List Body) → length bs ≡ length ts → length (funcs_of ts bs) ≡ length ts
count_funcs [] bs e = refl
count_funcs (t ∷ ts) [] e = absurd (omega arith)
count_funcs (t ∷ ts) (b ∷ bs) e = ap suc (count_funcs ts bs (omega arith))

funcs_in : (most : Bounds) (ts : List ℕ) (bs : List Body) → AllByRecursion (BodyWithin most.locals most.nesting) bs → AllByRecursion (FuncWithin most) (funcs_of ts bs)
funcs_in most [] bs h = tt
funcs_in most (t ∷ ts) [] h = tt
funcs_in most (t ∷ ts) (b ∷ bs) h = (h.0, funcs_in most ts bs h.1)

funcs_out : (most : Bounds) (ts : List ℕ) (bs : List Body) → length bs ≡ length ts → AllByRecursion (FuncWithin most) (funcs_of ts bs) → AllByRecursion (BodyWithin most.locals most.nesting) bs
funcs_out most [] [] e h = tt
funcs_out most [] (b ∷ bs) e h = absurd (omega arith)
funcs_out most (t ∷ ts) [] e h = tt
funcs_out most (t ∷ ts) (b ∷ bs) e h = (h.0, funcs_out most ts bs (omega arith) h.1)

abbrev made : ℕ → Draft → Module
made len d = (whole_module len d).module

limits_in : (most : Bounds) (len : ℕ) (d : Draft) → length d.bodies ≡ length d.declared → DraftWithin most d → InLimits most (made len d)
limits_in most len d e h = record {
  types = h.types;
  imports = h.imports;
  functions = omega (arith, count_funcs d.declared d.bodies e, h.declared);
  globals = h.globals;
  each_type = h.each_type;
  each_func = funcs_in most d.declared d.bodies h.each_body;
  each_global = h.each_global;
  each_elem = h.each_elem;
  each_segment = h.each_segment;
}

limits_out : (most : Bounds) (len : ℕ) (d : Draft) → length d.bodies ≡ length d.declared → InLimits most (made len d) → DraftWithin most d
limits_out most len d e h = record {
  types = h.types;
  each_type = h.each_type;
  imports = h.imports;
  declared = omega (arith, count_funcs d.declared d.bodies e, h.functions);
  globals = h.globals;
  each_global = h.each_global;
  each_elem = h.each_elem;
  each_body = funcs_out most d.declared d.bodies e h.each_func;
  each_segment = h.each_segment;
}

-- ---- modules

record Finished (len : ℕ) (d : Draft) (r : Decoded) : Type 0 where
  counted : length d.bodies ≡ length d.declared
  is : whole_module len d ≡ r

finished_is : (len : ℕ) (d : Draft) (r : Decoded) → finished_at len d ≡ Ok r → Finished len d r
unfolding finished_at
finished_is len d r e =
    elim (chosen (eqb (length d.bodies) (length d.declared)) (ok (whole_module len d)) (err (Malformed len word.Count)) (ok r) e) [
      | inl h ↦ record { counted = eqb-true (length d.bodies) (length d.declared) h.0; is = ok_is (whole_module len d) r h.1 }
      | inr h ↦ absurd (let k = h.1 in cc)
    ]

finished_again : (len : ℕ) (d : Draft) → length d.bodies ≡ length d.declared → finished_at len d ≡ Ok (whole_module len d)
unfolding finished_at
finished_again len d e = rw (eq-eqb (length d.bodies) (length d.declared) e) refl

-- the place behind the header
eight : (bytes rest : List ℕ) → bytes ≡ header ++ rest → place (length bytes) rest ≡ 8
eight bytes rest e = omega (arith, ap length e, length-append header rest)

-- what is read is spelled so, within the limits
pub module_takes : (most : Bounds) (bytes : List ℕ) (r : Decoded) → module_at most bytes ≡ Ok r → Spells bytes r.module r.marks × InLimits most r.module
unfolding module_at
module_takes most bytes r e =
    let len = length bytes in
    let p = bind_ok (header_at len bytes) (λ rest. sections_at most (length rest) no_sections len rest >>= λ d. finished_at len d) r e in
    let rest = p.0 in
    let q = bind_ok (sections_at most (length rest) no_sections len rest) (λ d. finished_at len d) r p.2 in
    let parts = header_takes len bytes rest p.1 in
    let le : length rest ≤ len = omega (arith, ap length parts, length-append header rest) in
    let t = sections_take most (length rest) no_sections q.0 len rest le (omega arith) q.1 in
    let f = finished_is len q.0 r q.2 in
    let d = with_sections no_sections t.sections in
    let counted : length d.bodies ≡ length d.declared = subst (λ (x : Draft). length x.bodies ≡ length x.declared) t.is f.counted in
    let is : whole_module len d ≡ r = ap (whole_module len) (sym t.is) ∙ f.is in
    let within = limits_in most len d counted (sections_in most no_sections t.sections (none_within most) t.within) in
    let put : Drafted bytes r.module r.marks = record { sections = t.sections; rest = rest; parts = parts; turn = subst (λ at. InTurn at rest t.sections) (eight bytes rest parts) t.turn; stand = t.stand; counted = counted; is = is } in
    (spelled bytes r.module r.marks put, subst (λ (x : Decoded). InLimits most x.module) is within)

-- what is spelled so, within the limits, is read
pub module_again : (most : Bounds) (bytes : List ℕ) (m : Module) (k : Marks) → Spells bytes m k → InLimits most m → module_at most bytes ≡ Ok (record { «module» = m; marks = k })
unfolding module_at
module_again most bytes m k spells w =
    let h = drafted bytes m k spells in
    let len = length bytes in
    let ss = h.sections in
    let rest = h.rest in
    let d = with_sections no_sections ss in
    let limits : InLimits most (made len d) = subst (λ (x : Decoded). InLimits most x.module) (sym h.is) w in
    let all = sections_out most no_sections ss h.stand (limits_out most len d h.counted limits) in
    let le : length rest ≤ len = omega (arith, ap length h.parts, length-append header rest) in
    let turn : InTurn (place len rest) rest ss = subst (λ at. InTurn at rest ss) (sym (eight bytes rest h.parts)) h.turn in
    let head : header_at len bytes ≡ Ok rest = ap (header_at len) h.parts ∙ header_again len rest in
    let read = sections_again most (length rest) no_sections len rest ss le (omega arith) turn h.stand all in
    rw (head, read) (finished_again len d h.counted ∙ ap ok h.is)
