-- What bytes spell has a place for each entry and each instruction.
use Rattle.std.proofs.Common.{◌≡◌, ℕ, zero, suc, ◌+◌, List, [], ◌∷◌, length, slice_get, Some, refl, sym, ap, subst, ◌∙◌}
use Rattle.wasm_syntax.specs.declared.module.Func.{Func}
use Rattle.wasm_syntax.specs.declared.module.Module.{Module}
use Rattle.wasm_syntax.specs.declared.module.Marks.{Marks}
use Rattle.wasm_syntax.specs.FlatForm.{flat_body}
use Rattle.binary_grammar.specs.declared.section.Body.{Body}
use Rattle.binary_grammar.specs.declared.section.Section.{Section}
use Rattle.binary_grammar.specs.declared.section.Section.TheVariants as section
use Rattle.binary_grammar.specs.declared.section.Draft.{Draft}
use Rattle.binary_grammar.specs.declared.section.Decoded.{Decoded}
use Rattle.binary_grammar.specs.Grammar.{Spelling, Then, Done, Tagged, Each, Many, SpellsVector}
use Rattle.binary_grammar.specs.CodeGrammar.{SpellsItem, SpellsExpression, Sized, OfLength, SpellsBodyContents, SpellsBody}
use Rattle.binary_grammar.specs.words.SectionReading.{with_section, no_sections, whole_module, funcs_of, places_of}
use Rattle.binary_grammar.specs.ModuleGrammar.{SpellsContents, SpellsSection, InTurn, Spells}
use Rattle.binary_grammar.proofs.Drafts.{with_sections}
use Rattle.binary_grammar.proofs.DraftLaws.{drafted}
use Rattle.wasm_typing.specs.faults.Faults.{Marked}

-- a part for each place
each_length : {A : Type 0} (P : Spelling A) (at : ℕ) (text : List ℕ) (xs : List A) (ps : List ℕ) → Each P at text (xs, ps) → length ps ≡ length xs
each_length P at text [] [] h = refl
each_length P at text (x ∷ xs) [] h = absurd h
each_length P at text [] (p ∷ ps) h = absurd h
each_length P at text (x ∷ xs) (p ∷ ps) h = ap suc (each_length P (at + length h.1) h.2 xs ps h.5)

-- what holds of each value that is spelled
each_holds : {A : Type 0} (P : Spelling A) (Q : A → Type 0) → ((at : ℕ) (text : List ℕ) (x : A) → P at text x → Q x) → (at : ℕ) (text : List ℕ) (xs : List A) (ps : List ℕ) → Each P at text (xs, ps) →
    (n : ℕ) (x : A) → slice_get xs n ≡ Some x → Q x
each_holds P Q q at text [] ps h n x e = absurd cc
each_holds P Q q at text (y ∷ ys) [] h n x e = absurd h
each_holds P Q q at text (y ∷ ys) (p ∷ ps) h zero x e = let same : y ≡ x = cc in subst Q same (q at h.1 y h.4)
each_holds P Q q at text (y ∷ ys) (p ∷ ps) h (suc n) x e = each_holds P Q q (at + length h.1) h.2 ys ps h.5 n x e

vector_length : {A : Type 0} (P : Spelling A) (at : ℕ) (text : List ℕ) (xs : List A) (ps : List ℕ) → SpellsVector P at text (xs, ps) → length ps ≡ length xs
unfolding SpellsVector Then Many
vector_length P at text xs ps h = each_length P _ _ xs ps h.5.1

vector_holds : {A : Type 0} (P : Spelling A) (Q : A → Type 0) → ((at : ℕ) (text : List ℕ) (x : A) → P at text x → Q x) → (at : ℕ) (text : List ℕ) (xs : List A) (ps : List ℕ) → SpellsVector P at text (xs, ps) →
    (n : ℕ) (x : A) → slice_get xs n ≡ Some x → Q x
unfolding SpellsVector Then Many
vector_holds P Q q at text xs ps h = each_holds P Q q _ _ xs ps h.5.1

-- a body has a place for each of its items
abbrev BodyMarked : Body → Type 0
BodyMarked b = length b.places ≡ length (flat_body b.code)

abbrev BodiesMarked : List Body → Type 0
BodiesMarked bs = (n : ℕ) (b : Body) → slice_get bs n ≡ Some b → BodyMarked b

body_marked : (at : ℕ) (text : List ℕ) (b : Body) → SpellsBody at text b → BodyMarked b
unfolding SpellsBody Sized OfLength SpellsBodyContents SpellsExpression Then Done
body_marked at text b h =
    let contents = h.5.1 in
    let code = contents.5 in
    let l : length code.0.1 ≡ length (flat_body code.0.0) = each_length SpellsItem _ _ (flat_body code.0.0) code.0.1 code.4 in
    subst BodyMarked (sym code.5.1) l

-- a section's entries have their places
abbrev SectionMarked : Section → Type 0
SectionMarked (section.Custom name bytes) = Unit {0}
SectionMarked (section.Types es ps) = length ps ≡ length es
SectionMarked (section.Imports es ps) = length ps ≡ length es
SectionMarked (section.Funcs es ps) = length ps ≡ length es
SectionMarked (section.Tables es ps) = length ps ≡ length es
SectionMarked (section.Memories es ps) = length ps ≡ length es
SectionMarked (section.Globals es ps) = length ps ≡ length es
SectionMarked (section.Exports es ps) = length ps ≡ length es
SectionMarked (section.Start n p) = Unit {0}
SectionMarked (section.Elems es ps) = length ps ≡ length es
SectionMarked (section.Bodies bs) = BodiesMarked bs
SectionMarked (section.Segments es ps) = length ps ≡ length es

contents_marked : (at : ℕ) (text : List ℕ) (s : Section) → SpellsContents at text s → SectionMarked s
unfolding SpellsContents
contents_marked at text (section.Custom name bytes) h = tt
contents_marked at text (section.Types es ps) h = vector_length _ at text es ps h
contents_marked at text (section.Imports es ps) h = vector_length _ at text es ps h
contents_marked at text (section.Funcs es ps) h = vector_length _ at text es ps h
contents_marked at text (section.Tables es ps) h = vector_length _ at text es ps h
contents_marked at text (section.Memories es ps) h = vector_length _ at text es ps h
contents_marked at text (section.Globals es ps) h = vector_length _ at text es ps h
contents_marked at text (section.Exports es ps) h = vector_length _ at text es ps h
contents_marked at text (section.Start n p) h = tt
contents_marked at text (section.Elems es ps) h = vector_length _ at text es ps h
contents_marked at text (section.Bodies bs) h = vector_holds SpellsBody BodyMarked body_marked at text bs h.0 h.1
contents_marked at text (section.Segments es ps) h = vector_length _ at text es ps h

section_marked : (at : ℕ) (text : List ℕ) (s : Section) → SpellsSection at text s → SectionMarked s
unfolding SpellsSection Tagged Sized OfLength Then
section_marked at text s h = contents_marked _ _ s h.3.1.5.1

-- a draft's entries have their places
record DraftMarked (d : Draft) : Type 0 where
  types : length d.marks.types ≡ length d.module.types
  imports : length d.marks.imports ≡ length d.module.imports
  funcs : length d.marks.funcs ≡ length d.declared
  tables : length d.marks.tables ≡ length d.module.tables
  memories : length d.marks.memories ≡ length d.module.memories
  globals : length d.marks.globals ≡ length d.module.globals
  exports : length d.marks.exports ≡ length d.module.exports
  elems : length d.marks.elems ≡ length d.module.elems
  segments : length d.marks.segments ≡ length d.module.segments
  bodies : BodiesMarked d.bodies

none_marked : DraftMarked no_sections
none_marked = record { types = refl; imports = refl; funcs = refl; tables = refl; memories = refl; globals = refl; exports = refl; elems = refl; segments = refl; bodies = λ n b e. absurd cc }

with_marked : (d : Draft) (s : Section) → DraftMarked d → SectionMarked s → DraftMarked (with_section d s)
with_marked d (section.Custom name bytes) h e = record { types = h.types; imports = h.imports; funcs = h.funcs; tables = h.tables; memories = h.memories; globals = h.globals; exports = h.exports; elems = h.elems; segments = h.segments; bodies = h.bodies }
with_marked d (section.Types es ps) h e = record { types = e; imports = h.imports; funcs = h.funcs; tables = h.tables; memories = h.memories; globals = h.globals; exports = h.exports; elems = h.elems; segments = h.segments; bodies = h.bodies }
with_marked d (section.Imports es ps) h e = record { types = h.types; imports = e; funcs = h.funcs; tables = h.tables; memories = h.memories; globals = h.globals; exports = h.exports; elems = h.elems; segments = h.segments; bodies = h.bodies }
with_marked d (section.Funcs es ps) h e = record { types = h.types; imports = h.imports; funcs = e; tables = h.tables; memories = h.memories; globals = h.globals; exports = h.exports; elems = h.elems; segments = h.segments; bodies = h.bodies }
with_marked d (section.Tables es ps) h e = record { types = h.types; imports = h.imports; funcs = h.funcs; tables = e; memories = h.memories; globals = h.globals; exports = h.exports; elems = h.elems; segments = h.segments; bodies = h.bodies }
with_marked d (section.Memories es ps) h e = record { types = h.types; imports = h.imports; funcs = h.funcs; tables = h.tables; memories = e; globals = h.globals; exports = h.exports; elems = h.elems; segments = h.segments; bodies = h.bodies }
with_marked d (section.Globals es ps) h e = record { types = h.types; imports = h.imports; funcs = h.funcs; tables = h.tables; memories = h.memories; globals = e; exports = h.exports; elems = h.elems; segments = h.segments; bodies = h.bodies }
with_marked d (section.Exports es ps) h e = record { types = h.types; imports = h.imports; funcs = h.funcs; tables = h.tables; memories = h.memories; globals = h.globals; exports = e; elems = h.elems; segments = h.segments; bodies = h.bodies }
with_marked d (section.Start n p) h e = record { types = h.types; imports = h.imports; funcs = h.funcs; tables = h.tables; memories = h.memories; globals = h.globals; exports = h.exports; elems = h.elems; segments = h.segments; bodies = h.bodies }
with_marked d (section.Elems es ps) h e = record { types = h.types; imports = h.imports; funcs = h.funcs; tables = h.tables; memories = h.memories; globals = h.globals; exports = h.exports; elems = e; segments = h.segments; bodies = h.bodies }
with_marked d (section.Bodies bs) h e = record { types = h.types; imports = h.imports; funcs = h.funcs; tables = h.tables; memories = h.memories; globals = h.globals; exports = h.exports; elems = h.elems; segments = h.segments; bodies = e }
with_marked d (section.Segments es ps) h e = record { types = h.types; imports = h.imports; funcs = h.funcs; tables = h.tables; memories = h.memories; globals = h.globals; exports = h.exports; elems = h.elems; segments = e; bodies = h.bodies }

turn_marked : (at : ℕ) (text : List ℕ) (ss : List Section) (d : Draft) → InTurn at text ss → DraftMarked d → DraftMarked (with_sections d ss)
turn_marked at text [] d h m = m
turn_marked at text (s ∷ ss) d h m = turn_marked (at + length h.0) h.1 ss (with_section d s) h.4 (with_marked d s m (section_marked at h.0 s h.3))

-- as many functions as bodies
funcs_length : (ts : List ℕ) (bs : List Body) → length bs ≡ length ts → length (funcs_of ts bs) ≡ length ts
funcs_length [] [] e = refl
funcs_length [] (b ∷ bs) e = absurd cc
funcs_length (t ∷ ts) [] e = absurd cc
funcs_length (t ∷ ts) (b ∷ bs) e = ap suc (funcs_length ts bs cc)

places_length : (ts : List ℕ) (bs : List Body) → length bs ≡ length ts → length (places_of bs) ≡ length (funcs_of ts bs)
places_length [] [] e = refl
places_length [] (b ∷ bs) e = absurd cc
places_length (t ∷ ts) [] e = absurd cc
places_length (t ∷ ts) (b ∷ bs) e = ap suc (places_length ts bs cc)

items_marked : (ts : List ℕ) (bs : List Body) → BodiesMarked bs → (n : ℕ) (f : Func) (places : List ℕ) → slice_get (funcs_of ts bs) n ≡ Some f → slice_get (places_of bs) n ≡ Some places →
    length places ≡ length (flat_body f.body)
items_marked [] bs m n f places e p = absurd cc
items_marked (t ∷ ts) [] m n f places e p = absurd cc
items_marked (t ∷ ts) (b ∷ bs) m zero f places e p =
    let here : b.places ≡ places = cc in
    let F : Func = record { ty = t; locals = b.locals; body = b.code } in
    let same : F ≡ f = cc in
    ap length (sym here) ∙ (m 0 b refl ∙ ap (λ (g : Func). length (flat_body g.body)) same)
items_marked (t ∷ ts) (b ∷ bs) m (suc n) f places e p = items_marked ts bs (λ k c. m (suc k) c) n f places e p

abbrev DecodedMarked : Decoded → Type 0
DecodedMarked x = Marked x.module x.marks

whole_marked : (len : ℕ) (d : Draft) → DraftMarked d → length d.bodies ≡ length d.declared → DecodedMarked (whole_module len d)
whole_marked len d h e = record {
  types = h.types;
  imports = h.imports;
  funcs = h.funcs ∙ sym (funcs_length d.declared d.bodies e);
  tables = h.tables;
  memories = h.memories;
  globals = h.globals;
  exports = h.exports;
  elems = h.elems;
  segments = h.segments;
  code = places_length d.declared d.bodies e;
  items = items_marked d.declared d.bodies h.bodies;
}

pub spelled_marked : (bytes : List ℕ) (m : Module) (k : Marks) → Spells bytes m k → Marked m k
spelled_marked bytes m k spells =
    let h = drafted bytes m k spells in
    let d = with_sections no_sections h.sections in
    subst DecodedMarked h.is (whole_marked (length bytes) d (turn_marked 8 h.rest h.sections no_sections h.turn none_marked) h.counted)
