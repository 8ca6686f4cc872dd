-- What is sealed is split again, and spells the module with one custom section more.
use Rattle.std.proofs.Common.{◌≡◌, ℕ, ◌+◌, ◌<◌, ◌≤◌, ◌^◌, List, [], ◌∷◌, ◌++◌, length, inl, inr, Option, None, refl, sym, ap, subst, ◌∙◌, append_assoc, arith}
use Rattle.std.specs.Prelude.{unwrap_or}
use Rattle.std.specs.List.{AllByRecursion, concat}
use Rattle.std.proofs.lemmas.List.{append-nil}
use Rattle.wasm_syntax.specs.declared.module.Custom.{Custom}
use Rattle.wasm_syntax.specs.declared.module.Module.{Module}
use Rattle.wasm_syntax.specs.declared.module.Marks.{Marks}
use Rattle.binary_grammar.specs.declared.section.Section.{Section}
use Rattle.binary_grammar.specs.declared.section.Section.TheVariants as section
use Rattle.binary_grammar.specs.Numbers.{SpellsU32}
use Rattle.binary_grammar.specs.Grammar.{Then, Tagged, SpellsNumber}
use Rattle.binary_grammar.specs.CodeGrammar.{OfLength, Sized}
use Rattle.binary_grammar.specs.ModuleGrammar.{id_of, SpellsSection, InTurn, Rising, given, type_section, import_section, function_section, table_section, memory_section, global_section, export_section, start_section, element_section, code_section, data_section, last_filled, if_custom, customs_of, AreParts, Spells}
use Rattle.wasm_write.specs.Shortest.{number_text}
use Rattle.wasm_seal.specs.Sealed.{notes_name, sealed_file, IsSection, AreSections, Split, last_entry, with_notes}
use Rattle.wasm_seal.proofs.EntryLaws.{filled, last_filled_is}
use Rattle.wasm_seal.proofs.NotesLaws.{Noted, holds}

-- ---- whole sections

section_is : (at : ℕ) (text : List ℕ) (s : Section) → SpellsSection at text s → IsSection text
unfolding SpellsSection Tagged Sized Then OfLength SpellsNumber
section_is at text s h =
    let z = h.3.1 in
    (h.0, z.1, z.2, h.2 ∙ ap (λ t. h.0 ∷ t) z.3, subst (SpellsU32 z.1) (sym z.5.0) z.4)

sections_are : (at : ℕ) (text : List ℕ) (ss : List Section) → InTurn at text ss → (texts : List (List ℕ)) × (text ≡ concat texts) × AllByRecursion IsSection texts
sections_are at text [] h = ([], h, tt)
sections_are at text (s ∷ ss) h =
    let r = sections_are (at + length h.0) h.1 ss h.4 in
    (h.0 ∷ r.0, h.2 ∙ ap (λ t. h.0 ++ t) r.1, (section_is at h.0 s h.3, r.2))

module_whole : (bytes : List ℕ) (m : Module) (k : Marks) → Spells bytes m k → AreSections bytes
unfolding Spells
module_whole bytes m k h =
    let r = sections_are 8 h.1 h.0 h.3 in
    (r.0, h.2 ∙ ap (λ t. 0x00 ∷ 0x61 ∷ 0x73 ∷ 0x6d ∷ 0x01 ∷ 0x00 ∷ 0x00 ∷ 0x00 ∷ t) r.1, r.2)

-- ---- the section that is written

abbrev written : List ℕ → List ℕ
written notes = 0 ∷ (number_text (13 + length notes) ++ 12 ∷ (notes_name ++ notes))

-- the texts of numbers spell them
abbrev pub AreSpelled : Type 0
AreSpelled = (n : ℕ) → n < 2 ^ 32 → SpellsU32 (number_text n) n

twelve : SpellsU32 (12 ∷ []) 12
twelve = (omega arith, omega arith, refl, omega arith)

written_noted : AreSpelled → (notes : List ℕ) → length notes ≤ 4294967282 → Noted (written notes) notes
written_noted spelled notes few =
    let n = 13 + length notes in
    let contents = 12 ∷ (notes_name ++ notes) in
    let len : n ≡ length contents = omega arith in
    record {
      rest = number_text n ++ contents;
      contents = contents;
      parts = refl;
      sized = (number_text n, ap (λ t. number_text n ++ t) (sym (append-nil contents)), subst (SpellsU32 (number_text n)) len (spelled n (omega arith)));
      named = (12 ∷ [], refl, twelve);
    }

pub seal_splits : AreSpelled → (bytes notes : List ℕ) (m : Module) (k : Marks) → Spells bytes m k → length notes ≤ 4294967282 → Split (sealed_file bytes notes) bytes notes
unfolding sealed_file
seal_splits spelled bytes notes m k h few = record {
  last = written notes;
  parts = refl;
  whole = module_whole bytes m k h;
  holds = holds (length bytes) (written notes) notes (written_noted spelled notes few);
}

-- ---- one custom section more

turn_more : (at : ℕ) (text : List ℕ) (ss : List Section) (last : List ℕ) (s : Section) → InTurn at text ss → ((p : ℕ) → SpellsSection p last s) → InTurn at (text ++ last) (ss ++ s ∷ [])
turn_more at text [] last s h k = (last, [], ap (λ x. x ++ last) h ∙ sym (append-nil last), k at, refl)
turn_more at text (x ∷ xs) last s h k =
    (h.0, h.1 ++ last, ap (λ y. y ++ last) h.2 ∙ append_assoc h.0 h.1 last, h.3, turn_more (at + length h.0) h.1 xs last s h.4 k)

rising_more : (last : ℕ) (ss : List Section) (c : Section) → id_of c ≡ 0 → Rising last ss → Rising last (ss ++ c ∷ [])
rising_more last [] c e h = inl (e, tt)
rising_more last (x ∷ xs) c e (inl h) = inl (h.0, rising_more last xs c e h.1)
rising_more last (x ∷ xs) c e (inr h) = inr (h.0, rising_more (id_of x) xs c e h.1)

given_more : {A : Type 0} (kind : Section → Option A) (none : A) (ss : List Section) (c : Section) → kind c ≡ None → given kind none ss ≡ given kind none (ss ++ c ∷ [])
given_more kind none [] c e = rw e refl
given_more kind none (x ∷ xs) c e = ap (unwrap_or (kind x)) (given_more kind none xs c e)

customs_more : (last : ℕ) (ss : List Section) (name bytes : List ℕ) →
    customs_of last (ss ++ section.Custom name bytes ∷ []) ≡ customs_of last ss ++ record { after = filled last ss; name = name; bytes = bytes } ∷ []
customs_more last [] name bytes = refl
customs_more last (x ∷ xs) name bytes =
    ap (λ (cs : List Custom). if_custom last x ++ cs) (customs_more (last_filled last x) xs name bytes) ∙
    sym (append_assoc (if_custom last x) (customs_of (last_filled last x) xs) (record { after = filled (last_filled last x) xs; name = name; bytes = bytes } ∷ []))

parts_more : (ss : List Section) (notes : List ℕ) (m : Module) (k : Marks) (n : ℕ) → Rising 0 ss → AreParts ss m k →
    AreParts (ss ++ section.Custom notes_name notes ∷ []) (with_notes notes m) (record k { len = n })
parts_more ss notes m k n rising h =
    let c = section.Custom notes_name notes in
    let funcs = given_more function_section ([], []) ss c refl in
    let code = given_more code_section [] ss c refl in
    record {
      types = h.types ∙ given_more type_section ([], []) ss c refl;
      imports = h.imports ∙ given_more import_section ([], []) ss c refl;
      tables = h.tables ∙ given_more table_section ([], []) ss c refl;
      memories = h.memories ∙ given_more memory_section ([], []) ss c refl;
      globals = h.globals ∙ given_more global_section ([], []) ss c refl;
      exports = h.exports ∙ given_more export_section ([], []) ss c refl;
      start = h.start ∙ given_more start_section (None, 0) ss c refl;
      elems = h.elems ∙ given_more element_section ([], []) ss c refl;
      segments = h.segments ∙ given_more data_section ([], []) ss c refl;
      funcs = rw (← funcs, ← code) h.funcs;
      func_places = rw (← funcs) h.func_places;
      code = rw (← code) h.code;
      customs =
          ap (λ (cs : List Custom). cs ++ record { after = last_entry m; name = notes_name; bytes = notes } ∷ []) h.customs ∙
          ap (λ after. customs_of 0 ss ++ record { after = after; name = notes_name; bytes = notes } ∷ []) (sym (last_filled_is ss m k rising h)) ∙
          sym (customs_more 0 ss notes_name notes);
    }

pub seal_spells : AreSpelled → (bytes notes : List ℕ) (m : Module) (k : Marks) → Spells bytes m k → length notes ≤ 4294967282 →
    Spells (sealed_file bytes notes) (with_notes notes m) (record k { len = length (sealed_file bytes notes) })
unfolding Spells sealed_file
seal_spells spelled bytes notes m k h few =
    let ss = h.0 in
    let last = written notes in
    let c = section.Custom notes_name notes in
    let turn = turn_more 8 h.1 ss last c h.3 (λ p. holds p last notes (written_noted spelled notes few)) in
    (ss ++ c ∷ [], h.1 ++ last, ap (λ t. t ++ last) h.2, turn, rising_more 0 ss c refl h.4, parts_more ss notes m k (length (bytes ++ last)) h.4 h.5, refl)
