-- Every file has a split or none.
use Rattle.std.proofs.Common.{◌≡◌, ℕ, zero, suc, ◌≤◌, Bool, true, false, ltb, eqb, List, [], ◌∷◌, ◌++◌, length, take, drop, Result, Ok, Err, ◌⊎◌, inl, inr, refl, sym, ap, subst, ◌∙◌, arith}
use Rattle.std.specs.Str.{bytes_eq}
use Rattle.std.proofs.lemmas.Bool.{ltb-true, ltb-false, eqb-true, eqb-false}
use Rattle.std.proofs.lemmas.List.{take-append-drop, length-take-le, nil_from_length}
use Rattle.std.proofs.lemmas.Slice.Eq.{bytes_eq-Decides}
use Rattle.binary_grammar.specs.declared.fault.LebFault.{LebFault}
use Rattle.binary_grammar.specs.Numbers.{SpellsU32}
use Rattle.binary_grammar.specs.words.NumberReading.{u32_at}
use Rattle.binary_grammar.specs.words.SectionReading.{header}
use Rattle.binary_grammar.specs.ModuleGrammar.{magic, version}
use Rattle.binary_grammar.proofs.NumberLaws.{u32_takes, u32_again}
use Rattle.wasm_seal.specs.Sealed.{notes_name, Split}
use Rattle.wasm_seal.specs.words.Parts.{BeginsNumber, BeginsSized, BeginsWhole, EndsWith, NotesBehindId}
use Rattle.wasm_seal.proofs.PartLaws.{same_tails, begun, begins, none_begins, shorter_behind, is_last, goes_on, comes_back, begins_some}
use Rattle.wasm_seal.proofs.NotesLaws.{Noted, holds}
use Rattle.wasm_seal.proofs.SplitLaws.{split_found, too_short, other_name, name_missing, bytes_behind, no_header, no_last, no_notes, noted_behind}

-- there is one, or none
abbrev pub OneOrNone : {A : Type 0} → (A → Type 0) → Type 0
OneOrNone {A} P = ((x : A) × P x) ⊎ ((x : A) → P x → ⊥)

abbrev Sizes : List ℕ → ℕ × List ℕ → Type 0
Sizes bytes x = BeginsNumber bytes x.0 x.1

abbrev Parts : List ℕ → List ℕ × List ℕ → Type 0
Parts bytes x = BeginsSized bytes x.0 x.1

number_by : (bytes : List ℕ) (v : Result (ℕ × List ℕ) LebFault) → u32_at bytes ≡ v → OneOrNone (Sizes bytes)
number_by bytes (Ok x) e = let t = u32_takes bytes x e in inl (x, (t.text, t.parts, t.spells))
number_by bytes (Err f) e = inr (λ x h. let k : u32_at bytes ≡ Ok x = ap u32_at h.1 ∙ u32_again h.0 x.1 x.0 h.2 in absurd cc)

-- a number, and whether what follows is as long
sized_by : (bytes rest : List ℕ) (n : ℕ) → BeginsNumber bytes n rest → (b : Bool) → ltb (length rest) n ≡ b → OneOrNone (Parts bytes)
sized_by bytes rest n h true e = inr (λ x k. too_short bytes rest n h (ltb-true (length rest) n e) x.0 x.1 k)
sized_by bytes rest n h false e =
    let le : n ≤ length rest = ltb-false (length rest) n e in
    let parts : bytes ≡ h.0 ++ (take n rest ++ drop n rest) = h.1 ∙ ap (λ t. h.0 ++ t) (sym (take-append-drop n rest)) in
    inl ((take n rest, drop n rest), (h.0, parts, subst (SpellsU32 h.0) (sym (length-take-le n rest le)) h.2))

sized_decided : (bytes : List ℕ) → OneOrNone (Parts bytes)
sized_decided bytes = elim (number_by bytes (u32_at bytes) refl) [
  | inl h ↦ sized_by bytes h.0.1 h.0.0 h.1 (ltb (length h.0.1) h.0.0) refl
  | inr none ↦ inr (λ x k. none (length x.0, x.0 ++ x.1) k)
]

whole_decided : (bytes : List ℕ) → OneOrNone (BeginsWhole bytes)
whole_decided [] = inr none_begins
whole_decided (b ∷ bs) = elim (sized_decided bs) [
  | inl h ↦ inl (h.0.1, begins (b ∷ bs) h.0.1 b bs h.0.0 refl h.1)
  | inr none ↦ inr (λ after k.
      let g = begun (b ∷ bs) after k in
      none (g.contents, after) (subst (λ t. BeginsSized t g.contents after) (sym (same_tails b g.id bs g.rest g.parts)) g.sized))
]

-- a section in front, and the last of what follows it
last_by : (bytes after : List ℕ) → BeginsWhole bytes after → OneOrNone (EndsWith after) → OneOrNone (EndsWith bytes)
last_by bytes [] h o = inl (bytes, is_last bytes [] refl h)
last_by bytes (x ∷ xs) h (inl k) = inl (k.0, comes_back bytes (x ∷ xs) k.0 h k.1)
last_by bytes (x ∷ xs) h (inr none) = inr (λ last k. none last (goes_on bytes (x ∷ xs) last h (omega arith) k))

last_decided : (n : ℕ) (bytes : List ℕ) → length bytes ≤ n → OneOrNone (EndsWith bytes)
last_decided zero bytes few = inr (λ last k.
    let e = nil_from_length bytes (omega arith) in
    let b = begins_some bytes last k in
    none_begins b.0 (subst (λ t. BeginsWhole t b.0) e b.1))
last_decided (suc n) bytes few = elim (whole_decided bytes) [
  | inl h ↦ last_by bytes h.0 h.1 (last_decided n h.0 (omega (arith, shorter_behind bytes h.0 h.1)))
  | inr none ↦ inr (λ last k. let b = begins_some bytes last k in none b.0 b.1)
]

-- a name, and whether it is that of notes
named_by : (contents name notes : List ℕ) → BeginsSized contents name notes → (b : Bool) → bytes_eq name notes_name ≡ b → OneOrNone (BeginsSized contents notes_name)
named_by contents name notes h true e = inl (notes, subst (λ n. BeginsSized contents n notes) ((bytes_eq-Decides name notes_name).0 e) h)
named_by contents name notes h false e = inr (other_name contents name notes notes_name e refl h)

named_decided : (contents : List ℕ) → OneOrNone (BeginsSized contents notes_name)
named_decided contents = elim (sized_decided contents) [
  | inl h ↦ named_by contents h.0.0 h.0.1 h.1 (bytes_eq h.0.0 notes_name) refl
  | inr none ↦ inr (λ notes k. none (notes_name, notes) k)
]

-- contents, and whether anything follows them
behind_by : (rest contents after : List ℕ) → BeginsSized rest contents after → OneOrNone (NotesBehindId rest)
behind_by rest contents [] h = elim (named_decided contents) [
  | inl k ↦ inl (k.0, (contents, h, k.1))
  | inr none ↦ inr (name_missing rest contents [] h none)
]
behind_by rest contents (x ∷ xs) h = inr (bytes_behind rest contents (x ∷ xs) (λ e. absurd (omega arith)) h)

behind_decided : (rest : List ℕ) → OneOrNone (NotesBehindId rest)
behind_decided rest = elim (sized_decided rest) [
  | inl h ↦ behind_by rest h.0.0 h.0.1 h.1
  | inr none ↦ inr (λ notes k. none (k.0, []) k.1)
]

notes_by : (b : ℕ) (bs : List ℕ) (c : Bool) → eqb b 0 ≡ c → OneOrNone (Noted (b ∷ bs))
notes_by b bs true e = elim (behind_decided bs) [
  | inl h ↦ inl (h.0, record { rest = bs; contents = h.1.0; parts = ap (λ x. x ∷ bs) (eqb-true b 0 e); sized = h.1.1; named = h.1.2 })
  | inr none ↦ inr (λ notes k. none notes (noted_behind b bs notes k))
]
notes_by b bs false e = inr (λ notes k. eqb-false b 0 e (same_heads b 0 bs k.rest k.parts))
  where
    same_heads : (a b : ℕ) (r s : List ℕ) → a ∷ r ≡ b ∷ s → a ≡ b
    same_heads a b r s e = cc

notes_decided : (section : List ℕ) → OneOrNone (Noted section)
notes_decided [] = inr (λ notes k. omega (arith, ap length k.parts))
notes_decided (b ∷ bs) = notes_by b bs (eqb b 0) refl

-- a file
abbrev pub Splits : List ℕ → List ℕ × List ℕ → Type 0
Splits file x = Split file x.0 x.1

file_by : (file sections : List ℕ) → file ≡ magic ++ (version ++ sections) → OneOrNone (Splits file)
file_by file sections e = elim (last_decided (length sections) sections (omega arith)) [
  | inl h ↦ elim (notes_decided h.0) [
    | inl k ↦ inl (_, split_found file sections h.0 k.0 (record { header = e; ends = h.1; holds = λ at. holds at h.0 k.0 k.1 }))
    | inr none ↦ inr (λ x s. no_notes file sections h.0 e h.1 none x.0 x.1 s)
  ]
  | inr none ↦ inr (λ x s. no_last file sections e none x.0 x.1 s)
]

header_by : (file : List ℕ) (b : Bool) → bytes_eq (take 8 file) header ≡ b → OneOrNone (Splits file)
header_by file true e =
    let front : take 8 file ≡ header = (bytes_eq-Decides (take 8 file) header).0 e in
    file_by file (drop 8 file) (sym (take-append-drop 8 file) ∙ ap (λ t. t ++ drop 8 file) front)
header_by file false e = inr (λ x s. no_header file (λ rest h. wrong rest h) x.0 x.1 s)
  where
    wrong : (rest : List ℕ) → file ≡ magic ++ (version ++ rest) → ⊥
    wrong rest h =
        let same : take 8 file ≡ header = ap (take 8) h in
        let t = (bytes_eq-Decides (take 8 file) header).1 same in
        let bad : true ≡ false = sym t ∙ e in
        cc

pub split_decided : (file : List ℕ) → OneOrNone (Splits file)
split_decided file = header_by file (bytes_eq (take 8 file) header) refl
