-- What each part of a split answers.
use Rattle.std.proofs.Common.{◌≡◌, ℕ, ◌-◌, ◌<◌, ◌≤◌, true, false, eqb, List, [], ◌∷◌, ◌++◌, length, take, drop, get_or, Option, Some, None, refl, sym, ap, subst, ◌∙◌, append_assoc, arith}
use Rattle.std.specs.Prelude.{IfSome, IfNone}
use Rattle.std.specs.List.{concat}
use Rattle.std.specs.Cmp.Lexicographic.{pointwise}
use Rattle.std.proofs.lemmas.List.{length-append, append-nil, take_at, drop_at, take_rest}
use Rattle.std.proofs.lemmas.Slice.Eq.{bytes_eq-Decides}
use Rattle.binary_grammar.specs.ModuleGrammar.{magic, version}
use Rattle.wasm_seal.specs.Sealed.{notes_name, HoldsNotes, Split}
use Rattle.wasm_seal.specs.words.Parts.{BeginsNumber, BeginsSized, BeginsWhole, EndsWith, NotesBehindId}
use Rattle.wasm_seal.proofs.PartLaws.{same_tails, number_once, sized_once, begun, begins, ends_once}
use Rattle.wasm_seal.proofs.NotesLaws.{Noted, noted, holds, opened, same_bodies}

pub if_none : {A P Q : Type 0} (o : Option A) → (P → Q) → IfNone o P → IfNone o Q
if_none None f h = f h
if_none (Some x) f h = tt

pub if_some : {A : Type 0} {P Q : A → Type 0} (o : Option A) → ((x : A) → P x → Q x) → IfSome o P → IfSome o Q
if_some None f h = tt
if_some (Some x) f h = f x h

-- ---- sizes and names

-- a size past the end
pub too_short : (bytes rest : List ℕ) (n : ℕ) → BeginsNumber bytes n rest → length rest < n → (contents after : List ℕ) → BeginsSized bytes contents after → ⊥
too_short bytes rest n h few contents after k =
    let e = number_once bytes h.0 k.0 rest (contents ++ after) n (length contents) h.1 h.2 k.1 k.2 in
    omega (arith, e.0, ap length e.1, length-append contents after)

pub the_name : (contents name notes lit : List ℕ) → pointwise eqb name lit ≡ true → lit ≡ notes_name → BeginsSized contents name notes → BeginsSized contents notes_name notes
the_name contents name notes lit e k h = subst (λ n. BeginsSized contents n notes) ((bytes_eq-Decides name lit).0 e ∙ k) h

pub other_name : (contents name rest lit : List ℕ) → pointwise eqb name lit ≡ false → lit ≡ notes_name → BeginsSized contents name rest → (notes : List ℕ) → BeginsSized contents notes_name notes → ⊥
other_name contents name rest lit e k h notes g =
    let s = (sized_once contents name rest notes_name notes h g).0 in
    let t = (bytes_eq-Decides name lit).1 (s ∙ sym k) in
    let wrong : true ≡ false = sym t ∙ e in
    cc

pub name_missing : (rest contents after : List ℕ) → BeginsSized rest contents after → ((notes : List ℕ) → BeginsSized contents notes_name notes → ⊥) → (notes : List ℕ) → NotesBehindId rest notes → ⊥
name_missing rest contents after h none notes k =
    let e = (sized_once rest contents after k.0 [] h k.1).0 in
    none notes (subst (λ c. BeginsSized c notes_name notes) (sym e) k.2)

pub bytes_behind : (rest contents after : List ℕ) → (length after ≡ 0 → ⊥) → BeginsSized rest contents after → (notes : List ℕ) → NotesBehindId rest notes → ⊥
bytes_behind rest contents after some h notes k =
    let e = (sized_once rest contents after k.0 [] h k.1).1 in
    some (ap length e)

-- ---- the first byte

abbrev pub behind : List ℕ → List ℕ
behind bytes = take (length bytes - 1) (drop 1 bytes)

first_byte : (bytes : List ℕ) → 1 ≤ length bytes → bytes ≡ get_or bytes 0 0 ∷ behind bytes
first_byte [] some = absurd (omega arith)
first_byte (b ∷ bs) some = ap (λ t. b ∷ t) (sym (take_rest (b ∷ bs) 1))

-- what stands behind the first byte
behind_is : (bytes : List ℕ) (id : ℕ) (rest : List ℕ) → 1 ≤ length bytes → bytes ≡ id ∷ rest → rest ≡ behind bytes
behind_is bytes id rest some e = same_tails id (get_or bytes 0 0) rest (behind bytes) (sym e ∙ first_byte bytes some)

pub section_found : (bytes contents after : List ℕ) → 1 ≤ length bytes → BeginsSized (behind bytes) contents after → BeginsWhole bytes after
section_found bytes contents after some h = begins bytes after (get_or bytes 0 0) (behind bytes) contents (first_byte bytes some) h

pub section_missing : (bytes : List ℕ) → 1 ≤ length bytes → ((contents after : List ℕ) → BeginsSized (behind bytes) contents after → ⊥) → (after : List ℕ) → BeginsWhole bytes after → ⊥
section_missing bytes some none after h =
    let b = begun bytes after h in
    none b.contents after (subst (λ t. BeginsSized t b.contents after) (behind_is bytes b.id b.rest some b.parts) b.sized)

pub notes_found : (section notes : List ℕ) → 1 ≤ length section → get_or section 0 0 ≡ 0 → NotesBehindId (behind section) notes → (at : ℕ) → HoldsNotes at section notes
notes_found section notes some zero h at =
    holds at section notes (record {
      rest = behind section;
      contents = h.0;
      parts = first_byte section some ∙ ap (λ b. b ∷ behind section) zero;
      sized = h.1;
      named = h.2;
    })

-- notes in a section stand behind its first byte
pub noted_behind : (b : ℕ) (bs notes : List ℕ) → Noted (b ∷ bs) notes → NotesBehindId bs notes
noted_behind b bs notes n = (n.contents, subst (λ t. BeginsSized t n.contents []) (sym (same_tails b 0 bs n.rest n.parts)) n.sized, n.named)

pub notes_missing : (section : List ℕ) → 1 ≤ length section → ((notes : List ℕ) → NotesBehindId (behind section) notes → ⊥) → (at : ℕ) (notes : List ℕ) → HoldsNotes at section notes → ⊥
notes_missing section some none at notes h =
    let n = noted at section notes h in
    none notes (n.contents, subst (λ t. BeginsSized t n.contents []) (behind_is section 0 n.rest some n.parts) n.sized, n.named)

pub other_id : (section : List ℕ) → (get_or section 0 0 ≡ 0 → ⊥) → (at : ℕ) (notes : List ℕ) → HoldsNotes at section notes → ⊥
other_id section other at notes h = other (ap (λ t. get_or t 0 0) (noted at section notes h).parts)

pub no_byte : (section : List ℕ) → length section < 1 → (at : ℕ) (notes : List ℕ) → HoldsNotes at section notes → ⊥
no_byte section none at notes h = omega (arith, ap length (noted at section notes h).parts)

-- ---- files

front_taken : (file bytes last : List ℕ) → file ≡ bytes ++ last → take (length file - length last) file ≡ bytes
front_taken file bytes last e =
    let n = length file - length last in
    ap (take n) e ∙ take_at bytes last n (omega (arith, ap length e, length-append bytes last))

back_taken : (file front notes : List ℕ) → file ≡ front ++ notes → drop (length file - length notes) file ≡ notes
back_taken file front notes e =
    let n = length file - length notes in
    ap (drop n) e ∙ drop_at front notes n (omega (arith, ap length e, length-append front notes))

-- a section that holds notes ends with them
ends_in : (last notes : List ℕ) → Noted last notes → (front : List ℕ) × (last ≡ front ++ notes)
ends_in last notes h =
    let z = h.sized in
    let n = h.named in
    let inside : h.contents ≡ (n.0 ++ notes_name) ++ notes = n.1 ∙ sym (append_assoc n.0 notes_name notes) in
    let rest : h.rest ≡ z.0 ++ ((n.0 ++ notes_name) ++ notes) = z.1 ∙ ap (λ t. z.0 ++ t) (append-nil h.contents ∙ inside) in
    (0 ∷ (z.0 ++ (n.0 ++ notes_name)), h.parts ∙ ap (λ t. 0 ∷ t) (rest ∙ sym (append_assoc z.0 (n.0 ++ notes_name) notes)))

-- what is known where all parts were found
pub record Found (file sections last notes : List ℕ) : Type 0 where
  pub header : file ≡ magic ++ (version ++ sections)
  pub ends : EndsWith sections last
  pub holds : (at : ℕ) → HoldsNotes at last notes

-- the header and these sections
abbrev whole_before : List (List ℕ) → List ℕ
whole_before ss = magic ++ (version ++ concat ss)

parts_found : (file sections last notes : List ℕ) (h : Found file sections last notes) → file ≡ whole_before h.ends.0 ++ last
parts_found file sections last notes h = h.header ∙ ap (λ t. magic ++ (version ++ t)) h.ends.1

pub split_found : (file sections last notes : List ℕ) → Found file sections last notes → Split file (take (length file - length last) file) (drop (length file - length notes) file)
split_found file sections last notes h =
    let bytes = whole_before h.ends.0 in
    let parts = parts_found file sections last notes h in
    let n = ends_in last notes (noted 0 last notes (h.holds 0)) in
    let whole : file ≡ (bytes ++ n.0) ++ notes = parts ∙ ap (λ t. bytes ++ t) n.1 ∙ sym (append_assoc bytes n.0 notes) in
    let s : Split file bytes notes = record { last = last; parts = parts; whole = (h.ends.0, refl, h.ends.2); holds = h.holds (length bytes) } in
    subst (λ b. Split file b (drop (length file - length notes) file)) (sym (front_taken file bytes last parts))
    (subst (λ t. Split file bytes t) (sym (back_taken file (bytes ++ n.0) notes whole)) s)

pub places : (file sections last notes : List ℕ) → Found file sections last notes → (length last ≤ length file) × (length notes ≤ length last)
places file sections last notes h =
    let parts = parts_found file sections last notes h in
    let n = ends_in last notes (noted 0 last notes (h.holds 0)) in
    (omega (arith, ap length parts, length-append (whole_before h.ends.0) last), omega (arith, ap length n.1, length-append n.0 notes))

pub no_header : (file : List ℕ) → ((rest : List ℕ) → file ≡ magic ++ (version ++ rest) → ⊥) → (bytes notes : List ℕ) → Split file bytes notes → ⊥
no_header file none bytes notes h = let o = opened file bytes notes h in none o.body o.header

pub no_last : (file sections : List ℕ) → file ≡ magic ++ (version ++ sections) → ((last : List ℕ) → EndsWith sections last → ⊥) → (bytes notes : List ℕ) → Split file bytes notes → ⊥
no_last file sections e none bytes notes h =
    let o = opened file bytes notes h in
    none o.last (subst (λ t. EndsWith t o.last) (same_bodies o.body sections (sym o.header ∙ e)) o.ends)

pub no_notes : (file sections last : List ℕ) → file ≡ magic ++ (version ++ sections) → EndsWith sections last → ((notes : List ℕ) → Noted last notes → ⊥) → (bytes notes : List ℕ) → Split file bytes notes → ⊥
no_notes file sections last e ends none bytes notes h =
    let o = opened file bytes notes h in
    let k : EndsWith sections o.last = subst (λ t. EndsWith t o.last) (same_bodies o.body sections (sym o.header ∙ e)) o.ends in
    let same = ends_once ends.0 sections last o.last ends.1 ends.2 ends.3 k in
    none notes (subst (λ x. Noted x notes) (sym same) o.holds)
