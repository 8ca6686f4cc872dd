-- A section that holds notes, taken apart and put together; a file is split in at most one way.
use Rattle.std.proofs.Common.{◌≡◌, ℕ, List, [], ◌∷◌, ◌++◌, length, refl, sym, ap, subst, ◌∙◌, append_assoc}
use Rattle.std.specs.Str.{IsUtf8}
use Rattle.std.specs.List.{concat}
use Rattle.std.proofs.lemmas.List.{append-nil, append_cancel_left, append_cancel_right}
use Rattle.binary_grammar.specs.Numbers.{SpellsU32}
use Rattle.binary_grammar.specs.Grammar.{Then, Tagged, SpellsNumber, Utf8, SpellsName}
use Rattle.binary_grammar.specs.CodeGrammar.{OfLength, Sized}
use Rattle.binary_grammar.specs.ModuleGrammar.{magic, version, SpellsContents, SpellsSection}
use Rattle.wasm_seal.specs.Sealed.{notes_name, IsSection, HoldsNotes, Split}
use Rattle.wasm_seal.specs.words.Parts.{BeginsSized, EndsWith}
use Rattle.wasm_seal.proofs.PartLaws.{same_tails, sized_once, ends_once}

-- a section that holds notes: its contents behind its size, and the notes behind the name
pub record Noted (text notes : List ℕ) : Type 0 where
  pub rest : List ℕ
  pub contents : List ℕ
  pub parts : text ≡ 0 ∷ rest
  pub sized : BeginsSized rest contents []
  pub named : BeginsSized contents notes_name notes

pub noted : (at : ℕ) (text notes : List ℕ) → HoldsNotes at text notes → Noted text notes
unfolding SpellsSection Tagged Sized Then OfLength SpellsNumber SpellsContents SpellsName Utf8
noted at text notes h =
    let z = h.3.1 in
    let c = z.5.1 in
    let n = c.2 in
    let len : length notes_name ≡ n.0 = ap length n.5.2 ∙ n.5.0 in
    record {
      rest = h.1;
      contents = z.2;
      parts = h.2 ∙ ap (λ b. b ∷ h.1) h.3.0;
      sized = (z.1, z.3 ∙ ap (λ t. z.1 ++ t) (sym (append-nil z.2)), subst (SpellsU32 z.1) (sym z.5.0) z.4);
      named = (n.1, c.1 ∙ ap (λ t. t ++ notes) n.3 ∙ append_assoc n.1 n.2 notes ∙ ap (λ t. n.1 ++ (t ++ notes)) (sym n.5.2), subst (SpellsU32 n.1) (sym len) n.4);
    }

name_is_text : IsUtf8 notes_name
unfolding lib.Utf8.encode
name_is_text = (notes_name, (refl, refl))

pub holds : (at : ℕ) (text notes : List ℕ) → Noted text notes → HoldsNotes at text notes
unfolding SpellsSection Tagged Sized Then OfLength SpellsNumber SpellsContents SpellsName Utf8
holds at text notes h =
    let z = h.sized in
    let n = h.named in
    (0, h.rest, h.parts, (refl, (length h.contents, z.0, h.contents, z.1 ∙ ap (λ t. z.0 ++ t) (append-nil h.contents), z.2, (refl, (n.0 ++ notes_name, n.1 ∙ sym (append_assoc n.0 notes_name notes), (length notes_name, n.0, notes_name, refl, n.2, (refl, name_is_text, refl)))))))

pub noted_once : (text t u : List ℕ) → Noted text t → Noted text u → t ≡ u
noted_once text t u h k =
    let e : h.rest ≡ k.rest = same_tails 0 0 h.rest k.rest (sym h.parts ∙ k.parts) in
    let c = (sized_once k.rest h.contents [] k.contents [] (subst (λ r. BeginsSized r h.contents []) e h.sized) k.sized).0 in
    (sized_once k.contents notes_name t notes_name u (subst (λ r. BeginsSized r notes_name t) c h.named) k.named).1

pub noted_section : (text notes : List ℕ) → Noted text notes → IsSection text
noted_section text notes h =
    let z = h.sized in
    (0, z.0, h.contents, h.parts ∙ ap (λ t. 0 ∷ t) (z.1 ∙ ap (λ t. z.0 ++ t) (append-nil h.contents)), z.2)

-- ---- files

-- a split file: the header, and sections of which the last holds the notes
pub record Opened (file bytes notes : List ℕ) : Type 0 where
  pub body : List ℕ
  pub last : List ℕ
  pub header : file ≡ magic ++ (version ++ body)
  pub parts : file ≡ bytes ++ last
  pub ends : EndsWith body last
  pub holds : Noted last notes

pub opened : (file bytes notes : List ℕ) → Split file bytes notes → Opened file bytes notes
opened file bytes notes h =
    let n = noted (length bytes) h.last notes h.holds in
    let ss = h.whole.0 in
    record {
      body = concat ss ++ h.last;
      last = h.last;
      header = h.parts ∙ ap (λ t. t ++ h.last) h.whole.1;
      parts = h.parts;
      ends = (ss, refl, h.whole.2, noted_section h.last notes n);
      holds = n;
    }

pub same_bodies : (a b : List ℕ) → magic ++ (version ++ a) ≡ magic ++ (version ++ b) → a ≡ b
same_bodies a b e = append_cancel_left version a b (append_cancel_left magic (version ++ a) (version ++ b) e)

pub same_last : (file b c t u : List ℕ) (h : Opened file b t) (k : Opened file c u) → h.last ≡ k.last
same_last file b c t u h k =
    let e : k.body ≡ h.body = same_bodies k.body h.body (sym k.header ∙ h.header) in
    ends_once h.ends.0 h.body h.last k.last h.ends.1 h.ends.2 h.ends.3 (subst (λ x. EndsWith x k.last) e k.ends)

pub one_split : (file b c t u : List ℕ) → Split file b t → Split file c u → (b ≡ c) × (t ≡ u)
one_split file b c t u p q =
    let h = opened file b t p in
    let k = opened file c u q in
    let e = same_last file b c t u h k in (
      append_cancel_right b c h.last (sym h.parts ∙ k.parts ∙ ap (λ x. c ++ x) (sym e)),
      noted_once k.last t u (subst (λ x. Noted x t) e h.holds) k.holds,
    )
