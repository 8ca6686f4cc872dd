-- Lemmas that are read one after another.
use Rattle.std.proofs.Common.{◌≡◌, ℕ, true, false, cond, List, [], ◌∷◌, ◌++◌, Result, Ok, Err, refl, sym, ap, ◌∙◌, append_assoc, append-nil}
use Rattle.std.specs.Prelude.{codes}
use Rattle.std.proofs.lemmas.List.{map_push}
use Rattle.sexp_text.specs.declared.fault.TextFault.{TextFault}
use Rattle.sexp_text.specs.Reading.{◌>>=◌}
use Rattle.notes.specs.declared.outline.Lemma.{Lemma}
use Rattle.notes_grammar.specs.Parts.{Part, Parts, Nil, Cons}
use Rattle.notes_grammar.specs.Shapes.{names_of}
use Rattle.notes_grammar.specs.Reading.{is_tagged, lemma_in, lemmas_first}
use Rattle.annot_text.specs.words.Lemmas.{behind_lemmas}

abbrev Read : Type 0
Read = Result (List Lemma × Parts) TextFault

pub begun : (r : Read) → behind_lemmas [] r ≡ r
begun (Ok x) = refl
begun (Err e) = refl

here : (names : List (List ℕ)) (p : Part) (ps : Parts) (r : Result Lemma TextFault) → is_tagged (codes "lemma") p ≡ true → lemma_in names p ≡ r →
    lemmas_first names (Cons p ps) ≡ (r >>= λ l. lemmas_first (names ++ l.name ∷ []) ps >>= λ more. Ok (l ∷ more.0, more.1))
here names p ps r t e =
    ap (λ b. cond b (lemma_in names p >>= λ l. lemmas_first (names ++ l.name ∷ []) ps >>= λ more. Ok (l ∷ more.0, more.1)) (Ok ([], Cons p ps))) t
    ∙ ap (λ s. s >>= λ l. lemmas_first (names ++ l.name ∷ []) ps >>= λ more. Ok (l ∷ more.0, more.1)) e

pub refused : (names : List (List ℕ)) (p : Part) (ps : Parts) (before : List Lemma) (fault : TextFault) (said : Read) → is_tagged (codes "lemma") p ≡ true →
    lemma_in names p ≡ Err fault → behind_lemmas before (lemmas_first names (Cons p ps)) ≡ said → said ≡ Err fault
refused names p ps before fault said t e s = sym s ∙ ap (behind_lemmas before) (here names p ps (Err fault) t e)

pub goes_on : (names : List (List ℕ)) (p : Part) (ps : Parts) (before : List Lemma) (l : Lemma) (said : Read) → is_tagged (codes "lemma") p ≡ true →
    lemma_in names p ≡ Ok l → behind_lemmas before (lemmas_first names (Cons p ps)) ≡ said → behind_lemmas (before ++ l ∷ []) (lemmas_first (names ++ l.name ∷ []) ps) ≡ said
goes_on names p ps before l said t e s = by (lemmas_first (names ++ l.name ∷ []) ps) ∙ sym (ap (behind_lemmas before) (here names p ps (Ok l) t e)) ∙ s
  where
    by : (r : Read) → behind_lemmas (before ++ l ∷ []) r ≡ behind_lemmas before (r >>= λ more. Ok (l ∷ more.0, more.1))
    by (Ok x) = ap (λ ls. Ok (ls, x.1)) (append_assoc before (l ∷ []) x.0)
    by (Err f) = refl

pub other : (names : List (List ℕ)) (p : Part) (ps : Parts) (before : List Lemma) (said : Read) → is_tagged (codes "lemma") p ≡ false →
    behind_lemmas before (lemmas_first names (Cons p ps)) ≡ said → said ≡ Ok (before, Cons p ps)
other names p ps before said t s =
    sym s ∙ ap (λ b. behind_lemmas before (cond b (lemma_in names p >>= λ l. lemmas_first (names ++ l.name ∷ []) ps >>= λ more. Ok (l ∷ more.0, more.1)) (Ok ([], Cons p ps)))) t
    ∙ ap (λ ls. Ok (ls, Cons p ps)) (append-nil before)

pub ends : (names : List (List ℕ)) (before : List Lemma) (said : Read) → behind_lemmas before (lemmas_first names Nil) ≡ said → said ≡ Ok (before, Nil)
ends names before said s = sym s ∙ ap (λ ls. Ok (ls, Nil)) (append-nil before)

pub more_names : (before : List Lemma) (l : Lemma) (names : List (List ℕ)) → names ≡ names_of before → names ++ l.name ∷ [] ≡ names_of (before ++ l ∷ [])
more_names before l names e = ap (λ ns. ns ++ l.name ∷ []) e ∙ sym (map_push (λ (k : Lemma). k.name) before l)
