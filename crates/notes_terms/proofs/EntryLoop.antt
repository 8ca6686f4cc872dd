-- Parts that are read alike, one after another.
use Rattle.std.proofs.Common.{◌≡◌, ℕ, ◌+◌, ◌<◌, ◌≤◌, List, [], ◌∷◌, ◌++◌, Result, Ok, Err, length, get_or, drop, refl, sym, ap, ◌∙◌, append_assoc, append-nil}
use Rattle.std.proofs.lemmas.List.{drop_more, drop_all}
use Rattle.sexp_text.specs.declared.fault.TextFault.{TextFault}
use Rattle.sexp_text.specs.declared.sexp.Sexp.{Sexp}
use Rattle.sexp_text.specs.Reading.{◌>>=◌}
use Rattle.notes_grammar.specs.Parts.{Part, part_of, parts_of}
use Rattle.notes_grammar.specs.Reading.{all_of}

-- what was read, and what is read behind it
abbrev pub behind_read : {A : Type 0} → List A → Result (List A) TextFault → Result (List A) TextFault
behind_read before r = r >>= λ xs. Ok (before ++ xs)

pub begun : {A : Type 0} (r : Result (List A) TextFault) → behind_read [] r ≡ r
begun (Ok xs) = refl
begun (Err e) = refl

here : {A : Type 0} (read : Part → Result A TextFault) (parts : List Sexp) (i : ℕ) (p : Sexp) (r : Result A TextFault) → i < length parts → p ≡ get_or parts i p → read (part_of p) ≡ r →
    all_of read (parts_of (drop i parts)) ≡ (r >>= λ x. all_of read (parts_of (drop (i + 1) parts)) >>= λ xs. Ok (x ∷ xs))
here read parts i p r h is e =
    ap (λ ps. all_of read (parts_of ps)) (drop_more parts i p h) ∙ ap (λ q. read (part_of q) >>= λ x. all_of read (parts_of (drop (i + 1) parts)) >>= λ xs. Ok (x ∷ xs)) (sym is)
    ∙ ap (λ s. s >>= λ x. all_of read (parts_of (drop (i + 1) parts)) >>= λ xs. Ok (x ∷ xs)) e

pub refused : {A : Type 0} (read : Part → Result A TextFault) (parts : List Sexp) (i : ℕ) (p : Sexp) (before : List A) (fault : TextFault) (said : Result (List A) TextFault) →
    i < length parts → p ≡ get_or parts i p → read (part_of p) ≡ Err fault → behind_read before (all_of read (parts_of (drop i parts))) ≡ said → said ≡ Err fault
refused read parts i p before fault said h is e s = sym s ∙ ap (behind_read before) (here read parts i p (Err fault) h is e)

pub goes_on : {A : Type 0} (read : Part → Result A TextFault) (parts : List Sexp) (i : ℕ) (p : Sexp) (before : List A) (x : A) (said : Result (List A) TextFault) →
    i < length parts → p ≡ get_or parts i p → read (part_of p) ≡ Ok x → behind_read before (all_of read (parts_of (drop i parts))) ≡ said →
    behind_read (before ++ x ∷ []) (all_of read (parts_of (drop (i + 1) parts))) ≡ said
goes_on read parts i p before x said h is e s =
    by (all_of read (parts_of (drop (i + 1) parts))) ∙ sym (ap (behind_read before) (here read parts i p (Ok x) h is e)) ∙ s
  where
    by : (r : Result _ TextFault) → behind_read (before ++ x ∷ []) r ≡ behind_read before (r >>= λ xs. Ok (x ∷ xs))
    by (Ok xs) = ap Ok (append_assoc before (x ∷ []) xs)
    by (Err f) = refl

pub ends : {A : Type 0} (read : Part → Result A TextFault) (parts : List Sexp) (i : ℕ) (before : List A) (said : Result (List A) TextFault) →
    length parts ≤ i → behind_read before (all_of read (parts_of (drop i parts))) ≡ said → said ≡ Ok before
ends read parts i before said h s =
    sym s ∙ ap (λ ps. behind_read before (all_of read (parts_of ps))) (drop_all i parts h) ∙ ap Ok (append-nil before)
