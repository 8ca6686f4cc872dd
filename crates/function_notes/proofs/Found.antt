-- The note that is found.
use Rattle.std.proofs.Common.{◌≡◌, refl, sym, ap, ◌∙◌, ℕ, ◌==◌, Bool, true, false, if◌then◌else◌, List, [], ◌∷◌, IsTrue}
use Rattle.std.specs.Prelude.{find, Option, Some, None, option_and_then}
use Rattle.std.specs.List.{list_all}
use Rattle.notes.specs.declared.outline.FuncNotes.{FuncNotes}
use Rattle.notes.specs.declared.outline.Note.{Note}
use Rattle.notes.specs.WellFormed.{where_there, well_formed_assertion, well_formed_contract, well_formed_initial, well_formed_func, well_formed_note, well_formed_move, well_formed_use, well_formed_notes}
use Rattle.term_trees.proofs.Truths.{both}
use Rattle.outline_rules.specs.Settings.{Setting, notes_of}
use Rattle.outline_rules.specs.Uses.{note_at, moves_at, use_at, moves_of, use_of}
use Rattle.function_notes.specs.Noted.{noted_in, noted_at, IsNotesOf}

-- the note of an instruction, by the notes that there are
pub note-in : (n : ℕ) (o : Option FuncNotes) → option_and_then (λ (notes : FuncNotes). find (λ (note : Note). note.at == n) notes.notes) o ≡ noted_at (noted_in o) n
note-in n None = refl
note-in n (Some notes) = refl

pub note-is : (c : Setting) (f n : ℕ) (notes : List Note) → IsNotesOf c f notes → noted_at notes n ≡ note_at c f n
note-is c f n notes is = ap (λ ns. noted_at ns n) is ∙ sym (note-in n (notes_of c f))

pub moves-are : (c : Setting) (f n : ℕ) (notes : List Note) → IsNotesOf c f notes → moves_of (noted_at notes n) ≡ moves_at c f n
moves-are c f n notes is = ap moves_of (note-is c f n notes is)

pub use-is : (c : Setting) (f n : ℕ) (notes : List Note) → IsNotesOf c f notes → use_of (noted_at notes n) ≡ use_at c f n
use-is c f n notes is = ap use_of (note-is c f n notes is)

pub ruleset notings = (moves-are, use-is)

-- ---- what is well formed

found-has : {A : Type 0} (p q : A → Bool) (xs : List A) (x : A) → Some x ≡ find p xs → IsTrue (list_all q xs) → IsTrue (q x)
found-has p q [] x is all = let never : Some x ≡ None = is in cc
found-has p q (y ∷ ys) x is all =
    by_test (p y) is (λ later. found-has p q ys x later (both (q y) (list_all q ys) all).1)
  where
    by_test : (b : Bool) → Some x ≡ (if b then Some y else find p ys) → (Some x ≡ find p ys → IsTrue (q x)) → IsTrue (q x)
    by_test true is rest = let same : x ≡ y = cc in ap q same ∙ (both (q y) (list_all q ys) all).0
    by_test false is rest = rest is

-- the notes of a function
pub func-well-formed : (c : Setting) (f : ℕ) (x : FuncNotes) → IsTrue (well_formed_notes c.notes) → Some x ≡ notes_of c f → IsTrue (list_all well_formed_note x.notes)
func-well-formed c f x well is =
    let n = c.notes in
    let after_first = (both (well_formed_assertion n.invariant) _ well).1 in
    let after_second = (both (well_formed_initial n.initial) _ after_first).1 in
    let funcs = (both (list_all well_formed_func n.funcs) _ after_second).0 in
    let here : IsTrue (well_formed_func x) = found-has (λ (k : FuncNotes). k.func == f) well_formed_func n.funcs x is funcs in
    (both (where_there well_formed_contract x.contract) _ here).1

-- the note that is found
pub note-well-formed : (notes : List Note) (n : ℕ) (x : Note) → IsTrue (list_all well_formed_note notes) → Some x ≡ noted_at notes n → IsTrue (well_formed_note x)
note-well-formed notes n x well is = found-has (λ (note : Note). note.at == n) well_formed_note notes x is well

pub moves-well-formed : (notes : List Note) (n : ℕ) (x : Note) → IsTrue (list_all well_formed_note notes) → Some x ≡ noted_at notes n → IsTrue (list_all well_formed_move x.moves)
moves-well-formed notes n x well is = (both (list_all well_formed_move x.moves) _ (note-well-formed notes n x well is)).0

pub use-well-formed : (notes : List Note) (n : ℕ) (x : Note) → IsTrue (list_all well_formed_note notes) → Some x ≡ noted_at notes n → IsTrue (well_formed_use x.used)
use-well-formed notes n x well is = (both (list_all well_formed_move x.moves) _ (note-well-formed notes n x well is)).1
