-- Moves that are read one after another, up to a use.
use Rattle.std.proofs.Common.{◌≡◌, List, [], ◌∷◌, ◌++◌, Result, Ok, Err, refl, sym, ap, ◌∙◌, append_assoc, append-nil}
use Rattle.sexp_text.specs.declared.fault.TextFault.{TextFault}
use Rattle.sexp_text.specs.Reading.{◌>>=◌}
use Rattle.notes.specs.declared.moves.Move.{Move}
use Rattle.notes.specs.declared.uses.Use.{Use}
use Rattle.notes.specs.declared.uses.Use.TheVariants as used
use Rattle.notes_grammar.specs.Parts.{Part, Parts, Nil, Cons}
use Rattle.notes_grammar.specs.Shapes.{Setting}
use Rattle.notes_grammar.specs.Reading.{ended}
use Rattle.annot_text.specs.declared.functions.Noted.{Noted}
use Rattle.annot_text.specs.declared.functions.Noted.TheVariants as noted
use Rattle.annot_text.specs.words.Functions.{noted_in, noted_then, note_parts}

-- what was read, and what is read behind it
abbrev pub behind_moves : List Move → Result (List Move × Use) TextFault → Result (List Move × Use) TextFault
behind_moves before r = r >>= λ x. Ok (before ++ x.0, x.1)

pub begun : (r : Result (List Move × Use) TextFault) → behind_moves [] r ≡ r
begun (Ok x) = refl
begun (Err e) = refl

here : (c : Setting) (p : Part) (ps : Parts) (r : Result Noted TextFault) → noted_in c p ≡ r → note_parts c (Cons p ps) ≡ (r >>= λ n. noted_then n ps (note_parts c ps))
here c p ps r e = ap (λ s. s >>= λ n. noted_then n ps (note_parts c ps)) e

pub refused : (c : Setting) (p : Part) (ps : Parts) (before : List Move) (fault : TextFault) (said : Result (List Move × Use) TextFault) →
    noted_in c p ≡ Err fault → behind_moves before (note_parts c (Cons p ps)) ≡ said → said ≡ Err fault
refused c p ps before fault said e s = sym s ∙ ap (behind_moves before) (here c p ps (Err fault) e)

pub goes_on : (c : Setting) (p : Part) (ps : Parts) (before : List Move) (m : Move) (said : Result (List Move × Use) TextFault) →
    noted_in c p ≡ Ok (noted.Move m) → behind_moves before (note_parts c (Cons p ps)) ≡ said → behind_moves (before ++ m ∷ []) (note_parts c ps) ≡ said
goes_on c p ps before m said e s = by (note_parts c ps) ∙ sym (ap (behind_moves before) (here c p ps (Ok (noted.Move m)) e)) ∙ s
  where
    by : (r : Result (List Move × Use) TextFault) → behind_moves (before ++ m ∷ []) r ≡ behind_moves before (r >>= λ more. Ok (m ∷ more.0, more.1))
    by (Ok x) = ap (λ ms. Ok (ms, x.1)) (append_assoc before (m ∷ []) x.0)
    by (Err f) = refl

pub used_last : (c : Setting) (p : Part) (ps : Parts) (before : List Move) (u : Use) (said : Result (List Move × Use) TextFault) →
    noted_in c p ≡ Ok (noted.Use u) → behind_moves before (note_parts c (Cons p ps)) ≡ said → said ≡ ended (before, u) ps
used_last c p ps before u said e s = sym s ∙ ap (behind_moves before) (here c p ps (Ok (noted.Use u)) e) ∙ by ps
  where
    by : (qs : Parts) → behind_moves before (ended ([], u) qs) ≡ ended (before, u) qs
    by Nil = ap (λ ms. Ok (ms, u)) (append-nil before)
    by (Cons q qs) = refl

pub ends : (c : Setting) (before : List Move) (said : Result (List Move × Use) TextFault) → behind_moves before (note_parts c Nil) ≡ said → said ≡ Ok (before, used.Nothing)
ends c before said s = sym s ∙ ap (λ ms. Ok (ms, used.Nothing)) (append-nil before)
