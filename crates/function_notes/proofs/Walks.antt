-- Steps of the walk over notes.
use Rattle.std.proofs.Common.{◌≡◌, refl, sym, ap, ◌∙◌, ℕ, suc, ◌<◌, ◌==◌, Bool, true, false, cond, if◌then◌else◌, List, ◌∷◌, length, drop, get_or, drop-cons}
use Rattle.std.specs.Prelude.{find, slice_get, Option, Some, option_and_then}
use Rattle.notes.specs.declared.outline.Note.{Note}
use Rattle.std.proofs.lemmas.Option.{slice_get-get_or}

-- the places of the first notes from a place on
abbrev pub NotedFrom : List Note → ℕ → (ℕ → Option ℕ) → Type 0
NotedFrom notes i place = (n : ℕ) → option_and_then (slice_get notes) (place n) ≡ find (λ (note : Note). note.at == n) (drop i notes)

-- one earlier place
pub noted_step : (notes : List Note) (i : ℕ) (x : Note) (old new : ℕ → Option ℕ) → i < length notes → x ≡ get_or notes i x
    → ((n : ℕ) → new n ≡ (if x.at == n then Some i else old n)) → NotedFrom notes (suc i) old → NotedFrom notes i new
noted_step notes i x old new within is step known n =
    ap (option_and_then (slice_get notes)) (step n)
    ∙ pick (x.at == n)
    ∙ sym (ap (find (λ (note : Note). note.at == n)) (drop-cons notes i x within ∙ ap (λ y. y ∷ drop (suc i) notes) (sym is)))
  where
    pick : (b : Bool) → option_and_then (slice_get notes) (if b then Some i else old n) ≡ cond b (Some x) (find (λ (note : Note). note.at == n) (drop (suc i) notes))
    pick true = slice_get-get_or notes i x within ∙ ap Some (sym is)
    pick false = known n
