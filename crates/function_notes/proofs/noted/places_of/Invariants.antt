use Rattle.std.proofs.Common.{nat_eq, ◌≡◌, ℕ, ◌==◌, drop}
use Rattle.std.specs.Prelude.{find, slice_get, option_and_then}
use Rattle.std.specs.HashMap.{get}
use Rattle.notes.specs.declared.outline.Note.{Note}
use Rattle.function_notes.proofs.noted.places_of.Given as goal

abbrev pub invariant-loop-place : goal.invariant-loop-place
invariant-loop-place l = (f : ℕ) → option_and_then (slice_get l.notes) (get nat_eq l.places f) ≡ find (λ (n : Note). n.at == f) (drop l.place l.notes)
