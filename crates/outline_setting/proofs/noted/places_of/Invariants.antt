use Rattle.std.proofs.Common.{nat_eq, ◌≡◌, ℕ, ◌==◌, drop}
use Rattle.std.specs.Prelude.{find, slice_get, option_and_then}
use Rattle.std.specs.HashMap.{get}
use Rattle.notes.specs.declared.outline.FuncNotes.{FuncNotes}
use Rattle.outline_setting.proofs.noted.places_of.Given as goal

abbrev pub invariant-loop-place : goal.invariant-loop-place
invariant-loop-place l = (f : ℕ) → option_and_then (slice_get l.funcs) (get nat_eq l.places f) ≡ find (λ (n : FuncNotes). n.func == f) (drop l.place l.funcs)
