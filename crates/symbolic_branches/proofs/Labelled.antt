-- A branch to a label is one to the label with its number.
use Rattle.std.proofs.Common.{◌≡◌, ℕ, zero, suc, List, [], ◌∷◌, refl}
use Rattle.std.specs.Prelude.{slice_get}
use Rattle.notes.specs.declared.uses.With.{With}
use Rattle.outline_rules.specs.Settings.{Setting}
use Rattle.outline_rules.specs.States.{State}
use Rattle.outline_rules.specs.Branches.{Label, branches}
use Rattle.symbolic_branches.specs.words.Parts.{branches_to}

pub branches-is : (c : Setting) (f : ℕ) (ls : List Label) (k : ℕ) (w : With) (s : State) → branches c f ls k w s ≡ branches_to c f (slice_get ls k) w s
branches-is c f [] k w s = refl
branches-is c f (l ∷ ls) zero w s = refl
branches-is c f (l ∷ ls) (suc k) w s = branches-is c f ls k w s

pub ruleset branchings = (branches-is)
