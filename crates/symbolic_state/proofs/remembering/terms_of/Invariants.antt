use Rattle.std.proofs.Common.{◌≡◌, map, take}
use Rattle.symbolic_state.proofs.remembering.terms_of.Given as goal

abbrev pub invariant-loop-entry : goal.invariant-loop-entry
invariant-loop-entry l = l.ids ≡ map (λ e. e.1) (take l.entry-index l.entries)
