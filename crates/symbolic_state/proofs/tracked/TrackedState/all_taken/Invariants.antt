use Rattle.symbolic_state.proofs.Takes.{TakingTerms}
use Rattle.symbolic_state.proofs.tracked.TrackedState.all_taken.Given as goal

abbrev pub invariant-loop-term : goal.invariant-loop-term
invariant-loop-term l = TakingTerms l.fn.self l.self l.fn.terms l.term-index l.taken
