use Rattle.symbolic_state.proofs.LeftOver.{KeptSoFar}
use Rattle.symbolic_state.proofs.keeping.chunks_left.Given as goal

abbrev pub invariant-loop-chunk : goal.invariant-loop-chunk
invariant-loop-chunk l = KeptSoFar l.fn.used l.yielded l.left l.number
