use Rattle.symbolic_renewal.proofs.Assumed.{Chunks}
use Rattle.symbolic_renewal.proofs.assuming.append_chunks.Given as goal

abbrev pub invariant-loop-chunk : goal.invariant-loop-chunk
invariant-loop-chunk l = Chunks l.fn.state l.state l.fn.terms l.fn.chunks l.chunk-index
