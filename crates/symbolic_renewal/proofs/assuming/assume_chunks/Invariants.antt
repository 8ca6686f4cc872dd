use Rattle.symbolic_renewal.proofs.Assumed.{Added}
use Rattle.symbolic_renewal.proofs.assuming.assume_chunks.Given as goal

abbrev pub invariant-loop-chunk : goal.invariant-loop-chunk
invariant-loop-chunk l = Added l.fn.state l.state l.fn.chunks l.chunk-index
