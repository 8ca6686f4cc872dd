use Rattle.std.proofs.Common.{◌≡◌, take}
use Rattle.symbolic_state.proofs.copies.copied_chunks.Given as goal

abbrev pub invariant-loop-chunk : goal.invariant-loop-chunk
invariant-loop-chunk l = l.list ≡ take l.chunk-index l.chunks
