use Rattle.std.proofs.Common.{◌≡◌, map, min, take, sum_by}
use Rattle.outline_rules.specs.Chunks.{chunk_nodes}
use Rattle.heap_logic.specs.Heaps.{chunk_of}
use Rattle.symbolic_state.proofs.chunk_changes.chunks_size.Given as goal

abbrev pub invariant-loop-chunk : goal.invariant-loop-chunk
invariant-loop-chunk l = l.nodes ≡ min (sum_by chunk_nodes (map (chunk_of l.table) (take l.chunk-index l.chunks))) 18446744073709551615
