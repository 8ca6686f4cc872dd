use Rattle.std.proofs.Common.{subst}
use Rattle.wasm_values.specs.Answers.{Gives}
use Rattle.term_logic.specs.Leaves.{leaves_of}
use Rattle.heap_logic.specs.Heaps.{chunk_of}
use Rattle.notes.specs.declared.chunk.Chunk.{Chunk}
use Rattle.symbolic_state.specs.Refused.{refusal_of}
use Rattle.symbolic_state.specs.words.Instances.{small_chunk}
use Rattle.symbolic_state.proofs.AssertionParts.{chunk-same}
use Rattle.symbolic_state.proofs.tracked.TrackedState.put_whole_chunk.Goals as goal

pub returns-clause-put : goal.returns-clause-put
returns-clause-put c =
    let ts = c.self.inside.table in
    subst (λ (k : Chunk). Gives refusal_of (chunk_of c.put_chunk.new.table) c.put_chunk.result (small_chunk k))
    (chunk-same (leaves_of ts c.none.result) (c.none.ensures.trees ts) c.args.chunk.now) c.put_chunk.ensures.put
