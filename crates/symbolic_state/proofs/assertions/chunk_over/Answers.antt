use Rattle.std.proofs.Common.{subst}
use Rattle.wasm_values.specs.Answers.{Gives}
use Rattle.term_trees.specs.Leaves.{Leaves}
use Rattle.heap_logic.specs.Heaps.{chunk_of}
use Rattle.outline_rules.specs.Chunks.{replaced_chunk}
use Rattle.symbolic_state.specs.Refused.{refusal_of}
use Rattle.symbolic_state.specs.words.Instances.{small_chunk}
use Rattle.symbolic_state.proofs.AssertionLeaves.{leaves-are}
use Rattle.symbolic_state.proofs.assertions.chunk_over.Goals as goal

pub returns-clause-put : goal.returns-clause-put
returns-clause-put c =
    let a = c.args.terms.now in
    subst (λ (l : Leaves). Gives refusal_of (chunk_of c.put_chunk.new.table) c.put_chunk.result (small_chunk (replaced_chunk l c.args.chunk.now)))
    (leaves-are c.args.state.now a.own.now a.args.now a.result c.leaves_over-leaves.result c.leaves_over-leaves.ensures c.args.table.now) c.put_chunk.ensures.put
