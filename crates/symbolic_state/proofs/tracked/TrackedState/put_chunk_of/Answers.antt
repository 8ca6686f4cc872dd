use Rattle.std.proofs.Common.{subst}
use Rattle.wasm_values.specs.Answers.{Gives}
use Rattle.heap_logic.specs.Heaps.{chunk_of}
use Rattle.outline_rules.specs.Chunks.{replaced_chunk}
use Rattle.symbolic_state.specs.Assertions.{leaves_in}
use Rattle.symbolic_state.specs.Refused.{refusal_of}
use Rattle.symbolic_state.specs.States.{Tracked}
use Rattle.symbolic_state.specs.words.Instances.{small_chunk}
use Rattle.symbolic_state.proofs.tracked.TrackedState.put_chunk_of.Goals as goal

pub returns-clause-put : goal.returns-clause-put
returns-clause-put c =
    subst (λ (t : Tracked). Gives refusal_of (chunk_of c.chunk_over.new.table) c.chunk_over.result (small_chunk (replaced_chunk (leaves_in t c.args.terms.now) c.args.chunk.now)))
    c.self.view_is c.chunk_over.ensures.put
