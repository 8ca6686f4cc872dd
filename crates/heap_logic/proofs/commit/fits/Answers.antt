use Rattle.std.proofs.Common.{length, subst}
use Rattle.wasm_values.specs.Answers.{Gives}
use Rattle.heap_logic.specs.Faults.{refusal_of}
use Rattle.heap_logic.proofs.Committed.{limits-after}
use Rattle.heap_logic.proofs.commit.fits.Goals as goal

pub returns-clause-limits : goal.returns-clause-limits
returns-clause-limits c =
    subst (λ r. Gives refusal_of (λ x. tt) c.within_limits.result r)
    (limits-after c.args.table.now c.args.heap.now c.args.slots.now c.args.change.now (length c.args.table.now) c.requires.change _ _ _ _ _ c.len-facts.ensures c.len-more_facts.ensures c.staying-chunks.ensures c.len-more_chunks.ensures
    c.requires.total)
    c.within_limits.ensures.limits
