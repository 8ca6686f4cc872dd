use Rattle.std.proofs.Common.{subst}
use Rattle.wasm_values.specs.Answers.{Gives}
use Rattle.term_trees.specs.Leaves.{Leaves}
use Rattle.term_logic.specs.Table.{tree_at}
use Rattle.heap_logic.specs.Faults.{refusal_of}
use Rattle.outline_rules.specs.Leaves.{taken}
use Rattle.symbolic_state.proofs.Taken.{slot-leaves-are}
use Rattle.symbolic_state.proofs.taking.term_taken.Goals as goal

pub returns-clause-taken : goal.returns-clause-taken
returns-clause-taken c =
    subst (λ (l : Leaves). Gives refusal_of (tree_at c.taken.new.table) c.taken.result (taken l c.args.t.now))
    (slot-leaves-are c.args.table.now c.args.variables c.args.state.now c.slots_of-slots.result c.slots_of-slots.ensures) c.taken.ensures.taken
