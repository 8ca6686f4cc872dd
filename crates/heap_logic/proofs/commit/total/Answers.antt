use Rattle.std.proofs.Common.{length}
use Rattle.heap_logic.proofs.Committed.{total-after}
use Rattle.heap_logic.proofs.commit.total.Goals as goal

pub returns : goal.returns
returns c =
    total-after c.args.table.now c.args.heap.now c.args.slots.now c.args.change.now (length c.args.table.now) c.requires.change _ _ _ c.rest_nodes-rest.ensures c.new_nodes.ensures c.saturating_add.ensures
