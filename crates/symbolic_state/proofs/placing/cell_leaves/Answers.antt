use Rattle.std.proofs.Common.{sym, ap, subst}
use Rattle.term_logic.specs.Leaves.{leaves_of}
use Rattle.symbolic_state.specs.words.Instances.{KeepsNodes}
use Rattle.symbolic_state.proofs.Placements.{cell-kept}
use Rattle.symbolic_state.proofs.placing.cell_leaves.Goals as goal

pub returns-clause-nodes : goal.returns-clause-nodes
returns-clause-nodes c =
    let ts = c.args.table.now in
    subst KeepsNodes (sym (ap (leaves_of ts) c.with_cell.ensures.same))
    (cell-kept ts c.none.result c.args.index c.args.item (c.none.ensures.trees ts) c.requires.single_index c.requires.single_item)
