use Rattle.std.proofs.Common.{[], arith, sym, ap}
use Rattle.term_trees.specs.Terms.{node_count}
use Rattle.term_logic.specs.Leaves.{leaves_of}
use Rattle.term_logic.specs.Table.{tree_at}
use Rattle.term_logic.proofs.Layers.{given-tree, stays, nodes-replaced}
use Rattle.term_logic.proofs.table.TermTable.+replaced_id_nodes.Goals as goal

pub returns-in-Some : goal.returns-in-Some
returns-in-Some t c =
    let whole = tree_at c.args.self.now c.args.id in
    omega (arith, c.nodes_of.ensures.count, c.nodes_of.ensures.small, ap node_count (given-tree c.args.self.now c.args.leaves.now whole c.in-Some.given (sym c.in-Some.ensures)))

pub returns-in-Leaf : goal.returns-in-Leaf
returns-in-Leaf t c =
    let whole = tree_at c.args.self.now c.args.id in
    let st = stays c.args.self.now c.args.leaves.now whole (sym c.in-None.ensures) in
    omega (arith, nodes-replaced whole [] c.in-Leaf.ensures.parts (leaves_of c.args.self.now c.args.leaves.now) st)

pub returns-in-One : goal.returns-in-One
returns-in-One t c =
    let whole = tree_at c.args.self.now c.args.id in
    let st = stays c.args.self.now c.args.leaves.now whole (sym c.in-None.ensures) in
    omega (arith, c.saturating_add.ensures, c.replaced_id_nodes.ensures, nodes-replaced whole _ c.in-One.ensures.parts (leaves_of c.args.self.now c.args.leaves.now) st)

pub returns-in-Two : goal.returns-in-Two
returns-in-Two t c =
    let whole = tree_at c.args.self.now c.args.id in
    let st = stays c.args.self.now c.args.leaves.now whole (sym c.in-None.ensures) in
    omega (arith, c.saturating_add-in-Two.ensures, c.saturating_add-in-Two-2.ensures, c.replaced_id_nodes-in-Two.ensures, c.replaced_id_nodes-in-Two-2.ensures, nodes-replaced whole _ c.in-Two.ensures.parts (leaves_of c.args.self.now c.args.leaves.now) st)
