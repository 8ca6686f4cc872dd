use Rattle.std.proofs.Common.{Ok, sym, ap, ◌∙◌, arith}
use Rattle.std.proofs.lemmas.Bool.{lt-leb, le-leb}
use Rattle.term_logic.specs.Table.{tree_here}
use Rattle.term_logic.proofs.Trees.{node_count_tree_here}
use Rattle.heap_logic.proofs.Takings.{made-large, made-small}
use Rattle.heap_logic.proofs.terms.interned.Goals as goal

pub returns-then-nodes-gt-NODES-clause-made : goal.returns-then-nodes-gt-NODES-clause-made
returns-then-nodes-gt-NODES-clause-made c =
    let ts = c.args.table.now in
    made-large (tree_here ts c.args.cell) (lt-leb _ 4096 (omega (arith, node_count_tree_here ts c.args.cell, c.requires.nodes, c.if-nodes-gt-NODES.true)))

pub returns-clause-made : goal.returns-clause-made
returns-clause-made c =
    let ts = c.args.table.now in
    made-small (tree_here ts c.args.cell) (le-leb _ 4096 (omega (arith, node_count_tree_here ts c.args.cell, c.requires.nodes, c.if-nodes-gt-NODES.false)))
    ∙ ap (λ t. Ok t) (sym c.in_ok-intern.ensures.tree)
