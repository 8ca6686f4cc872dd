use Rattle.std.proofs.Common.{ap, arith}
use Rattle.term_trees.specs.Terms.{node_count}
use Rattle.term_trees.specs.declared.term.Place.TheVariants as place
use Rattle.heap_logic.proofs.Takings.{nodes-place}
use Rattle.heap_logic.proofs.placing.index_with.Goals as goal

pub small_sum-requires-clause-small : goal.small_sum-requires-clause-small
small_sum-requires-clause-small c =
    omega (arith, ap node_count c.in_ok-here.ensures.tree, nodes-place place.Index, ap node_count (c.in_ok-here.ensures.kept.kept c.args.by c.requires.by), c.requires.small)
