use Rattle.term_logic.specs.Table.{tree_at}
use Rattle.heap_logic.proofs.Takings.{address-small}
use Rattle.heap_logic.proofs.terms.address.Goals as goal

pub returns-clause-small : goal.returns-clause-small
returns-clause-small c = address-small (tree_at c.sum.new.table) c.args.width _ (tree_at c.args.table.now c.args.index) _ c.sum.result c.in_ok-distance.ensures.made c.sum.ensures.made
