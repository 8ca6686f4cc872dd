use Rattle.std.proofs.Common.{◌≡◌, map, min, take, sum_by}
use Rattle.term_trees.specs.Terms.{node_count}
use Rattle.term_logic.specs.Table.{tree_at}
use Rattle.symbolic_state.proofs.parts.entries_size.Given as goal

abbrev pub invariant-loop-entry : goal.invariant-loop-entry
invariant-loop-entry l = l.nodes ≡ min (sum_by node_count (map (λ e. tree_at l.table e.1) (take l.entry-index l.entries))) 18446744073709551615
