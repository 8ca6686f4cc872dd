use Rattle.std.proofs.Common.{◌≡◌, drop}
use Rattle.term_logic.specs.Table.{tree_at}
use Rattle.term_trees.specs.Linear.{shown}
use Rattle.equality_rules.specs.words.Sums.{agrees}
use Rattle.equality_rules.proofs.sums.agrees.Given as goal

abbrev pub invariant-loop-atom : goal.invariant-loop-atom
invariant-loop-atom l =
    let parts = shown (tree_at l.table) l.second.parts.items in
    agrees (shown (tree_at l.table) (drop l.atom-index l.first.parts.items)) parts ≡ agrees (shown (tree_at l.table) l.first.parts.items) parts
