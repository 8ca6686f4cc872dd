use Rattle.std.proofs.Common.{◌≡◌, map, drop}
use Rattle.term_trees.specs.Leaves.{replaced_formula}
use Rattle.term_logic.specs.Table.{tree_at}
use Rattle.outline_rules.specs.Moves.{lemma_leaves, are_facts}
use Rattle.symbolic_moves.proofs.lemmas.are_hyps.Given as goal

abbrev pub invariant-loop-k : goal.invariant-loop-k
invariant-loop-k l =
    let instance = replaced_formula (lemma_leaves (map (tree_at l.fn.state.terms) l.fn.terms)) in
    are_facts l.fn.state.state l.fn.facts (map instance l.fn.hyps) ≡ are_facts l.fn.state.state (drop l.k-index l.fn.facts) (map instance l.rest)
