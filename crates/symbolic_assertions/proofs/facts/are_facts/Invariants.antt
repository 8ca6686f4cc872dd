use Rattle.std.proofs.Common.{◌≡◌, map, drop}
use Rattle.term_trees.specs.Leaves.{replaced_formula}
use Rattle.term_logic.specs.Leaves.{leaves_of}
use Rattle.outline_rules.specs.Moves.{are_facts}
use Rattle.symbolic_assertions.proofs.facts.are_facts.Given as goal

abbrev pub invariant-loop-k : goal.invariant-loop-k
invariant-loop-k l =
    let instance = replaced_formula (leaves_of l.fn.state.terms l.fn.leaves) in
    are_facts l.fn.state.state l.fn.facts (map instance l.fn.formulas) ≡ are_facts l.fn.state.state (drop l.k-index l.fn.facts) (map instance l.rest)
