use Rattle.std.proofs.Common.{◌≡◌, map, min, take, sum_by}
use Rattle.term_trees.specs.Formulas.{formula_nodes}
use Rattle.term_logic.specs.Formulas.{formula_of}
use Rattle.symbolic_state.proofs.parts.facts_size.Given as goal

abbrev pub invariant-loop-fact : goal.invariant-loop-fact
invariant-loop-fact l = l.nodes ≡ min (sum_by formula_nodes (map (formula_of l.table) (take l.fact-index l.facts))) 18446744073709551615
