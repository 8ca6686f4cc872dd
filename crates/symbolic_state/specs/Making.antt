-- Terms that are made for a state.
use Rattle.std.specs.Prelude.{Ok}
use Rattle.wasm_values.specs.declared.limit.LimitWord.TheVariants as limit
use Rattle.term_trees.specs.declared.term.Term.{Term}
use Rattle.term_trees.specs.Terms.{node_count}
use Rattle.outline_rules.specs.Refusals.{Ruling, within, ◌>>◌}

-- A term that is made, within its limit of nodes.
abbrev pub made : Term → Ruling Term
made t = within limit.Nodes 4096 (node_count t) >> Ok t
