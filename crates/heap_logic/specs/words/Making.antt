-- Terms that a move makes, within the limit.
use Rattle.std.specs.Prelude.{Ok}
use Rattle.wasm_values.specs.declared.limit.LimitWord.TheVariants as limit
use Rattle.term_trees.specs.declared.term.Term.{Term}
use Rattle.term_trees.specs.Terms.{node_count}
use Rattle.outline_rules.specs.Refusals.{Ruling, within, ◌>>◌}

-- the term that is made, within the limit
abbrev pub made : Term → Ruling Term
made t = within limit.Nodes 4096 (node_count t) >> Ok t
