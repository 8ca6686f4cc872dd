-- The nodes of a term, if there is one.
use Rattle.std.specs.Prelude.{ℕ, Option, option_to_list, sum_by}
use Rattle.term_trees.specs.declared.term.Term.{Term}
use Rattle.term_trees.specs.Terms.{node_count}

-- the nodes of a term, or 0 without one
abbrev pub option_nodes : Option Term → ℕ
option_nodes o = sum_by node_count (option_to_list o)
