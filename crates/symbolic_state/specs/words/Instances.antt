-- Formulas that are made for a state.
use Rattle.std.specs.Prelude.{◌≡◌, Bool, ◌&&◌, nat_le, Ok}
use Rattle.wasm_values.specs.declared.limit.LimitWord.TheVariants as limit
use Rattle.term_trees.specs.declared.term.Term.{Term}
use Rattle.term_trees.specs.declared.term.Formula.{Formula}
use Rattle.term_trees.specs.Leaves.{Leaves, replaced}
use Rattle.term_trees.specs.Terms.{node_count}
use Rattle.term_trees.specs.Formulas.{formula_nodes}
use Rattle.notes.specs.declared.chunk.Chunk.{Chunk}
use Rattle.notes.specs.declared.chunk.Chunk.TheVariants.{Cell, Region, Row}
use Rattle.outline_rules.specs.Refusals.{Ruling, limited, within, ◌>>◌}

-- a formula that is made, within its limit of nodes
abbrev pub small_formula : Formula → Ruling Formula
small_formula f = within limit.Nodes 4096 (formula_nodes f) >> Ok f

-- whether each part of a chunk is within the limit of nodes
abbrev pub small_parts : Chunk → Bool
small_parts (Cell width at value) = nat_le (node_count at) 4096 && nat_le (node_count value) 4096
small_parts (Region at len) = nat_le (node_count at) 4096 && nat_le (node_count len) 4096
small_parts (Row width at count each) = nat_le (node_count at) 4096 && (nat_le (node_count count) 4096 && nat_le (formula_nodes each) 4096)

-- a chunk that is made, each part of it within the limit of nodes
abbrev pub small_chunk : Chunk → Ruling Chunk
small_chunk c = limited limit.Nodes (small_parts c) >> Ok c

-- what stands in the place of leaves adds no nodes to a term
abbrev pub KeepsNodes : Leaves → Type 0
KeepsNodes l = (t : Term) → node_count (replaced l t) ≡ node_count t
