-- Chunks whose parts are within the limit of nodes.
use Rattle.std.specs.Prelude.{◌≤◌}
use Rattle.term_trees.specs.Formulas.{formula_nodes}
use Rattle.notes.specs.declared.chunk.Chunk.{Chunk}
use Rattle.notes.specs.declared.chunk.Chunk.TheVariants.{Cell, Region, Row}

-- The formula of a row has at most 4,096 nodes; other chunks have none.
abbrev pub SmallRow : Chunk → Type 0
SmallRow (Cell width at value) = Unit {0}
SmallRow (Region at len) = Unit {0}
SmallRow (Row width at count each) = formula_nodes each ≤ 4096
