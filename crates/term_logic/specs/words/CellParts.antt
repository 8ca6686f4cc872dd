-- A cell and a term by the number of their parts.
use Rattle.std.specs.Prelude.{ℕ}
use Rattle.term_trees.specs.declared.term.Term.{Term}
use Rattle.term_trees.specs.declared.term.Term.TheVariants as term
use Rattle.term_logic.specs.declared.table.TermCell.{TermCell}
use Rattle.term_logic.specs.declared.table.TermCell.TheVariants as cell
use Rattle.term_logic.specs.declared.cell_parts.OverOne.{OverOne}
use Rattle.term_logic.specs.declared.cell_parts.OverOne.TheVariants as one
use Rattle.term_logic.specs.declared.cell_parts.OverTwo.{OverTwo}
use Rattle.term_logic.specs.declared.cell_parts.OverTwo.TheVariants as two
use Rattle.term_logic.specs.declared.cell_parts.CellParts.{CellParts}
use Rattle.term_logic.specs.declared.cell_parts.CellParts.TheVariants as parts

-- the term over one part
abbrev pub one_tree : OverOne → Term → Term
one_tree (one.One op) a = term.One op a
one_tree (one.Low k) a = term.Low k a
one_tree (one.Sext k n) a = term.Sext k n a
one_tree (one.Sgn n) a = term.Sgn n a

-- the cell over one position
abbrev pub one_cell : OverOne → ℕ → TermCell
one_cell (one.One op) a = cell.One op a
one_cell (one.Low k) a = cell.Low k a
one_cell (one.Sext k n) a = cell.Sext k n a
one_cell (one.Sgn n) a = cell.Sgn n a

-- the term over two parts
abbrev pub two_tree : OverTwo → Term → Term → Term
two_tree two.Add a b = term.Add a b
two_tree two.Sub a b = term.Sub a b
two_tree two.Mul a b = term.Mul a b
two_tree (two.Two op) a b = term.Two op a b

-- the cell over two positions
abbrev pub two_cell : OverTwo → ℕ → ℕ → TermCell
two_cell two.Add a b = cell.Add a b
two_cell two.Sub a b = cell.Sub a b
two_cell two.Mul a b = cell.Mul a b
two_cell (two.Two op) a b = cell.Two op a b

-- the cell that the parts make
abbrev pub made_cell : CellParts → TermCell
made_cell (parts.Num n) = cell.Num n
made_cell (parts.Var k) = cell.Var k
made_cell (parts.Own k) = cell.Own k
made_cell (parts.At p) = cell.At p
made_cell (parts.One o a) = one_cell o a
made_cell (parts.Two o a b) = two_cell o a b
