-- Formulas that speak of a cell of a row by its position and its value.
use Rattle.std.specs.Prelude.{ℤ, Option, Some, None}
use Rattle.term_trees.specs.declared.term.Place.{Place}
use Rattle.term_trees.specs.declared.term.Place.TheVariants as place
use Rattle.term_trees.specs.declared.term.Term.{Term}
use Rattle.term_trees.specs.declared.term.Term.TheVariants as term
use Rattle.term_trees.specs.declared.term.Formula.{Formula}
use Rattle.term_trees.specs.Leaves.{Leaves, replaced_formula}

-- the trees for the position and the value of a row's cell
abbrev pub row_place : (index item : Term) → Place → Option Term
row_place index item place.Index = Some index
row_place index item place.Item = Some item
row_place index item _ = None

-- The trees for `(index)` and `(item)`, and for no other leaf.
abbrev pub row_leaves : (index item : Term) → Leaves
row_leaves index item = record { variable = λ k. None; own = λ k. None; place = row_place index item }

-- What a row's formula says of the cell at a position with a value.
abbrev pub at_position : Formula → (index item : Term) → Formula
at_position each index item = replaced_formula (row_leaves index item) each

-- The same of a position and a value that are numbers.
abbrev pub at_numbers : Formula → (index item : ℤ) → Formula
at_numbers each index item = at_position each (term.Num index) (term.Num item)
