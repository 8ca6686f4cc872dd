-- Formulas of rows at a position, within the limit.
use Rattle.wasm_values.specs.declared.limit.LimitWord.TheVariants as limit
use Rattle.term_trees.specs.declared.term.Place.TheVariants as place
use Rattle.term_trees.specs.declared.term.Term.{Term}
use Rattle.term_trees.specs.declared.term.Term.TheVariants as term
use Rattle.term_trees.specs.declared.term.Formula.{Formula}
use Rattle.term_trees.specs.Formulas.{formula_nodes}
use Rattle.term_trees.specs.Leaves.{Leaves}
use Rattle.term_trees.specs.Rows.{row_leaves, at_position}
use Rattle.std.specs.Prelude.{ℕ, ◌+◌, [], ◌∷◌, ◌++◌, None, Ok}
use Rattle.outline_rules.specs.Refusals.{Ruling, within, ◌>>=◌, ◌>>◌}
use Rattle.notes.specs.declared.chunk.Chunk.TheVariants.{Cell, Row}
use Rattle.outline_rules.specs.HeapMoves.{cell_range}
use Rattle.outline_rules.specs.States.{number}
use Rattle.heap_logic.specs.words.Effects.{Effect}
use Rattle.heap_logic.specs.words.Making.{made}
use Rattle.heap_logic.specs.words.RowPlans.{address_made}

-- the leaves of a row's formula whose positions are counted from a term on
abbrev pub shift_leaves : Term → Leaves
shift_leaves by = row_leaves (term.Add (term.At place.Index) by) (term.At place.Item)

-- the limits of two formulas of a row, and of one variable more
abbrev pub two_at : Formula → (i v j u : Term) → (vars : ℕ) → Ruling (Unit {0})
two_at each i v j u k =
    within limit.Nodes 4096 (formula_nodes (at_position each i v))
    >> within limit.Nodes 4096 (formula_nodes (at_position each j u))
    >> within limit.Variables 1000000 (k + 1)

-- what a row's formula says of two positions and values, within those limits
abbrev pub formulas_at : Formula → (i v j u : Term) → (vars : ℕ) → Ruling (Formula × Formula)
formulas_at each i v j u k = two_at each i v j u k >> Ok (at_position each i v, at_position each j u)

-- the address and the count of the row behind position i, within the limit
abbrev pub rest_made : (width : ℕ) → (at count index : Term) → Ruling (Term × Term)
rest_made w a n i = address_made w a i >>= λ b. made (term.Sub n i) >>= λ r. Ok (b, r)

-- the address of the cell at a position, the position behind it, and the address and the count of the row there
abbrev pub cut_made : (width : ℕ) → (at count index : Term) → Ruling (Term × Term × Term × Term)
cut_made w a n t =
    address_made w a t >>= λ x.
    made (term.Add t (number 1)) >>= λ i.
    rest_made w a n i >>= λ p. Ok (x, i, p.0, p.1)

-- what a `pick` comes to once the row is cut: x, b and n are the address of the cell, and the address and the count of
-- the row behind it, whose formula speaks of the position i and the value v; u is the new value
abbrev pub picked_at : ℕ → (width : ℕ) → (at : Term) → Formula → (index : Term) → (cut : Term × Term × Term) → (i v u : Term) → (vars : ℕ) → Ruling Effect
picked_at c w a each t p i v u k = formulas_at each i v t u k >>= λ q. Ok (record {
  variables = 1;
  facts = cell_range w u ++ q.1 ∷ [];
  chunk = c;
  becomes = Row w a t each;
  more = Cell w p.0 u ∷ Row w p.1 p.2 q.0 ∷ [];
  gone = None;
})
