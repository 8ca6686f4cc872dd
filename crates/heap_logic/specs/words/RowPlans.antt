-- Moves on rows as plans: what each wants, in its order, and what it then changes. The terms of a move are taken before.
use Rattle.std.specs.Prelude.{ℕ, ◌+◌, ◌==◌, not, ◌&&◌, [], ◌∷◌, Some, None, Ok}
use Rattle.wasm_values.specs.declared.limit.LimitWord.TheVariants as limit
use Rattle.term_trees.specs.declared.term.Term.{Term}
use Rattle.term_trees.specs.declared.term.Term.TheVariants as term
use Rattle.term_trees.specs.declared.term.Formula.{Formula}
use Rattle.term_trees.specs.declared.term.Formula.TheVariants as formula
use Rattle.term_trees.specs.Formulas.{formula_nodes}
use Rattle.term_trees.specs.Same.{same, same_formula}
use Rattle.term_trees.specs.Rows.{at_position}
use Rattle.notes.specs.declared.reason.Reason.TheVariants as reason
use Rattle.notes.specs.declared.chunk.Chunk.TheVariants.{Cell, Row}
use Rattle.outline_rules.specs.Refusals.{Ruling, wanted, within, ◌>>=◌, ◌>>◌}
use Rattle.outline_rules.specs.Chunks.{shifted}
use Rattle.outline_rules.specs.States.{State, number, fresh}
use Rattle.outline_rules.specs.HeapMoves.{fact_wanted, region_at, cell_at, row_at, item_facts}
use Rattle.heap_logic.specs.words.Effects.{Effect}
use Rattle.heap_logic.specs.words.Making.{made}
use Rattle.heap_logic.specs.words.Plans.{turned}

-- what `pick` wants at position t, and the row
abbrev pub pick_wanted : ℕ → Term → (f g : ℕ) → State → Ruling (ℕ × Term × Term × Formula)
pick_wanted c t f g s =
    row_at s c >>= λ r. fact_wanted s f (formula.Le (number 0) t) >> fact_wanted s g (formula.Lt t r.2) >> Ok r

-- the address that lies so many cells behind another, within the limit
abbrev pub address_made : (width : ℕ) → (at index : Term) → Ruling Term
address_made w a t = made (term.Mul (number w) t) >>= λ k. made (term.Add a k)

-- the limits of the formulas of a `pick`, where the position behind it is i
abbrev pub pick_limits : Formula → (index behind value : Term) → (vars : ℕ) → Ruling (Unit {0})
pick_limits each t i v k =
    within limit.Nodes 4096 (formula_nodes (shifted each i))
    >> within limit.Nodes 4096 (formula_nodes (at_position each t v))
    >> within limit.Variables 1000000 (k + 1)

-- what `pick` comes to
abbrev pub picks : ℕ → (width : ℕ) → (at : Term) → Formula → (index next behind address rest value : Term) → Effect
picks c w a each t x i b n v = record {
  variables = 1;
  facts = item_facts w each t v;
  chunk = c;
  becomes = Row w a t each;
  more = Cell w x v ∷ Row w b n (shifted each i) ∷ [];
  gone = None;
}

abbrev pub pick_plan : ℕ → Term → (f g : ℕ) → State → Ruling Effect
pick_plan c t f g s =
    pick_wanted c t f g s >>= λ r.
    address_made r.0 r.1 t >>= λ x.
    made (term.Add t (number 1)) >>= λ i.
    address_made r.0 r.1 i >>= λ b.
    made (term.Sub r.2 i) >>= λ n.
    pick_limits r.3 t i (fresh s) s.vars >> Ok (picks c r.0 r.1 r.3 t x i b n (fresh s))

-- what `join` wants, and the width, the address, the counts and the formula
abbrev pub join_wanted : (c d : ℕ) → (f : ℕ) → State → Ruling (ℕ × Term × Term × Term × Formula)
join_wanted c d f s =
    row_at s c >>= λ x.
    row_at s d >>= λ y.
    wanted reason.Chunk (not (c == d) && (y.0 == x.0 && same_formula y.3 (shifted x.3 x.2)))
    >> fact_wanted s f (formula.Eq y.1 (term.Add x.1 (term.Mul (number x.0) x.2)))
    >> Ok (x.0, x.1, x.2, y.2, x.3)

abbrev pub join_plan : (c d : ℕ) → (f : ℕ) → State → Ruling Effect
join_plan c d f s =
    join_wanted c d f s >>= λ p.
    made (term.Add p.2 p.3) >>= λ n.
    Ok (record (turned c (Row p.0 p.1 n p.4)) { gone = Some d })

abbrev pub enrow_plan : ℕ → Formula → (f : ℕ) → State → Ruling Effect
enrow_plan c g f s =
    cell_at s c >>= λ x. fact_wanted s f (at_position g (number 0) x.2) >> Ok (turned c (Row x.0 x.1 (number 1) g))

abbrev pub rows_plan : ℕ → (width : ℕ) → Formula → State → Ruling Effect
rows_plan c w g s =
    region_at s c >>= λ r. wanted reason.Chunk (same r.1 (number 0)) >> Ok (turned c (Row w r.0 (number 0) g))
