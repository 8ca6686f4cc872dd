-- The leaves that a term of a move may have, by positions.
use Rattle.std.specs.Prelude.{ℕ, Bool, true, false, nat_lt, is_some, List, None, option_map}
use Rattle.term_trees.specs.declared.term.Place.{Place}
use Rattle.term_trees.specs.declared.term.Place.TheVariants as place
use Rattle.term_trees.specs.declared.term.Term.{Term}
use Rattle.term_trees.specs.Leaves.{Leaves}
use Rattle.term_trees.specs.Scopes.{Scope}
use Rattle.term_logic.specs.declared.leaves.LeafIds.{LeafIds}
use Rattle.term_logic.specs.Table.{tree_at}
use Rattle.term_logic.specs.Leaves.{place_id}
use Rattle.outline_rules.specs.Leaves.{variable_below}
use Rattle.heap_logic.specs.declared.taking.RowScope.{RowScope}
use Rattle.heap_logic.specs.declared.taking.SlotScope.{SlotScope}

-- the first variables, which stand for themselves, and the places that have a term
abbrev pub slot_leaves : List Term → ℕ → LeafIds → Leaves
slot_leaves ts vars l = record {
  variable = variable_below vars;
  own = λ k. None;
  place = λ p. option_map (tree_at ts) (place_id l p);
}

-- the same as leaves that there are
abbrev pub slot_scope : SlotScope → Scope
slot_scope s = record {
  variable = λ k. nat_lt k s.variables;
  own = λ k. false;
  place = λ p. is_some (place_id s.slots.now p);
}

-- whether there is a place, in a row
abbrev pub place_there : (Place → Bool) → Place → Bool
place_there there place.Index = true
place_there there place.Item = true
place_there there p = there p

-- the leaves of a row's formula
abbrev pub row_scope : RowScope → Scope
row_scope s = record {
  variable = λ k. nat_lt k s.variables;
  own = λ k. false;
  place = place_there (λ p. is_some (place_id s.slots.now p));
}
