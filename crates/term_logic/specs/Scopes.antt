-- The leaves that there are where some have a term of a table.
use Rattle.std.specs.Prelude.{◌||◌, nat_lt, is_some, slice_get}
use Rattle.term_trees.specs.Scopes.{Scope}
use Rattle.term_logic.specs.declared.scope.LeafScope.{LeafScope}
use Rattle.term_logic.specs.Leaves.{place_id}

-- The leaves that have a term, and the first variables, which stand for themselves.
abbrev pub leaf_scope : LeafScope → Scope
leaf_scope s = record {
  variable = λ k. nat_lt k s.variables || is_some (slice_get s.leaves.now.variables.now k);
  own = λ k. is_some (slice_get s.leaves.now.own.now k);
  place = λ p. is_some (place_id s.leaves.now p);
}
