-- The leaves of a row's formula, for a position and a value.
use Rattle.std.proofs.Common.{◌≡◌, ℕ, List, Some, ap}
use Rattle.std.specs.Prelude.{option_map}
use Rattle.term_trees.specs.declared.term.Place.{Place}
use Rattle.term_trees.specs.declared.term.Place.TheVariants.{Local, Stack, Global, Pages, Arg, Result, Index, Item}
use Rattle.term_trees.specs.declared.term.Term.{Term}
use Rattle.term_trees.specs.Leaves.{no_leaves}
use Rattle.term_trees.specs.Rows.{row_leaves, row_place}
use Rattle.term_logic.specs.declared.leaves.LeafIds.{LeafIds}
use Rattle.term_logic.specs.Table.{tree_at}
use Rattle.term_logic.specs.Leaves.{place_id, leaves_of}
use Rattle.std.proofs.Common.{refl}

pub leaves-cell : (ts : List Term) (l : LeafIds) (i v : ℕ) → leaves_of ts l ≡ no_leaves
    → leaves_of ts (record l { index = Some i; item = Some v }) ≡ row_leaves (tree_at ts i) (tree_at ts v)
leaves-cell ts l i v none = λ j. record {
  variable = λ k. (none j).variable k;
  own = λ k. (none j).own k;
  place = λ p. place-is p j;
}
  where
    place-is : (p : Place) → option_map (tree_at ts) (place_id (record l { index = Some i; item = Some v }) p) ≡ row_place (tree_at ts i) (tree_at ts v) p
    place-is (Local k) = ap (λ m. m.place (Local k)) none
    place-is (Stack k) = ap (λ m. m.place (Stack k)) none
    place-is (Global k) = ap (λ m. m.place (Global k)) none
    place-is Pages = ap (λ m. m.place Pages) none
    place-is (Arg k) = ap (λ m. m.place (Arg k)) none
    place-is Result = ap (λ m. m.place Result) none
    place-is Index = refl
    place-is Item = refl

pub ruleset cell_leaves = (leaves-cell)
