-- Positions of a table in place of leaves, and the trees that they stand for.
use Rattle.std.specs.Prelude.{ℕ, ◌<◌, List, reverse, slice_get, Option, option_and_then, IfSome}
use Rattle.std.specs.Option.{option_map}
use Rattle.term_trees.specs.declared.term.Place.{Place}
use Rattle.term_trees.specs.declared.term.Place.TheVariants.{Local, Stack, Global, Pages, Arg, Result, Index, Item}
use Rattle.term_trees.specs.declared.term.Term.{Term}
use Rattle.term_trees.specs.Leaves.{Leaves}
use Rattle.term_logic.specs.declared.leaves.LeafIds.{LeafIds}
use Rattle.term_logic.specs.Table.{tree_at}

-- The position that is given for a place, where one is. Of the operands 0 is the top, which is the last of the list.
abbrev pub place_id : LeafIds → Place → Option ℕ
place_id l (Local k) = option_map (λ e. e.1) (slice_get l.locals.now k)
place_id l (Stack k) = option_map (λ e. e.1) (slice_get (reverse l.stack.now) k)
place_id l (Global k) = option_and_then (λ e. e) (slice_get l.globals.now k)
place_id l Pages = l.pages
place_id l (Arg k) = slice_get l.args.now k
place_id l Result = l.result
place_id l Index = l.index
place_id l Item = l.item

-- The trees of the positions.
abbrev pub leaves_of : List Term → LeafIds → Leaves
leaves_of ts l = record {
  variable = λ k. option_map (tree_at ts) (slice_get l.variables.now k);
  own = λ k. option_map (tree_at ts) (slice_get l.own.now k);
  place = λ p. option_map (tree_at ts) (place_id l p);
}

-- all positions are below n
pub record LeavesWithin (n : ℕ) (l : LeafIds) : Type 0 where
  pub variables : (k : ℕ) → IfSome (slice_get l.variables.now k) (λ id. id < n)
  pub own : (k : ℕ) → IfSome (slice_get l.own.now k) (λ id. id < n)
  pub places : (p : Place) → IfSome (place_id l p) (λ id. id < n)
