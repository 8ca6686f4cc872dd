use Rattle.std.proofs.Common.{ℕ, ◌<◌, Some, IfSome}
use Rattle.term_trees.specs.declared.term.Place.{Place}
use Rattle.term_trees.specs.declared.term.Place.TheVariants.{Local, Stack, Global, Pages, Arg, Result, Index, Item}
use Rattle.term_logic.specs.declared.leaves.LeafIds.{LeafIds}
use Rattle.term_logic.specs.Leaves.{place_id, LeavesWithin}
use Rattle.term_logic.proofs.leaves.LeafIds.with_cell.Goals as goal

cell_within : (l : LeafIds) (i v n : ℕ) → LeavesWithin n l → i < n → v < n → LeavesWithin n (record l { index = Some i; item = Some v })
cell_within l i v n w low high = record { variables = w.variables; own = w.own; places = at_place }
  where
    at_place : (p : Place) → IfSome (place_id (record l { index = Some i; item = Some v }) p) (λ id. id < n)
    at_place (Local k) = w.places (Local k)
    at_place (Stack k) = w.places (Stack k)
    at_place (Global k) = w.places (Global k)
    at_place Pages = w.places Pages
    at_place (Arg k) = w.places (Arg k)
    at_place Result = w.places Result
    at_place Index = low
    at_place Item = high

pub returns-clause-within : goal.returns-clause-within
returns-clause-within c n w i v = cell_within c.args.self c.args.index c.args.item n w i v
