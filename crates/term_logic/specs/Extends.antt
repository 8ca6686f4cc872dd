-- What a table keeps while it grows.
use Rattle.std.specs.Prelude.{◌≡◌, ℕ, ◌<◌, ◌≤◌, List, length, map}
use Rattle.std.specs.List.{All}
use Rattle.term_trees.specs.declared.term.Term.{Term}
use Rattle.term_logic.specs.declared.formula.IdFormula.{IdFormula}
use Rattle.term_logic.specs.declared.leaves.LeafIds.{LeafIds}
use Rattle.term_logic.specs.Table.{tree_at}
use Rattle.term_logic.specs.Formulas.{formula_bound, formula_of}
use Rattle.term_logic.specs.Leaves.{LeavesWithin, leaves_of}

-- The new table has what the old one has, at the same positions. All fields but the first two follow from those.
pub record Extends (old new : List Term) : Type 0 where
  pub longer : length old ≤ length new
  pub kept : (i : ℕ) → i < length old → tree_at new i ≡ tree_at old i
  pub trees : (is : List ℕ) → All (λ i. i < length old) is → map (tree_at new) is ≡ map (tree_at old) is
  pub formula : (f : IdFormula) → formula_bound f ≤ length old → formula_of new f ≡ formula_of old f
  pub formulas : (fs : List IdFormula) → All (λ f. formula_bound f ≤ length old) fs → map (formula_of new) fs ≡ map (formula_of old) fs
  pub leaves : (l : LeafIds) → LeavesWithin (length old) l → leaves_of new l ≡ leaves_of old l
