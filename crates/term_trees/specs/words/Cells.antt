-- The numbers that stand for `(index)` and `(item)` while a formula is tested.
use Rattle.std.specs.Prelude.{ℤ, Bool, Option, None, option_map}
use Rattle.term_trees.specs.declared.term.Place.{Place}
use Rattle.term_trees.specs.declared.term.Place.TheVariants as place
use Rattle.term_trees.specs.declared.term.Term.{Term}
use Rattle.term_trees.specs.declared.term.Term.TheVariants as term
use Rattle.term_trees.specs.declared.term.Formula.{Formula}
use Rattle.term_trees.specs.declared.evaluate.CellNumbers.{CellNumbers}
use Rattle.term_trees.specs.Ground.{ground_value, ground_truth}
use Rattle.term_trees.specs.Leaves.{Leaves, replaced, replaced_formula}

-- the number for a place
abbrev pub number_for : CellNumbers → Place → Option ℤ
number_for c place.Index = c.index
number_for c place.Item = c.item
number_for c _ = None

-- the numbers for `(index)` and `(item)`, as trees
abbrev pub cell_leaves : CellNumbers → Leaves
cell_leaves c = record { variable = λ k. None; own = λ k. None; place = λ p. option_map (λ n. term.Num n) (number_for c p) }

-- the ground value of a term once these are in place
unfoldable pub value_at : CellNumbers → Term → Option ℤ
value_at c t = ground_value (replaced (cell_leaves c) t)

-- the truth of a formula likewise
unfoldable pub truth_at : CellNumbers → Formula → Option Bool
truth_at c f = ground_truth (replaced_formula (cell_leaves c) f)
