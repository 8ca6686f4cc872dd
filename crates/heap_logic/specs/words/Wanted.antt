-- The sides of the facts that moves name.
use Rattle.std.specs.Prelude.{ℕ, List, slice_get, Option, option_and_then}
use Rattle.term_trees.specs.declared.term.Term.{Term}
use Rattle.term_trees.specs.declared.term.Formula.{Formula}
use Rattle.term_trees.specs.Views.{eq_of, le_of, lt_of}

-- the sides of the fact with a number, where it is an equation
abbrev pub equation_in : List Formula → ℕ → Option (Term × Term)
equation_in fs k = option_and_then eq_of (slice_get fs k)

-- the sides of the fact with a number, where it is `a <= b`
abbrev pub bound_in : List Formula → ℕ → Option (Term × Term)
bound_in fs k = option_and_then le_of (slice_get fs k)

-- the sides of the fact with a number, where it is `a < b`
abbrev pub order_in : List Formula → ℕ → Option (Term × Term)
order_in fs k = option_and_then lt_of (slice_get fs k)
