-- Positions of a table before are positions after, for the same trees.
use Rattle.std.proofs.Common.{◌≡◌, ℕ, ◌<◌, List, length, map, All, arith}
use Rattle.term_logic.specs.Table.{tree_at}
use Rattle.symbolic_state.specs.States.{Tracked}
use Rattle.symbolic_state.specs.Growth.{Grown}

module _ (a b : Tracked) (more : Grown a b) (ids : List ℕ) (within : All (λ id. id < length a.terms) ids) where
  pub ids-kept : map (tree_at b.terms) ids ≡ map (tree_at a.terms) ids
  ids-kept = more.terms.trees ids within

  pub ids-within : All (λ id. id < length b.terms) ids
  ids-within = λ k d h. let at = within k d h in omega (arith, at, more.terms.longer)

pub ruleset listed = (ids-kept, ids-within)
