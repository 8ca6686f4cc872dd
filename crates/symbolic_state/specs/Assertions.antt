-- The leaves of an assertion over a tracked state.
use Rattle.std.specs.Prelude.{ℕ, ◌<◌, map, option_map, IfSome}
use Rattle.std.specs.List.{All}
use Rattle.term_trees.specs.Leaves.{Leaves}
use Rattle.term_logic.specs.Table.{tree_at}
use Rattle.outline_rules.specs.Entailment.{assertion_leaves}
use Rattle.symbolic_state.specs.declared.assertions.AssertionTerms.{AssertionTerms}
use Rattle.symbolic_state.specs.States.{Tracked}

-- The leaves of an assertion in a state, with these terms for those that no state has.
abbrev pub leaves_in : Tracked → AssertionTerms → Leaves
leaves_in t a =
    assertion_leaves t.state (map (tree_at t.terms) a.own.now) (map (tree_at t.terms) a.args.now) (option_map (tree_at t.terms) a.result)

-- All positions are below n.
pub record TermsWithin (n : ℕ) (a : AssertionTerms) : Type 0 where
  pub own : All (λ id. id < n) a.own.now
  pub args : All (λ id. id < n) a.args.now
  pub result : IfSome a.result (λ id. id < n)
