-- What a tracked state keeps while it goes on.
use Rattle.std.specs.Prelude.{◌≡◌, ◌≤◌, length, take}
use Rattle.term_logic.specs.Extends.{Extends}
use Rattle.symbolic_state.specs.States.{Tracked}

-- The new state has the terms and facts of the old one in their places, and as many variables. Of the terms of the
-- parameters and of the precondition's own variables it has the same.
pub record Grown (old new : Tracked) : Type 0 where
  pub terms : Extends old.terms new.terms
  pub facts : take (length old.state.facts) new.state.facts ≡ old.state.facts
  pub vars : old.state.vars ≤ new.state.vars
  pub args : new.state.args ≡ old.state.args
  pub given : new.state.given ≡ old.state.given
