use Rattle.std.proofs.Common.{◌≡◌}
use Rattle.outline_rules.specs.States.{popped}
use Rattle.symbolic_state.proofs.tracked.TrackedState.pop.Given as goal

abbrev pub invariant-popping : goal.invariant-popping
invariant-popping l = l.self ≡ record l.fn.self { state = popped l.counter l.fn.self.state }
