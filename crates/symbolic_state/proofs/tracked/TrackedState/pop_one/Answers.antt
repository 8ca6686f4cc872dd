use Rattle.std.proofs.Common.{rules}
use Rattle.symbolic_state.proofs.Replacing.{operand-popped}
use Rattle.symbolic_state.proofs.tracked.TrackedState.pop_one.Goals as goal

pub invariant_of-self : goal.invariant_of-self
invariant_of-self c =
    operand-popped c.self.inside c.self.invariant c.pop_term.new.entries c.in-Some.id _ c.in-Some.ensures.0 c.in-Some.ensures.1 (search rules)
