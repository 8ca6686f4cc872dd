use Rattle.std.proofs.Common.{rules}
use Rattle.symbolic_state.proofs.Remembered.{given-changed}
use Rattle.symbolic_state.proofs.tracked.TrackedState.remember_given.Goals as goal

pub invariant_of-self : goal.invariant_of-self
invariant_of-self c = given-changed c.self.inside c.self.invariant c.args.ids (search rules)
