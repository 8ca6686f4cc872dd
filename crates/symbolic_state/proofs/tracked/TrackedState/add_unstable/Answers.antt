use Rattle.std.proofs.Common.{rules, refl}
use Rattle.symbolic_state.proofs.Entered.{unstable-grown}
use Rattle.symbolic_state.proofs.tracked.TrackedState.add_unstable.Goals as goal

pub invariant_of-self-2 : goal.invariant_of-self-2
invariant_of-self-2 c = unstable-grown c.self.inside c.self.invariant c.push.new.self c.self.inside.nodes (search rules) (search rules) refl
