use Rattle.std.proofs.Common.{ap, ◌∙◌}
use Rattle.outline_rules.specs.States.{State, popped}
use Rattle.symbolic_state.specs.States.{Tracked}
use Rattle.symbolic_state.proofs.Replacing.{popped-more}
use Rattle.symbolic_state.proofs.tracked.TrackedState.pop.Goals as goal

pub popping-preserved : goal.popping-preserved
popping-preserved c =
    c.pop_one.ensures.state
    ∙ ap (λ (t : Tracked). record t { state = popped 1 t.state }) c.popping.invariant
    ∙ ap (λ (s : State). record c.args.self.now { state = s }) (popped-more c.popping.counter c.args.self.now.state)
