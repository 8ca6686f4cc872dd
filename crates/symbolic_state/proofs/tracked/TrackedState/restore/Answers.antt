use Rattle.std.proofs.Common.{sym, ap, subst}
use Rattle.symbolic_state.specs.States.{Tracked}
use Rattle.symbolic_state.specs.Snapshots.{Remembers, Follows, Restorable}
use Rattle.symbolic_state.proofs.Restored.{is-again, restored}
use Rattle.symbolic_state.proofs.tracked.TrackedState.restore.Goals as goal

pub invariant_of-self : goal.invariant_of-self
invariant_of-self c =
    restored c.self.inside c.self.invariant c.args.snapshot c.truncate.new.self c.truncate.ensures
    (subst (λ (t : Tracked). Restorable t c.args.snapshot) (sym c.self.view_is) c.requires)

pub returns : goal.returns
returns c s r f = λ j. record {
  terms = ap (λ (t : Tracked). t.terms) c.self.view_is j;
  state = is-again c.self.inside c.self.invariant c.args.snapshot c.truncate.new.self c.truncate.ensures s
      (subst (λ (t : Tracked). Remembers t.terms c.args.snapshot s) (sym c.self.view_is) r) (subst (λ (t : Tracked). Follows s t.state) (sym c.self.view_is) f) j;
}
