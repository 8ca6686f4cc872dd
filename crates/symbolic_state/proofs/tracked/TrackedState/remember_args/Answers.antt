use Rattle.std.proofs.Common.{rules, ◌≡◌, ◌<◌, All, length, map, sym, subst}
use Rattle.symbolic_state.proofs.Remembered.{args-changed, terms-low}
use Rattle.symbolic_state.proofs.tracked.TrackedState.remember_args.Goals as goal

pub invariant_of-self : goal.invariant_of-self
invariant_of-self c =
    let same : c.in_ok-self-inside.field-0 ≡ map (λ e. e.1) c.self.inside.state.locals = search rules in
    args-changed c.self.inside c.self.invariant c.in_ok-self-inside.field-0
    (subst (All (λ id. id < length c.self.inside.table)) (sym same) (terms-low (length c.self.inside.table) c.self.inside.state.locals c.self.invariant.within.locals))
