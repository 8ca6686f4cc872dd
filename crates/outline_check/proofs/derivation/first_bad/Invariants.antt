use Rattle.std.proofs.Common.{◌≡◌, drop}
use Rattle.outline_check.specs.Derivations.{bad_from, first_bad}
use Rattle.outline_check.proofs.derivation.first_bad.Given as goal

abbrev pub invariant-loop-step : goal.invariant-loop-step
invariant-loop-step l =
    bad_from l.globals l.hyps l.goal l.earlier (drop l.step-index l.steps) ≡ first_bad l.globals l.hyps l.goal l.steps
