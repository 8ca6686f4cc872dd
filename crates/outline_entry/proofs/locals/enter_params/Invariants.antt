use Rattle.std.proofs.Common.{◌≡◌, drop}
use Rattle.outline_rules.specs.Entry.{params_entered}
use Rattle.outline_entry.proofs.locals.enter_params.Given as goal

abbrev pub invariant-loop-ty : goal.invariant-loop-ty
invariant-loop-ty l = params_entered l.types l.fn.state.state ≡ params_entered (drop l.ty-index l.types) l.state.state
