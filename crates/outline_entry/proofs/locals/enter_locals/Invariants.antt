use Rattle.std.proofs.Common.{◌≡◌, drop}
use Rattle.outline_rules.specs.Entry.{locals_entered}
use Rattle.outline_entry.proofs.locals.enter_locals.Given as goal

abbrev pub invariant-loop-ty : goal.invariant-loop-ty
invariant-loop-ty l = locals_entered l.types l.fn.state.state ≡ locals_entered (drop l.ty-index l.types) l.state.state
