use Rattle.std.proofs.Common.{◌≡◌, drop}
use Rattle.std.specs.List.{list_all}
use Rattle.outline_check.specs.Outlines.{body_fits}
use Rattle.outline_check.proofs.check.bodies_fit.Given as goal

abbrev pub invariant-loop-func : goal.invariant-loop-func
invariant-loop-func l = list_all (body_fits l.funcs) (drop l.func-index l.notes) ≡ list_all (body_fits l.fn.funcs) l.fn.notes
