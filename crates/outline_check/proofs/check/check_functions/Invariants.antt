use Rattle.std.proofs.Common.{◌≡◌, drop}
use Rattle.outline_check.specs.Outlines.{functions_from}
use Rattle.outline_check.specs.Cursors.{IsCursor}
use Rattle.outline_check.proofs.check.check_functions.Given as goal

abbrev pub invariant-loop-f : goal.invariant-loop-f
invariant-loop-f l = record {
  cursor : IsCursor (λ func. func.func) l.notes.funcs l.cursor l.f;
  so_far : functions_from l.globals l.notes l.code l.f (drop l.f l.funcs)
      ≡ functions_from l.fn.globals l.fn.notes l.fn.code 0 l.fn.funcs;
}
