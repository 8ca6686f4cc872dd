use Rattle.std.proofs.Common.{◌≡◌, drop}
use Rattle.outline_check.specs.Outlines.{run_from}
use Rattle.outline_check.specs.Cursors.{IsCursor}
use Rattle.outline_check.proofs.walk.run.Given as goal

abbrev pub invariant-loop-i : goal.invariant-loop-i
invariant-loop-i l = record {
  cursor : IsCursor (λ note. note.at) l.notes l.cursor l.i;
  so_far : run_from l.invariant' l.function l.notes l.places l.i (drop l.i l.code) l.state
      ≡ run_from l.fn.invariant l.fn.function l.fn.notes l.fn.places 0 l.fn.code l.fn.state;
}
