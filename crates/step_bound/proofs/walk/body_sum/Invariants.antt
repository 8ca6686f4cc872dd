use Rattle.step_bound.specs.words.Sums.{called, sums_of}
use Rattle.step_bound.proofs.Sums.{IsAt}
use Rattle.step_bound.proofs.walk.body_sum.Given as goal

abbrev pub invariant-loop-n : goal.invariant-loop-n
invariant-loop-n l = IsAt (called l.calls.imported l.calls.bounds.now) l.body (sums_of l.walk) l.n
