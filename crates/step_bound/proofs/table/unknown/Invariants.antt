use Rattle.std.proofs.Common.{◌≡◌, None, replicate}
use Rattle.step_bound.proofs.table.unknown.Given as goal

abbrev pub invariant-loop : goal.invariant-loop
invariant-loop l = l.known ≡ replicate l.counter None
