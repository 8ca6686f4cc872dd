use Rattle.std.proofs.Common.{◌≡◌, length}
use Rattle.step_bound.specs.words.Tables.{IsRight, Rounds}
use Rattle.step_bound.proofs.table.round.Given as goal

abbrev pub invariant-loop-k : goal.invariant-loop-k
invariant-loop-k l = IsRight l.sought.module.now l.known × Rounds l.found l.sought.module.now l.initial.known l.known l.k × (length l.known ≡ l.count)
