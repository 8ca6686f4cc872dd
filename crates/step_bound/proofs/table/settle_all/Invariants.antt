use Rattle.step_bound.specs.words.Tables.{IsRight, missing}
use Rattle.step_bound.proofs.table.settle_all.Given as goal

abbrev pub invariant-rounds : goal.invariant-rounds
invariant-rounds l = IsRight l.sought.module.now l.known

abbrev pub decreases-rounds : goal.decreases-rounds
decreases-rounds l = missing l.known
