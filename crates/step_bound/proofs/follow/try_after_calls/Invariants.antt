use Rattle.step_bound.specs.words.Tables.{IsRight}
use Rattle.step_bound.proofs.follow.try_after_calls.Given as goal

abbrev pub invariant-loop : goal.invariant-loop
invariant-loop l = IsRight l.sought.module.now l.known
