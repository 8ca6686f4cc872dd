use Rattle.std.proofs.Common.{◌≡◌, take, map}
use Rattle.step_bound.specs.words.Tables.{told_of}
use Rattle.step_bound.proofs.bound.told_all.Given as goal

abbrev pub invariant-loop-bound : goal.invariant-loop-bound
invariant-loop-bound l = l.bounds ≡ map told_of (take l.bound-index l.known)
