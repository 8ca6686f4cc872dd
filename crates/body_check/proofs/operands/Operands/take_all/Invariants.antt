use Rattle.std.proofs.Common.{◌≡◌, ◌≤◌, true, length, drop, reverse}
use Rattle.body_check.specs.words.Operands.{Are, Took}
use Rattle.body_check.proofs.operands.Operands.take_all.Given as goal

abbrev pub decreases-loop-n : goal.decreases-loop-n
decreases-loop-n l = l.n

abbrev pub invariant-loop-n : goal.invariant-loop-n
invariant-loop-n l = (l.n ≤ length l.types) × (l.self.below ≡ l.fn.self.below) × Took true (Are l.fn.self) (Are l.self) (reverse (drop l.n l.types))
