use Rattle.std.proofs.Common.{◌≡◌, take, reverse}
use Rattle.body_check.specs.words.Operands.{Are, Gave}
use Rattle.body_check.proofs.operands.Operands.give_all.Given as goal

abbrev pub invariant-loop-ty : goal.invariant-loop-ty
invariant-loop-ty l = (l.self.below ≡ l.fn.self.below) × Gave (Are l.fn.self) (Are l.self) (reverse (take l.ty-index l.types))
