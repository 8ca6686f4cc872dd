use Rattle.std.proofs.Common.{arith}
use Rattle.step_bound.specs.words.Sums.{added}
use Rattle.step_bound.proofs.walk.add.Goals as goal

pub returns : goal.returns
unfolding added
returns c = grind arith
