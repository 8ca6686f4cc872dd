use Rattle.std.proofs.Common.{length}
use Rattle.bitvector_rules.proofs.instance.+ends_match.Given as goal

abbrev pub decreases-ends_match : goal.decreases-ends_match
decreases-ends_match l = length l.goals.now
