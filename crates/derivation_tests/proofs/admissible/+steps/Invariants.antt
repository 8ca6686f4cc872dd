use Rattle.std.proofs.Common.{◌+◌}
use Rattle.bitvector_rules.proofs.Weights.{weight, weights, weights_of}
use Rattle.derivation_tests.proofs.admissible.+steps.Given as goal

abbrev pub decreases-is_admissible : goal.decreases-is_admissible
decreases-is_admissible l = weight l.step.now

abbrev pub decreases-subs_are_admissible : goal.decreases-subs_are_admissible
decreases-subs_are_admissible l = weights_of l.subs.now

abbrev pub decreases-are_admissible : goal.decreases-are_admissible
decreases-are_admissible l = weights l.steps.now + 1
