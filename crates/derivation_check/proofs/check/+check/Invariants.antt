use Rattle.std.proofs.Common.{◌+◌}
use Rattle.derivation_check.proofs.Progress.{Progress}
use Rattle.bitvector_rules.proofs.Weights.{weight, weights, weights_of}
use Rattle.derivation_check.proofs.check.+check.Given as goal

abbrev pub decreases-derives_goal : goal.decreases-derives_goal
decreases-derives_goal l = weights l.steps.now + 2

abbrev pub decreases-all_derive : goal.decreases-all_derive
decreases-all_derive l = weights_of l.subs.now

abbrev pub decreases-is_instance : goal.decreases-is_instance
decreases-is_instance l = weight l.step.now

abbrev pub decreases-good_steps : goal.decreases-good_steps
decreases-good_steps l = weights l.steps.now + 1

abbrev pub invariant-good_steps-loop-good : goal.invariant-good_steps-loop-good
invariant-good_steps-loop-good l = Progress l.initial.table l.hyps l.initial.added l.base l.steps l.good l.table l.added
