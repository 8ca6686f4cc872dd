use Rattle.std.proofs.Common.{◌≡◌, ◌+◌, take}
use Rattle.bitvector_rules.proofs.Weights.{weight, weights, weights_of}
use Rattle.bitvector_rules.proofs.step.+copy.Given as goal

abbrev pub decreases-Step::copy : goal.decreases-Step::copy
decreases-Step::copy l = weight l.self.now

abbrev pub decreases-copy_subs : goal.decreases-copy_subs
decreases-copy_subs l = weights_of l.subs.now + 1

abbrev pub decreases-copy_steps : goal.decreases-copy_steps
decreases-copy_steps l = weights l.steps.now + 1

abbrev pub invariant-copy_steps-loop-step : goal.invariant-copy_steps-loop-step
invariant-copy_steps-loop-step l = l.copied ≡ take l.step-index l.steps

abbrev pub invariant-copy_subs-loop-steps : goal.invariant-copy_subs-loop-steps
invariant-copy_subs-loop-steps l = l.copied ≡ take l.steps-index l.subs
