use Rattle.std.proofs.Common.{◌+◌}
use Rattle.std.specs.List.{list_all}
use Rattle.bitvector_rules.specs.Steps.{is_admissible}
use Rattle.bitvector_rules.proofs.Weights.{weight, weights, weights_of}
use Rattle.outline_rules.specs.Leaves.{leaves_with}
use Rattle.symbolic_state.specs.words.Walks.{all_by}
use Rattle.symbolic_moves.specs.words.Walks.{step_taken}
use Rattle.symbolic_moves.proofs.StepWalks.{Taking}
use Rattle.symbolic_moves.proofs.steps.+taking.Given as goal

abbrev pub decreases-parts_taken : goal.decreases-parts_taken
decreases-parts_taken l = weight l.step.now

abbrev pub decreases-step_taken : goal.decreases-step_taken
decreases-step_taken l = weight l.step.now + 1

abbrev pub decreases-subs_taken : goal.decreases-subs_taken
decreases-subs_taken l = weights_of l.subs.now + 1

abbrev pub decreases-each_taken : goal.decreases-each_taken
decreases-each_taken l = weights l.steps.now + 2

abbrev pub invariant-each_taken-loop-step : goal.invariant-each_taken-loop-step
invariant-each_taken-loop-step l =
    Taking (λ s. step_taken (leaves_with l.fn.variables s)) is_admissible l.fn.state l.state l.fn.steps l.step-index l.taken

abbrev pub invariant-subs_taken-loop-steps : goal.invariant-subs_taken-loop-steps
invariant-subs_taken-loop-steps l =
    Taking (λ s. all_by (step_taken (leaves_with l.fn.variables s))) (list_all is_admissible) l.fn.state l.state l.fn.subs l.steps-index l.taken
