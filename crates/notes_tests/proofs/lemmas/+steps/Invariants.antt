use Rattle.std.proofs.Common.{◌+◌}
use Rattle.std.specs.List.{list_all}
use Rattle.bitvector_rules.specs.Steps.{is_admissible, all_admissible}
use Rattle.bitvector_rules.proofs.Weights.{weight, weights, weights_of}
use Rattle.notes.specs.WellFormed.{well_formed_step}
use Rattle.outline_rules.specs.Tests.{lemma_variables}
use Rattle.notes_tests.specs.words.Passing.{all_tests, step_passed}
use Rattle.notes_tests.proofs.Passings.{Walk}
use Rattle.notes_tests.proofs.lemmas.+steps.Given as goal

abbrev pub decreases-step_passes : goal.decreases-step_passes
decreases-step_passes l = weight l.step.now

abbrev pub decreases-subs_pass : goal.decreases-subs_pass
decreases-subs_pass l = weights_of l.subs.now

abbrev pub decreases-steps_pass : goal.decreases-steps_pass
decreases-steps_pass l = weights l.steps.now + 1

abbrev pub invariant-subs_pass-loop-sub : goal.invariant-subs_pass-loop-sub
invariant-subs_pass-loop-sub l = Walk (λ sub. all_tests (step_passed (lemma_variables l.variables)) sub) all_admissible (list_all well_formed_step) l.subs l.sub-index

abbrev pub invariant-steps_pass-loop-step : goal.invariant-steps_pass-loop-step
invariant-steps_pass-loop-step l = Walk (step_passed (lemma_variables l.variables)) is_admissible well_formed_step l.steps l.step-index
