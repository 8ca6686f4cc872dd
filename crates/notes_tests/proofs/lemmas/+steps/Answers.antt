use Rattle.std.proofs.Common.{arith, ap, subst, sym, IsTrue, ◌≡◌, List, Err, IfSome}
use Rattle.std.specs.List.{list_all}
use Rattle.bitvector_rules.specs.declared.step.Step.{Step}
use Rattle.bitvector_rules.specs.Steps.{is_admissible, all_admissible}
use Rattle.bitvector_rules.proofs.Weights.{weights, weights_of, weight_out, weight_at, weights_at}
use Rattle.notes.specs.WellFormed.{well_formed_step}
use Rattle.heap_logic.specs.Faults.{refusal_of}
use Rattle.outline_rules.specs.Tests.{lemma_variables}
use Rattle.notes_tests.specs.words.Passing.{all_tests, step_passed}
use Rattle.notes_tests.proofs.Passings.{well_formed_one, refused_any, sub_passed}
use Rattle.notes_tests.proofs.StepParts.{subs_well, step_good, step_on}
use Rattle.notes_tests.proofs.Tested.{gives_fault, ok_more}
use Rattle.notes_tests.proofs.lemmas.+steps.Goals as goal

pub step_passes-subs_pass-requires : goal.step_passes-subs_pass-requires
step_passes-subs_pass-requires t c = (
  omega (arith, c.decreases, weight_out c.args.step.now, ap weights_of c.as_slice.ensures),
  subst (λ (subs : List (List Step)). IsTrue (list_all (list_all well_formed_step) subs)) (sym c.as_slice.ensures) (subs_well c.args.step.now c.requires),
)

pub step_passes-returns-in-Ok-clause-passed : goal.step_passes-returns-in-Ok-clause-passed
step_passes-returns-in-Ok-clause-passed t c =
    gives_fault c.subs_pass.result _ _
    (step_on c.args.step.now (lemma_variables c.args.variables) _ _ c.in-Ok.ensures.passed (ap (λ (subs : List (List Step)). all_tests (sub_passed (lemma_variables c.args.variables)) subs) (sym c.as_slice.ensures)))
    c.subs_pass.ensures.passed

pub step_passes-returns-in-Ok-clause-admissible : goal.step_passes-returns-in-Ok-clause-admissible
step_passes-returns-in-Ok-clause-admissible t c =
    ok_more c.subs_pass.result _ _ c.subs_pass.ensures.admissible
    (λ h. step_good c.args.step.now c.in-Ok.ensures.admissible (subst (λ (subs : List (List Step)). IsTrue (list_all all_admissible subs)) c.as_slice.ensures h))

pub steps_pass-step_passes-requires : goal.steps_pass-step_passes-requires
steps_pass-step_passes-requires t c = (
  omega (arith, c.decreases, weight_at c.args.steps.now c.loop-step.step-index c.step-item.result c.loop-step-test.true c.step-item.is),
  well_formed_one (step_passed (lemma_variables c.args.variables)) is_admissible well_formed_step c.args.steps.now c.loop-step.step-index c.step-item.result c.loop-step-test.true c.step-item.is c.loop-step.invariant,
)

pub steps_pass-returns-in-Err-clause-passed : goal.steps_pass-returns-in-Err-clause-passed
steps_pass-returns-in-Err-clause-passed t c =
    refused_any (step_passed (lemma_variables c.args.variables)) is_admissible well_formed_step c.args.steps.now c.loop-step.step-index c.step-item.result c.loop-step-test.true c.step-item.is c.loop-step.invariant
    (refusal_of c.in-Err.fault) c.in-Err.ensures.passed

pub subs_pass-steps_pass-requires : goal.subs_pass-steps_pass-requires
subs_pass-steps_pass-requires t c = (
  omega (arith, c.decreases, weights_at c.args.subs.now c.loop-sub.sub-index c.sub-item.result c.loop-sub-test.true c.sub-item.is, ap weights c.as_slice.ensures),
  subst (λ (xs : List Step). IsTrue (list_all well_formed_step xs)) (sym c.as_slice.ensures)
      (well_formed_one (sub_passed (lemma_variables c.args.variables)) all_admissible (list_all well_formed_step) c.args.subs.now c.loop-sub.sub-index c.sub-item.result c.loop-sub-test.true c.sub-item.is c.loop-sub.invariant),
)

pub subs_pass-returns-in-Err-clause-passed : goal.subs_pass-returns-in-Err-clause-passed
subs_pass-returns-in-Err-clause-passed t c =
    refused_any (sub_passed (lemma_variables c.args.variables)) all_admissible (list_all well_formed_step) c.args.subs.now c.loop-sub.sub-index c.sub-item.result c.loop-sub-test.true c.sub-item.is c.loop-sub.invariant
    (refusal_of c.in-Err.fault)
    (subst (λ (xs : List Step). IfSome (refusal_of c.in-Err.fault) (λ e. all_tests (step_passed (lemma_variables c.args.variables)) xs ≡ Err e)) c.as_slice.ensures c.in-Err.ensures.passed)
