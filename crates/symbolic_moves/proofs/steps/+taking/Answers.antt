use Rattle.std.proofs.Common.{◌≡◌, ◌+◌, Ok, Err, IfSome, IsTrue, sym, ap, subst, arith}
use Rattle.std.specs.List.{list_all}
use Rattle.bitvector_rules.proofs.Weights.{weights, weights_of, weight_at, weights_at, weight_out}
use Rattle.bitvector_rules.specs.Steps.{is_admissible}
use Rattle.notes.specs.WellFormed.{well_formed_step}
use Rattle.std.proofs.lemmas.Result.{err_from_is_err_and}
use Rattle.outline_rules.specs.Leaves.{leaves_with}
use Rattle.symbolic_state.specs.Refused.{refusal_of}
use Rattle.symbolic_state.specs.words.Walks.{all_by}
use Rattle.symbolic_moves.specs.words.Walks.{step_taken}
use Rattle.symbolic_moves.proofs.StepWalks.{all-at, subs-well-formed, step-fail, parts-give, parts-fail, Taking, taking-next, taking-stop}
use Rattle.symbolic_moves.proofs.steps.+taking.Goals as goal

pub parts_taken-subs_taken-requires : goal.parts_taken-subs_taken-requires
parts_taken-subs_taken-requires t c =
    (omega (arith, c.decreases, weight_out c.args.step.now, ap weights_of c.as_slice.ensures), subst (λ ss. IsTrue (list_all (list_all well_formed_step) ss)) (sym c.as_slice.ensures) (subs-well-formed c.args.step.now c.requires))

pub each_taken-step_taken-requires : goal.each_taken-step_taken-requires
each_taken-step_taken-requires t c =
    (omega (arith, c.decreases, weight_at c.args.steps.now c.loop-step.step-index c.step-item.result c.loop-step-test.true c.step-item.is), all-at well_formed_step c.args.steps.now c.loop-step.step-index c.step-item.result c.loop-step-test.true c.step-item.is c.requires)

pub subs_taken-each_taken-requires : goal.subs_taken-each_taken-requires
subs_taken-each_taken-requires t c =
    let here = all-at (list_all well_formed_step) c.args.subs.now c.loop-steps.steps-index c.steps-item.result c.loop-steps-test.true c.steps-item.is c.requires in
    (omega (arith, c.decreases, weights_at c.args.subs.now c.loop-steps.steps-index c.steps-item.result c.loop-steps-test.true c.steps-item.is, ap weights c.as_slice.ensures), subst (λ ss. IsTrue (list_all well_formed_step ss)) (sym c.as_slice.ensures) here)

pub each_taken-returns-in_err-step_taken-clause-taken : goal.each_taken-returns-in_err-step_taken-clause-taken
each_taken-returns-in_err-step_taken-clause-taken t c =
    let p = err_from_is_err_and c.from_residual.result c.from_residual.ensures.1 in
    rw (p.1, p.2)
    (taking-stop (λ s. step_taken (leaves_with c.args.variables s)) is_admissible c.args.state.now c.loop-step.state c.args.steps.now c.loop-step.step-index c.loop-step.taken c.loop-step.invariant c.step-item.result c.loop-step-test.true c.step-item.is (refusal_of c.in_err-step_taken.field-0.0) c.in_err-step_taken.ensures.taken)

pub each_taken-loop-step-preserved : goal.each_taken-loop-step-preserved
each_taken-loop-step-preserved t c =
    subst (Taking (λ s. step_taken (leaves_with c.args.variables s)) is_admissible c.args.state.now c.step_taken.new.state c.args.steps.now (c.loop-step.step-index + 1)) (sym c.in_ok-push.ensures.ok)
    (taking-next (λ s. step_taken (leaves_with c.args.variables s)) is_admissible c.args.state.now c.loop-step.state c.args.steps.now c.loop-step.step-index c.loop-step.taken c.loop-step.invariant c.step-item.result c.loop-step-test.true c.step-item.is
    c.step_taken.new.state c.in_ok-step_taken.field-0 c.in_ok-step_taken.ensures.taken c.in_ok-step_taken.ensures.admissible c.in_ok-step_taken.ensures.state c.in_ok-step_taken.ensures.kept)

pub subs_taken-returns-in_err-each_taken-clause-taken : goal.subs_taken-returns-in_err-each_taken-clause-taken
subs_taken-returns-in_err-each_taken-clause-taken t c =
    let p = err_from_is_err_and c.from_residual.result c.from_residual.ensures.1 in
    rw (p.1, p.2)
    (taking-stop (λ s. all_by (step_taken (leaves_with c.args.variables s))) (list_all is_admissible) c.args.state.now c.loop-steps.state c.args.subs.now c.loop-steps.steps-index c.loop-steps.taken c.loop-steps.invariant c.steps-item.result c.loop-steps-test.true c.steps-item.is (refusal_of c.in_err-each_taken.field-0.0) (subst (λ xs. IfSome (refusal_of c.in_err-each_taken.field-0.0) (λ e. all_by (step_taken (leaves_with c.args.variables c.loop-steps.state.state)) xs ≡ Err e)) c.as_slice.ensures c.in_err-each_taken.ensures.taken))

pub subs_taken-loop-steps-preserved : goal.subs_taken-loop-steps-preserved
subs_taken-loop-steps-preserved t c =
    subst (Taking (λ s. all_by (step_taken (leaves_with c.args.variables s))) (list_all is_admissible) c.args.state.now c.each_taken.new.state c.args.subs.now (c.loop-steps.steps-index + 1)) (sym c.in_ok-push.ensures.ok)
    (taking-next (λ s. all_by (step_taken (leaves_with c.args.variables s))) (list_all is_admissible) c.args.state.now c.loop-steps.state c.args.subs.now c.loop-steps.steps-index c.loop-steps.taken c.loop-steps.invariant c.steps-item.result c.loop-steps-test.true c.steps-item.is
    c.each_taken.new.state c.in_ok-each_taken.field-0 (subst (λ xs. all_by (step_taken (leaves_with c.args.variables c.loop-steps.state.state)) xs ≡ Ok c.in_ok-each_taken.field-0) c.as_slice.ensures c.in_ok-each_taken.ensures.taken) c.in_ok-each_taken.ensures.admissible c.in_ok-each_taken.ensures.state c.in_ok-each_taken.ensures.kept)

pub parts_taken-returns-in_err-subs-clause-taken : goal.parts_taken-returns-in_err-subs-clause-taken
parts_taken-returns-in_err-subs-clause-taken t c =
    let p = err_from_is_err_and c.from_residual-in_err-subs.result c.from_residual-in_err-subs.ensures.1 in
    rw (p.1, p.2)
    (parts-fail c.args.variables c.args.state.now.state c.formula_taken.new.state.state c.args.step.now c.in_ok-formula.formula c.as_slice.result.now c.in_ok-formula.ensures.taken c.in_ok-formula.ensures.state c.as_slice.ensures
    (refusal_of c.in_err-subs.field-0.0) c.in_err-subs.ensures.taken)

pub parts_taken-returns-clause-taken : goal.parts_taken-returns-clause-taken
parts_taken-returns-clause-taken t c =
    parts-give c.args.variables c.args.state.now.state c.formula_taken.new.state.state c.args.step.now c.in_ok-formula.formula c.as_slice.result.now c.in_ok-formula.ensures.taken c.in_ok-formula.ensures.state c.as_slice.ensures
    c.in_ok-subs.subs c.in_ok-subs.ensures.taken

pub step_taken-returns-in_err-formula-clause-taken : goal.step_taken-returns-in_err-formula-clause-taken
step_taken-returns-in_err-formula-clause-taken t c =
    let p = err_from_is_err_and c.from_residual.result c.from_residual.ensures.1 in
    rw (p.1, p.2) (step-fail (leaves_with c.args.variables c.args.state.now.state) c.args.step.now (refusal_of c.in_err-formula.field-0.0) c.in_err-formula.ensures.taken)
