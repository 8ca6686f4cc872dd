use Rattle.std.proofs.Common.{◌≡◌, IfOk, List, Result, Ok, Err, sym, ap, ◌∙◌, arith}
use Rattle.bitvector_rules.specs.declared.step.Step.{Step, out-Step, roll-Step, roll-out-Step}
use Rattle.bitvector_rules.proofs.Weights.{weights, weight_at, weights_at}
use Rattle.bitvector_rules.proofs.step.+copy.Goals as goal

-- a step that differs from another in its sub-derivations alone, and these are equal, is the other
same_step : {E : Type 0} (r : Result Step E) (s : Step) (subs : List (List Step)) → IfOk r (λ t. out-Step t ≡ record (out-Step s) { subs = subs }) → subs ≡ (out-Step s).subs → IfOk r (λ t. t ≡ s)
same_step (Ok t) s subs is same = sym (roll-out-Step t) ∙ ap roll-Step (is ∙ ap (λ (x : List (List Step)). record (out-Step s) { subs = x }) same) ∙ roll-out-Step s
same_step (Err e) s subs is same = is

pub Step::copy-returns : goal.Step::copy-returns
Step::copy-returns t c = same_step c.copy_with.result c.args.self.now c.in_ok-subs.subs c.copy_with.ensures (c.in_ok-subs.ensures ∙ c.as_slice.ensures)

pub copy_steps-copy-requires : goal.copy_steps-copy-requires
copy_steps-copy-requires t c = (omega (arith, c.decreases, weight_at c.args.steps.now c.loop-step.step-index c.step-item.result c.loop-step-test.true c.step-item.is), tt)

pub copy_subs-copy_steps-requires : goal.copy_subs-copy_steps-requires
copy_subs-copy_steps-requires t c = (omega (arith, c.decreases, weights_at c.args.subs.now c.loop-steps.steps-index c.steps-item.result c.loop-steps-test.true c.steps-item.is, ap weights c.as_slice.ensures), tt)
