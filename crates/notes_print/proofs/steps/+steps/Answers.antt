use Rattle.std.proofs.Common.{arith, map, ◌++◌}
use Rattle.std.proofs.lemmas.Result.{on_ok_weaker}
use Rattle.bitvector_rules.proofs.Weights.{weight_at, weights_at}
use Rattle.bitvector_rules.specs.declared.step.Step.{out-Step}
use Rattle.notes_print.specs.Steps.{plain_sub, step_front}
use Rattle.notes_print.proofs.ListLemmas.{closed}
use Rattle.notes_print.proofs.StepLemmas.{plain_out}
use Rattle.notes_print.proofs.steps.+steps.Goals as goal

pub more_steps-more_step-requires : goal.more_steps-more_step-requires
more_steps-more_step-requires t c = (omega (arith, c.decreases, weight_at c.args.steps.now c.loop-step.step-index c.step-item.result c.loop-step-test.true c.step-item.is), tt)

pub more_subs-more_sub-requires : goal.more_subs-more_sub-requires
more_subs-more_sub-requires t c = (omega (arith, c.decreases, weights_at c.args.subs.now c.loop-sub.sub-index c.sub-item.result c.loop-sub-test.true c.sub-item.is), tt)

pub print_step-returns : goal.print_step-returns
print_step-returns t c =
    rw (plain_out c.args.step.now, ← c.rule_name.ensures)
    (on_ok_weaker c.close.result (closed c.args.out.now c.open.new.out c.more_parts.new.out c.close.new.out c.rule_name.result.now (step_front (out-Step c.args.step.now) ++ map plain_sub (out-Step c.args.step.now).subs) c.in_ok-open.ensures c.in_ok-more_parts.ensures) c.close.ensures)
