use Rattle.outline_rules.specs.Calls.{inner}
use Rattle.symbolic_calls.proofs.Stages.{along, on-arguments}
use Rattle.symbolic_calls.proofs.calling.call_inside.Goals as goal

pub returns-clause-done : goal.returns-clause-done
returns-clause-done c =
    along c.enter.new.state c.enter.result _ _
    (on-arguments c.args.setting.now c.args.ty.now c.args.state.now c.pop.new.self c.in_ok-count.count c.pop.ensures.state c.in_ok-count.ensures
    (λ args s. inner c.args.setting.now c.args.contract.now c.args.ty.now args c.args.with.now s) c.in_ok-args.args c.as_slice.result.now c.as_slice.ensures c.in_ok-args.ensures.terms)
    c.enter.ensures.done
