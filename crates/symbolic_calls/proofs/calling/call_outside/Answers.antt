use Rattle.symbolic_calls.proofs.Stages.{along, outside-is}
use Rattle.symbolic_calls.proofs.calling.call_outside.Goals as goal

pub returns-clause-done : goal.returns-clause-done
returns-clause-done c =
    along c.leave.new.state c.leave.result _ _
    (outside-is c.args.setting.now c.args.ty.now c.args.state.now c.pop.new.self c.in_ok-count.count c.pop.ensures.state c.in_ok-count.ensures c.args.with.now)
    c.leave.ensures.done
