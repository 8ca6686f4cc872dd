use Rattle.symbolic_calls.proofs.Stages.{along, enter-is}
use Rattle.symbolic_calls.proofs.calling.enter.Goals as goal

pub returns-clause-done : goal.returns-clause-done
returns-clause-done c =
    along c.come_back.new.state c.come_back.result _ _
    (enter-is c.args.setting.now c.args.ty.now c.args.contract.now c.args.args.now c.args.with.now c.args.state.now c.entail.new.state c.in_ok-terms.ensures.state c.in_ok-terms.ensures.kept c.requires.args
    c.in_ok-terms.terms c.as_slice.result.now c.as_slice-2.result.now c.in_ok-terms.ensures.done c.as_slice.ensures c.as_slice-2.ensures)
    c.come_back.ensures.done
