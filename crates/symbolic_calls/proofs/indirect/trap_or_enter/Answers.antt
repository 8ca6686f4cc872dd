use Rattle.symbolic_calls.proofs.Stages.{along, trap-or-enter-is}
use Rattle.symbolic_calls.proofs.indirect.trap_or_enter.Goals as goal

pub returns-clause-done : goal.returns-clause-done
returns-clause-done c =
    along c.enter.new.state c.enter.result _ _
    (trap-or-enter-is c.args.setting.now c.args.ty.now c.args.contract.now c.args.args.now c.args.withs.1.now c.args.state.now c.trap.new.state c.in_ok-trap.ensures.state c.in_ok-trap.ensures.kept c.requires.args
    c.args.withs.0.now c.in_ok-trap.ensures.done)
    c.enter.ensures.done
