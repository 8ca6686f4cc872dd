use Rattle.symbolic_calls.proofs.Stages.{along, load-other-is}
use Rattle.symbolic_calls.proofs.accesses.load_other.Goals as goal

pub returns-clause-done : goal.returns-clause-done
returns-clause-done c =
    along c.trap_or_typed.new.state c.trap_or_typed.result _ _
    (load-other-is c.args.setting.now c.args.used.now c.in_ok-with.with.now c.args.state.now c.pop.new.self c.args.op c.loaded_type.result c.in_ok-with.ensures.taken c.pop.ensures.state c.loaded_type.ensures)
    c.trap_or_typed.ensures.done
