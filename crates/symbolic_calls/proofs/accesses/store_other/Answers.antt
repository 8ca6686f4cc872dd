use Rattle.outline_rules.specs.Calls.{trapping}
use Rattle.symbolic_calls.proofs.Stages.{along, store-other-is, tested}
use Rattle.symbolic_calls.proofs.accesses.store_other.Goals as goal

pub returns-clause-done : goal.returns-clause-done
returns-clause-done c =
    along c.trap.new.state c.trap.result _ _
    (store-other-is c.args.setting.now c.args.used.now c.in_ok-with.with.now c.args.state.now c.pop.new.self c.in_ok-with.ensures.taken c.pop.ensures.state)
    (tested (trapping c.args.setting.now c.in_ok-with.with.now c.pop.new.self.state) c.trap.new.state.state c.pop.new.self.state c.trap.result c.trap.ensures.done c.trap.ensures.state)
