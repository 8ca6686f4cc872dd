use Rattle.symbolic_calls.proofs.Stages.{along, come-back-is}
use Rattle.symbolic_calls.proofs.calling.come_back.Goals as goal

pub returns-clause-done : goal.returns-clause-done
returns-clause-done c =
    along c.renew.new.state c.renew.result _ _
    (come-back-is c.args.setting.now c.args.ty.now c.args.contract.now c.args.args.now c.args.terms.now c.args.chunks.now c.args.state.now c.keep_chunks.new.self
    c.private_globals.result.now c.result_type_of.result c.in_ok-keep_chunks.ensures.state c.private_globals.ensures c.result_type_of.ensures)
    c.renew.ensures.done
