use Rattle.symbolic_calls.specs.words.Parts.{trap_or_enter}
use Rattle.symbolic_calls.proofs.Stages.{along, on-arguments}
use Rattle.symbolic_calls.proofs.indirect.inner_or_trap.Goals as goal

pub returns-clause-done : goal.returns-clause-done
returns-clause-done c =
    along c.trap_or_enter.new.state c.trap_or_enter.result _ _
    (on-arguments c.args.setting.now c.args.ty.now c.args.state.now c.pop.new.self c.in_ok-count.count c.pop.ensures.state c.in_ok-count.ensures
    (λ args s. trap_or_enter c.args.setting.now c.args.contract.now c.args.ty.now args c.args.withs.0.now c.args.withs.1.now s) c.in_ok-args.args c.as_slice.result.now c.as_slice.ensures c.in_ok-args.ensures.terms)
    c.trap_or_enter.ensures.done
