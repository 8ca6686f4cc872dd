use Rattle.std.proofs.Common.{ap, ◌∙◌}
use Rattle.wasm_syntax.specs.declared.module.Module.{Module}
use Rattle.symbolic_calls.proofs.Stages.{along, indirect-is}
use Rattle.symbolic_calls.proofs.indirect.call_indirect.Goals as goal

pub returns-clause-done : goal.returns-clause-done
returns-clause-done c =
    along c.called_by.new.state c.called_by.result _ _
    (indirect-is c.args.setting.now c.args.x c.args.used.now c.args.state.now c.pop.new.self c.as_slice.result.now c.type_at-ty.result.now _
    (c.as_slice.ensures ∙ ap (λ (m : Module). m.types) c.module.ensures.same) c.type_at-ty.ensures c.in_ok-contract.ensures.judged c.pop.ensures.state)
    c.called_by.ensures.done
