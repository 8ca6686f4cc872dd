use Rattle.std.proofs.Common.{sym, subst}
use Rattle.wasm_instantiate.specs.declared.acts.HostAct.{HostAct}
use Rattle.wasm_instantiate.specs.HostAnswers.{HostActAnswers}
use Rattle.wasm_instantiate.proofs.acting.act_on_frames.Goals as goal

pub returns-in-Return : goal.returns-in-Return
returns-in-Return c =
    let P : HostAct → Type 0 = λ act. HostActAnswers c.args.policy.now c.args.config.now act c.give_back.new.config c.give_back.result in
    subst P (sym c.in-Return.is) (c.give_back.ensures c.args.policy.now)
