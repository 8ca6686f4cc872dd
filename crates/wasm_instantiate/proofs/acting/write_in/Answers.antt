use Rattle.std.proofs.Common.{Result, sym, subst}
use Rattle.wasm_reduce.specs.declared.moved.Moved.{Moved}
use Rattle.wasm_instantiate.specs.declared.faults.HostFault.{HostFault}
use Rattle.wasm_store.specs.Seen.{seen}
use Rattle.wasm_instantiate.specs.HostAnswers.{HostActAnswers}
use Rattle.wasm_instantiate.proofs.ActLemmas.{write_lifts}
use Rattle.wasm_instantiate.proofs.acting.write_in.Goals as goal

pub returns : goal.returns
returns c =
    let i = c.config.inside in
    let P : Result Moved HostFault → Type 0 = λ r. HostActAnswers c.args.policy.now c.args.config.now c.args.act.now (seen (record { store = c.write.new.store; frames = i.frames; outcome = i.outcome })) r in
    subst P (sym c.went.ensures) (write_lifts c.args.policy.now i c.write.new.store c.args.config.now c.args.act.now c.write.result c.config.view_is c.requires.control c.requires.write c.write.ensures)
