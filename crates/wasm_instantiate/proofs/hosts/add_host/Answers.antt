use Rattle.std.proofs.Common.{ap, ◌∙◌, ◌∷◌, ◌++◌, []}
use Rattle.wasm_syntax.specs.declared.module.FuncType.{FuncType}
use Rattle.wasm_store.specs.declared.store.FuncInst.TheVariants.{Host}
use Rattle.wasm_instantiate.proofs.EnteringLemmas.{added}
use Rattle.wasm_instantiate.proofs.hosts.add_host.Goals as goal

pub returns-clause-typed : goal.returns-clause-typed
returns-clause-typed c =
    let i = c.config.inside in
    let more = c.in_ok-push.ensures.ok ∙ ap (λ (t : FuncType). i.store.funcs ++ Host t ∷ []) c.in_ok-ty.ensures in
    c.hosts_keep_types.ensures.added c.args.ty.now c.args.config.now _ c.requires.typed (added i c.args.config.now c.args.ty.now c.push.new.self c.config.view_is c.requires.typed c.requires.at_rest c.requires.one_result more)
