use Rattle.std.proofs.Common.{ℕ, ◌∷◌, None, IfOk, refl, sym, subst, arith}
use Rattle.wasm_store.specs.Configuration.{Configuration}
use Rattle.script_text.specs.declared.script.Action.TheVariants.{New}
use Rattle.wasm_link.specs.Lines.{Making}
use Rattle.wasm_link.specs.Stages.{Makes, Next, begun, new_made}
use Rattle.wasm_link.specs.words.{RefusedSo, stage_of}
use Rattle.wasm_link.proofs.Readying.{made_ready, instances_made}
use Rattle.wasm_link.proofs.Beginnings.{refused_turn}
use Rattle.wasm_link.proofs.actions.make.Goals as goal

pub tell_made-requires-clause-ready : goal.tell_made-requires-clause-ready
tell_made-requires-clause-ready g c =
    made_ready c.args.run.now c.instantiate.new.config c.args.module.now c.args.externs.now.items c.in-Ok.ensures.answers.0 c.requires.ready c.instantiate.ensures.typed

pub tell_made-requires-clause-there : goal.tell_made-requires-clause-there
tell_made-requires-clause-there g c =
    let h = c.in-Ok.ensures.answers in
    omega (arith, h.1, instances_made c.args.run.now.config c.instantiate.new.config c.args.module.now c.args.externs.now.items h.0)

pub returns-in-Ok : goal.returns-in-Ok
returns-in-Ok g c = λ ms m from rest live looked named.
    let h = c.in-Ok.ensures.answers in
    let s = stage_of c.args.run.now None (New c.args.instance.now m from ∷ rest) in
    let d = c.instantiate.new.config in
    let N : ℕ → Type 0 = λ k. Next ms s (Makes c.args.instance.now k c.args.module.now d) (begun s d (Making c.args.instance.now k) rest) in
    c.tell_made.ensures ms s rest
    (subst N (sym h.1) (new_made c.args.instance.now m from rest c.args.externs.now.items c.args.module.now d refl refl live looked named h.0 h.2 refl refl))

pub returns-in-Err : goal.returns-in-Err
returns-in-Err g c = λ ms m from rest live looked named.
    let h = c.in-Err.ensures.answers in
    let R : Configuration → Type 0 = λ d. IfOk c.refuse.result (RefusedSo (record c.args.run.now { config = d }) c.refuse.new.run c.args.instance.now c.in-Err.fault) in
    refused_turn g.O.Observer.eyes ms c.args.run.now c.refuse.new.run c.args.observer.now rest c.requires.ready c.requires.rest
    c.args.instance.now m from c.args.externs.now.items c.args.module.now c.in-Err.fault c.refuse.result live looked named h.0 (subst R h.1 c.refuse.ensures)
