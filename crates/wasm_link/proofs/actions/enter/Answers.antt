use Rattle.std.proofs.Common.{◌∷◌, None, Err, codes, refl, subst}
use Rattle.std.specs.Prelude.{OnOk}
use Rattle.wasm_store.specs.Configuration.{Configuration}
use Rattle.wasm_instantiate.specs.declared.sight.Sight.TheVariants.{GoOn, Stop}
use Rattle.wasm_instantiate.specs.declared.faults.InvFault.{InvFault}
use Rattle.wasm_instantiate.specs.Answers.{InvokeAnswers}
use Rattle.script_text.specs.declared.script.Action.TheVariants.{Call}
use Rattle.wasm_link.specs.Lines.{Calling, line}
use Rattle.wasm_link.specs.Stages.{call_entered}
use Rattle.wasm_link.specs.words.{Said, stage_of, watch_of}
use Rattle.wasm_link.proofs.Readying.{invoked_ready}
use Rattle.wasm_link.proofs.Turning.{left_here, turn_after, reach_seen}
use Rattle.wasm_link.proofs.Beginnings.{no_function_turn, arguments_turn}
use Rattle.wasm_link.proofs.actions.enter.Goals as goal

pub run_call-requires : goal.run_call-requires
run_call-requires g c = invoked_ready c.args.run.now c.invoke.new.config c.args.target c.args.args.now.items c.in-Ok.ensures.answers c.requires.ready c.invoke.ensures.typed

pub returns-in-Stop : goal.returns-in-Stop
returns-in-Stop g c = λ ms rest i x at head there.
    let r = c.args.run.now in (
      Calling i x,
      reach_seen g.O.Observer.eyes ms (stage_of r None (Call i x at c.args.args.now.items ∷ rest)) _ (record r { config = c.invoke.new.config }) c.args.observer.now c.show.new.observer (Stop c.in-Stop.n)
          (call_entered i x at c.args.args.now.items rest c.args.target c.invoke.new.config refl refl there c.in-Ok.ensures.answers refl refl) c.show.ensures.noted c.in-Stop.ensures.told,
    )

pub returns-in-GoOn : goal.returns-in-GoOn
returns-in-GoOn g c = λ ms rest i x at head there.
    let r = c.args.run.now in
    turn_after g.O.Observer.eyes ms (stage_of r None (Call i x at c.args.args.now.items ∷ rest)) _ _ _ _ c.run_call.new.run c.run_call.new.observer rest c.run_call.result
    (reach_seen g.O.Observer.eyes ms (stage_of r None (Call i x at c.args.args.now.items ∷ rest)) _ (record r { config = c.invoke.new.config }) c.args.observer.now c.show.new.observer GoOn
    (call_entered i x at c.args.args.now.items rest c.args.target c.invoke.new.config refl refl there c.in-Ok.ensures.answers refl refl) c.show.ensures.noted c.in-GoOn.ensures.told)
    (c.run_call.ensures ms rest i x head)

pub returns-in-Err-NotFunction : goal.returns-in-Err-NotFunction
returns-in-Err-NotFunction g c = λ ms rest i x at head there.
    let P : InvFault → Type 0 = λ f. InvokeAnswers {A = Unit {0}} c.args.run.now.config c.args.target c.args.args.now.items c.invoke.new.config (Err f) in
    let h = subst P c.in-Err-NotFunction.field-0-is c.in-Err-NotFunction.ensures.answers in
    let R : Configuration → Type 0 = λ d. OnOk c.next.result (Said (record c.args.run.now { config = d }) c.next.new.run (line c.args.head.now (codes "function"))) in
    no_function_turn g.O.Observer.eyes ms c.args.run.now c.next.new.run c.args.observer.now rest c.requires.ready c.requires.rest
    i x at c.args.args.now.items c.args.target c.args.head.now c.next.result head there h.0 (subst R h.1 c.next.ensures.said) c.next.ensures.next

pub returns-in-Err-Arguments : goal.returns-in-Err-Arguments
returns-in-Err-Arguments g c = λ ms rest i x at head there.
    let P : InvFault → Type 0 = λ f. InvokeAnswers {A = Unit {0}} c.args.run.now.config c.args.target c.args.args.now.items c.invoke.new.config (Err f) in
    let h = subst P c.in-Err-Arguments.field-0-is c.in-Err-Arguments.ensures.answers in
    let next = c.next-in-Err-Arguments in
    let R : Configuration → Type 0 = λ d. OnOk next.result (Said (record c.args.run.now { config = d }) next.new.run (line c.args.head.now (codes "arguments"))) in
    arguments_turn g.O.Observer.eyes ms c.args.run.now next.new.run c.args.observer.now rest c.requires.ready c.requires.rest
    i x at c.args.args.now.items c.args.target c.args.head.now next.result head there h.0 (subst R h.1 next.ensures.said) next.ensures.next

pub returns-in-Err-OutOfMemory : goal.returns-in-Err-OutOfMemory
returns-in-Err-OutOfMemory g c = λ ms rest i x at head there.
    left_here g.O.Observer.eyes ms (stage_of c.args.run.now None (Call i x at c.args.args.now.items ∷ rest)) (watch_of c.args.observer.now c.args.run.now None None)
