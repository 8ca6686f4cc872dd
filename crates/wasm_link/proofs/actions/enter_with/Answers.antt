use Rattle.std.proofs.Common.{List, ◌∷◌, None, subst}
use Rattle.wasm_values.specs.declared.number.Val.{Val}
use Rattle.script_text.specs.declared.script.Action.TheVariants.{Call}
use Rattle.wasm_link.specs.words.{TurnAnswers, stage_of, watch_of}
use Rattle.wasm_link.proofs.Turning.{left_here}
use Rattle.wasm_link.proofs.actions.enter_with.Goals as goal

pub returns-in-Ok : goal.returns-in-Ok
returns-in-Ok g c = λ ms rest i x at head there.
    let P : List Val → Type 0 = λ args. TurnAnswers g.O.Observer.eyes ms (stage_of c.args.run.now None (Call i x at args ∷ rest)) (watch_of c.args.observer.now c.args.run.now None None)
    c.args.run.now.names c.enter.new.run c.enter.new.observer rest c.enter.result in
    subst P c.in-Ok.ensures.items (c.enter.ensures ms rest i x at head there)

pub returns-in-Err : goal.returns-in-Err
returns-in-Err g c = λ ms rest i x at head there.
    left_here g.O.Observer.eyes ms (stage_of c.args.run.now None (Call i x at c.args.args.now ∷ rest)) (watch_of c.args.observer.now c.args.run.now None None)
