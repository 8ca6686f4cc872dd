use Rattle.std.proofs.Common.{◌≡◌, subst, None}
use Rattle.wasm_instantiate.specs.declared.sight.Sight.{Sight}
use Rattle.wasm_instantiate.specs.declared.sight.Sight.TheVariants.{GoOn, Stop}
use Rattle.wasm_link.specs.Lines.{Making}
use Rattle.wasm_link.specs.words.{watch_of}
use Rattle.wasm_link.proofs.Turning.{left_same, turn_after, reach_made_stop, reach_made_seen}
use Rattle.wasm_link.proofs.actions.tell_made.Goals as goal

pub returns-in-Ok-Stop : goal.returns-in-Ok-Stop
returns-in-Ok-Stop g c = λ ms s rest next.
    let eyes = g.O.Observer.eyes in
    let n = c.in-Ok-Stop.n in
    let said : Stop n ≡ eyes.told_made c.args.observer.now c.args.instance.now c.args.number c.args.module.now =
    let P : Sight → Type 0 = λ x. x ≡ eyes.told_made c.args.observer.now c.args.instance.now c.args.number c.args.module.now in subst P c.in-Ok-Stop.field-0-is c.in-Ok-Stop.ensures.told in (
      Making c.args.instance.now c.args.number,
      reach_made_stop eyes ms s _ c.args.run.now c.args.instance.now c.args.number c.args.module.now c.args.observer.now c.made.new.self n next c.in-Ok-Stop.ensures.noted said,
    )

pub returns-in-Stop : goal.returns-in-Stop
returns-in-Stop g c = λ ms s rest next.
    let eyes = g.O.Observer.eyes in
    let said : GoOn ≡ eyes.told_made c.args.observer.now c.args.instance.now c.args.number c.args.module.now =
    let P : Sight → Type 0 = λ x. x ≡ eyes.told_made c.args.observer.now c.args.instance.now c.args.number c.args.module.now in subst P c.in-Ok-GoOn.field-0-is c.in-Ok-GoOn.ensures.told in (
      Making c.args.instance.now c.args.number,
      reach_made_seen eyes ms s _ c.args.run.now c.args.instance.now c.args.number c.args.module.now c.args.observer.now c.made.new.self c.show.new.observer (Stop c.in-Stop.n) next c.in-Ok-GoOn.ensures.noted said c.show.ensures.noted c.in-Stop.ensures.told,
    )

pub returns-in-GoOn : goal.returns-in-GoOn
returns-in-GoOn g c = λ ms s rest next.
    let eyes = g.O.Observer.eyes in
    let said : GoOn ≡ eyes.told_made c.args.observer.now c.args.instance.now c.args.number c.args.module.now =
    let P : Sight → Type 0 = λ x. x ≡ eyes.told_made c.args.observer.now c.args.instance.now c.args.number c.args.module.now in subst P c.in-Ok-GoOn.field-0-is c.in-Ok-GoOn.ensures.told in
    turn_after eyes ms s _ _ _ _ c.run_start.new.run c.run_start.new.observer rest c.run_start.result
    (reach_made_seen eyes ms s _ c.args.run.now c.args.instance.now c.args.number c.args.module.now c.args.observer.now c.made.new.self c.show.new.observer GoOn next c.in-Ok-GoOn.ensures.noted said c.show.ensures.noted c.in-GoOn.ensures.told)
    (c.run_start.ensures ms rest)

pub returns-in-Err : goal.returns-in-Err
returns-in-Err g c = λ ms s rest next.
    let w = watch_of c.args.observer.now c.args.run.now None None in
    left_same g.O.Observer.eyes ms s w c.made.new.self c.in-Err.ensures.err
