use Rattle.std.proofs.Common.{◌≡◌, [], ◌∷◌, true, None, refl, sym, subst, ◌∙◌}
use Rattle.script_text.specs.declared.script.Action.TheVariants.{New}
use Rattle.wasm_link.specs.declared.run.Found.{Found}
use Rattle.wasm_link.specs.Stages.{are_live, externs_from, new_lacks}
use Rattle.wasm_link.specs.words.{IsFound, live_of, stage_of, watch_of}
use Rattle.wasm_link.proofs.Turning.{left_here, reach_lacks}
use Rattle.wasm_link.proofs.Beginnings.{absent_turn}
use Rattle.wasm_link.proofs.actions.begin_new.Goals as goal

pub returns-then-not-are_live : goal.returns-then-not-are_live
returns-then-not-are_live g c = λ ms m rest named.
    absent_turn g.O.Observer.eyes ms c.args.run.now c.skip.new.run c.args.observer.now rest c.requires.ready c.requires.rest
    c.args.instance.now m c.args.from.now c.skip.result (sym c.are_live.ensures ∙ c.if-not-are_live.true) c.skip.ensures.said c.skip.ensures.next

pub returns-in-Ok-Lacking : goal.returns-in-Ok-Lacking
returns-in-Ok-Lacking g c = λ ms m rest named.
    let live : are_live (live_of c.args.run.now) c.args.from.now ≡ true = sym c.are_live.ensures ∙ c.if-not-are_live.false in
    let P : Found → Type 0 = λ f. IsFound f (externs_from c.args.run.now.config.store (live_of c.args.run.now) [] c.args.from.now) in
    let lacks = subst P c.in-Ok-Lacking.field-0-is c.in-Ok-Lacking.ensures in
    reach_lacks g.O.Observer.eyes ms (stage_of c.args.run.now None (New c.args.instance.now m c.args.from.now ∷ rest)) (stage_of c.args.run.now None []) c.args.run.now c.args.observer.now c.in-Ok-Lacking.at
    (new_lacks c.args.instance.now m c.args.from.now rest c.in-Ok-Lacking.at refl refl live lacks refl refl)

pub returns-in-Ok-Externs : goal.returns-in-Ok-Externs
returns-in-Ok-Externs g c = λ ms m rest named.
    let live : are_live (live_of c.args.run.now) c.args.from.now ≡ true = sym c.are_live.ensures ∙ c.if-not-are_live.false in
    let P : Found → Type 0 = λ f. IsFound f (externs_from c.args.run.now.config.store (live_of c.args.run.now) [] c.args.from.now) in
    c.make.ensures ms m c.args.from.now rest live (subst P c.in-Ok-Externs.field-0-is c.in-Ok-Externs.ensures) named

pub returns-in-Err : goal.returns-in-Err
returns-in-Err g c = λ ms m rest named.
    left_here g.O.Observer.eyes ms (stage_of c.args.run.now None (New c.args.instance.now m c.args.from.now ∷ rest)) (watch_of c.args.observer.now c.args.run.now None None)
