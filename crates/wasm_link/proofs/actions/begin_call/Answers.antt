use Rattle.std.proofs.Common.{◌≡◌, [], ◌∷◌, None, Some, refl, sym, ap, ◌∙◌}
use Rattle.std.specs.Prelude.{option_and_then}
use Rattle.script_text.specs.declared.script.Action.TheVariants.{Call}
use Rattle.wasm_link.specs.Stages.{live_number, export_at, call_lacks}
use Rattle.wasm_link.specs.words.{live_of, stage_of}
use Rattle.wasm_link.proofs.Turning.{reach_lacks}
use Rattle.wasm_link.proofs.Beginnings.{missed_turn}
use Rattle.wasm_link.proofs.actions.begin_call.Goals as goal

pub returns-in-None : goal.returns-in-None
returns-in-None g c = λ ms rest.
    missed_turn g.O.Observer.eyes ms c.args.run.now c.miss.new.run c.args.observer.now rest c.requires.ready c.requires.rest
    c.args.instance.now c.args.export.now c.args.at c.args.args.now c.miss.result (sym c.number_of.ensures ∙ c.in-None.is) c.miss.ensures.said c.miss.ensures.next

pub returns-in-None-look_up : goal.returns-in-None-look_up
returns-in-None-look_up g c = λ ms rest.
    let s = c.args.run.now.config.store in
    let there : live_number (live_of c.args.run.now) c.args.instance.now ≡ Some c.in-Some.field-0 = sym c.number_of.ensures ∙ c.in-Some.is in
    let lacks : export_at s c.args.export.now c.in-Some.field-0 ≡ None =
    ap (option_and_then (export_at s c.args.export.now)) (sym there) ∙ sym c.look_up.ensures ∙ c.in-None-look_up.is in
    reach_lacks g.O.Observer.eyes ms (stage_of c.args.run.now None (Call c.args.instance.now c.args.export.now c.args.at c.args.args.now ∷ rest)) (stage_of c.args.run.now None []) c.args.run.now c.args.observer.now c.args.at
    (call_lacks c.args.instance.now c.args.export.now c.args.at c.args.args.now rest c.in-Some.field-0 refl refl there lacks refl refl)

pub returns-in-Some-look_up : goal.returns-in-Some-look_up
returns-in-Some-look_up g c = λ ms rest. c.call.ensures ms rest c.args.at
