use Rattle.std.proofs.Common.{◌≡◌, ℕ, ◌+◌, List, ◌∷◌, ◌++◌, drop, None, sym, subst}
use Rattle.script_text.specs.declared.script.Action.{Action}
use Rattle.script_text.specs.Grammar.{made_by}
use Rattle.wasm_link.specs.declared.run.Turn.{Turn}
use Rattle.wasm_link.specs.declared.run.Turn.TheVariants as turn
use Rattle.wasm_link.specs.words.{Reaches, GoesOn, AreKnown, TurnTo, AllTo, stage_of, watch_of}
use Rattle.wasm_link.specs.words.Loads.{modules_loaded}
use Rattle.wasm_link.proofs.Loads.{at_item}
use Rattle.wasm_link.proofs.Reaching.{reach_on}
use Rattle.wasm_link.proofs.Turning.{all_after, left_after}
use Rattle.wasm_link.proofs.actions.act_all.Goals as goal

pub returns-in-Ok-Ended : goal.returns-in-Ok-Ended
returns-in-Ok-Ended g c =
    let eyes = g.O.Observer.eyes in
    let ms = modules_loaded c.args.loaded.now in
    let actions = c.args.actions.now in
    let s = stage_of c.args.run.now None actions in
    let w = watch_of c.args.observer.now c.args.run.now None None in
    let before = c.loop-action.run in
    let item = c.action-item.result in
    let rest = drop (c.loop-action.action-index + 1) actions in
    let at = at_item actions c.loop-action.action-index item c.loop-action-test.true c.action-item.is in
    let R : List Action → Type 0 = λ l. Reaches eyes ms s w (stage_of before None l) (watch_of c.loop-action.observer before None None) in
    let reaches = subst R at c.loop-action.invariant.reaches in
    let v = watch_of c.loop-action.observer before None None in
    let middle = stage_of before None (item ∷ rest) in
    let names = before.names ++ made_by item in
    let h = c.in-Ok-Ended in
    let stays : h.field-0 ≡ turn.Next → ⊥ = λ e. cc (e, h.field-0-is) in
    let A : Turn → Type 0 = λ x. AllTo eyes ms s w c.act.new.run c.act.new.observer x in
    subst A h.field-0-is (all_after eyes ms s middle w v names c.act.new.run c.act.new.observer rest h.field-0 reaches (h.ensures rest) stays)

pub returns-in-Ok-Seen : goal.returns-in-Ok-Seen
returns-in-Ok-Seen g c =
    let eyes = g.O.Observer.eyes in
    let ms = modules_loaded c.args.loaded.now in
    let actions = c.args.actions.now in
    let s = stage_of c.args.run.now None actions in
    let w = watch_of c.args.observer.now c.args.run.now None None in
    let before = c.loop-action.run in
    let item = c.action-item.result in
    let rest = drop (c.loop-action.action-index + 1) actions in
    let at = at_item actions c.loop-action.action-index item c.loop-action-test.true c.action-item.is in
    let R : List Action → Type 0 = λ l. Reaches eyes ms s w (stage_of before None l) (watch_of c.loop-action.observer before None None) in
    let reaches = subst R at c.loop-action.invariant.reaches in
    let v = watch_of c.loop-action.observer before None None in
    let middle = stage_of before None (item ∷ rest) in
    let names = before.names ++ made_by item in
    let h = c.in-Ok-Seen in
    let stays : h.field-0 ≡ turn.Next → ⊥ = λ e. cc (e, h.field-0-is) in
    let A : Turn → Type 0 = λ x. AllTo eyes ms s w c.act.new.run c.act.new.observer x in
    subst A h.field-0-is (all_after eyes ms s middle w v names c.act.new.run c.act.new.observer rest h.field-0 reaches (h.ensures rest) stays)

pub returns-in-Ok-Lacks : goal.returns-in-Ok-Lacks
returns-in-Ok-Lacks g c =
    let eyes = g.O.Observer.eyes in
    let ms = modules_loaded c.args.loaded.now in
    let actions = c.args.actions.now in
    let s = stage_of c.args.run.now None actions in
    let w = watch_of c.args.observer.now c.args.run.now None None in
    let before = c.loop-action.run in
    let item = c.action-item.result in
    let rest = drop (c.loop-action.action-index + 1) actions in
    let at = at_item actions c.loop-action.action-index item c.loop-action-test.true c.action-item.is in
    let R : List Action → Type 0 = λ l. Reaches eyes ms s w (stage_of before None l) (watch_of c.loop-action.observer before None None) in
    let reaches = subst R at c.loop-action.invariant.reaches in
    let v = watch_of c.loop-action.observer before None None in
    let middle = stage_of before None (item ∷ rest) in
    let names = before.names ++ made_by item in
    let h = c.in-Ok-Lacks in
    let stays : h.field-0 ≡ turn.Next → ⊥ = λ e. cc (e, h.field-0-is) in
    let A : Turn → Type 0 = λ x. AllTo eyes ms s w c.act.new.run c.act.new.observer x in
    subst A h.field-0-is (all_after eyes ms s middle w v names c.act.new.run c.act.new.observer rest h.field-0 reaches (h.ensures rest) stays)

pub returns-in-Err : goal.returns-in-Err
returns-in-Err g c =
    let eyes = g.O.Observer.eyes in
    let ms = modules_loaded c.args.loaded.now in
    let actions = c.args.actions.now in
    let s = stage_of c.args.run.now None actions in
    let w = watch_of c.args.observer.now c.args.run.now None None in
    let before = c.loop-action.run in
    let item = c.action-item.result in
    let rest = drop (c.loop-action.action-index + 1) actions in
    let at = at_item actions c.loop-action.action-index item c.loop-action-test.true c.action-item.is in
    let R : List Action → Type 0 = λ l. Reaches eyes ms s w (stage_of before None l) (watch_of c.loop-action.observer before None None) in
    let reaches = subst R at c.loop-action.invariant.reaches in
    let v = watch_of c.loop-action.observer before None None in
    let middle = stage_of before None (item ∷ rest) in
    let names = before.names ++ made_by item in
    left_after eyes ms s middle w v c.act.new.observer reaches (c.in-Err.ensures rest)

pub loop-action-preserved : goal.loop-action-preserved
loop-action-preserved g c =
    let eyes = g.O.Observer.eyes in
    let ms = modules_loaded c.args.loaded.now in
    let actions = c.args.actions.now in
    let s = stage_of c.args.run.now None actions in
    let w = watch_of c.args.observer.now c.args.run.now None None in
    let before = c.loop-action.run in
    let item = c.action-item.result in
    let rest = drop (c.loop-action.action-index + 1) actions in
    let at = at_item actions c.loop-action.action-index item c.loop-action-test.true c.action-item.is in
    let R : List Action → Type 0 = λ l. Reaches eyes ms s w (stage_of before None l) (watch_of c.loop-action.observer before None None) in
    let reaches = subst R at c.loop-action.invariant.reaches in
    let v = watch_of c.loop-action.observer before None None in
    let middle = stage_of before None (item ∷ rest) in
    let names = before.names ++ made_by item in
    let h = c.in-Ok-Next in
    let T : Turn → Type 0 = λ x. TurnTo eyes ms middle v names c.act.new.run c.act.new.observer rest x in
    let next : GoesOn eyes ms middle v names c.act.new.run c.act.new.observer rest = subst T h.field-0-is (h.ensures rest) in
    let K : List Action → Type 0 = λ l. AreKnown c.args.loaded.now.names before.names l in
    let known = subst K at c.loop-action.invariant.known in
    let N : List (List ℕ) → Type 0 = λ n. AreKnown c.args.loaded.now.names n rest in
    record {
      ready = next.ready;
      rest = next.at_rest;
      known = subst N (sym next.names_are) known.1;
      reaches = reach_on eyes ms s middle _ w v _ reaches next.reaches;
    }
