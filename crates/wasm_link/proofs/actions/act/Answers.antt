use Rattle.std.proofs.Common.{◌≡◌, ℕ, List, [], ◌∷◌, ◌++◌, append-nil, None, sym, subst}
use Rattle.wasm_values.specs.declared.number.Val.{Val}
use Rattle.script_text.specs.declared.script.Origin.{Origin}
use Rattle.script_text.specs.declared.script.Action.{Action}
use Rattle.script_text.specs.declared.script.Action.TheVariants.{New, Call}
use Rattle.script_text.specs.Grammar.{made_by}
use Rattle.wasm_link.specs.words.{TurnAnswers, stage_of, watch_of}
use Rattle.wasm_link.specs.words.Loads.{modules_loaded}
use Rattle.wasm_link.proofs.actions.act.Goals as goal

pub returns-in-New : goal.returns-in-New
returns-in-New g c = λ rest.
    let P : Action → Type 0 = λ a. TurnAnswers g.O.Observer.eyes (modules_loaded c.args.loaded.now) (stage_of c.args.run.now None (a ∷ rest)) (watch_of c.args.observer.now c.args.run.now None None)
    (c.args.run.now.names ++ made_by a) c.begin_new.new.run c.begin_new.new.observer rest c.begin_new.result in
    let i : c.as_str-in-New.result.now ≡ c.in-New.instance = c.as_str-in-New.ensures in
    let m : c.as_str.result.now ≡ c.in-New.module = c.as_str.ensures in
    let from : c.as_slice.result.now ≡ c.in-New.from = c.as_slice.ensures in
    let Q : List ℕ × List ℕ × List Origin → Type 0 = λ x. P (New x.0 x.1 x.2) in
    subst P (sym c.in-New.is) (subst Q (λ k. (i k, m k, from k)) (c.begin_new.ensures (modules_loaded c.args.loaded.now) c.as_str.result.now rest c.module_of-module.ensures))

pub returns-in-Call : goal.returns-in-Call
returns-in-Call g c = λ rest.
    let P : Action → Type 0 = λ a. TurnAnswers g.O.Observer.eyes (modules_loaded c.args.loaded.now) (stage_of c.args.run.now None (a ∷ rest)) (watch_of c.args.observer.now c.args.run.now None None)
    (c.args.run.now.names ++ made_by a) c.begin_call.new.run c.begin_call.new.observer rest c.begin_call.result in
    let i : c.as_str-in-Call.result.now ≡ c.in-Call.instance = c.as_str-in-Call.ensures in
    let args : c.as_slice-in-Call.result.now ≡ c.in-Call.args = c.as_slice-in-Call.ensures in
    let names : c.args.run.now.names ≡ c.args.run.now.names ++ [] = sym (append-nil c.args.run.now.names) in
    let Q : List ℕ × List Val × List (List ℕ) → Type 0 = λ x. TurnAnswers g.O.Observer.eyes (modules_loaded c.args.loaded.now) (stage_of c.args.run.now None (Call x.0 c.in-Call.export c.in-Call.at x.1 ∷ rest))
    (watch_of c.args.observer.now c.args.run.now None None) x.2 c.begin_call.new.run c.begin_call.new.observer rest c.begin_call.result in
    subst P (sym c.in-Call.is) (subst Q (λ k. (i k, args k, names k)) (c.begin_call.ensures (modules_loaded c.args.loaded.now) rest))
