use Rattle.std.proofs.Common.{ℕ, List, [], Ok, sym, subst}
use Rattle.rw_edge.specs.Count.{Faulted}
use Rattle.script_text.specs.declared.script.Load.{Load}
use Rattle.script_text.specs.declared.script.Action.{Action}
use Rattle.script_text.specs.Grammar.{modules_of}
use Rattle.wasm_link.specs.words.{AreKnown, LoadedAnswers}
use Rattle.wasm_link.specs.words.Loads.{AreNew, LoadsOf, modules_loaded}
use Rattle.wasm_link.proofs.Spelled.{known_script}
use Rattle.wasm_link.proofs.Runs.{seen_so}
use Rattle.wasm_link.proofs.running.run_script_seen.Goals as goal

pub load_all-requires : goal.load_all-requires
load_all-requires g c = subst (AreNew []) (sym c.as_slice.ensures) (known_script c.args.script.now c.requires).new

pub run_loaded-requires-clause-few : goal.run_loaded-requires-clause-few
run_loaded-requires-clause-few g c = (known_script c.args.script.now c.requires).few

pub run_loaded-requires-clause-known : goal.run_loaded-requires-clause-known
run_loaded-requires-clause-known g c =
    let loads : List Load → Type 0 = λ ls. AreKnown (modules_of ls) [] c.args.script.now.actions in
    let A : List Action → Type 0 = λ actions. AreKnown (modules_of c.as_slice.result.now) [] actions in
    let N : List (List ℕ) → Type 0 = λ names. AreKnown names [] c.as_slice-in-Ok.result.now in
    subst N (sym c.in-Ok.ensures.answers.1) (subst A (sym c.as_slice-in-Ok.ensures) (subst loads (sym c.as_slice.ensures) (known_script c.args.script.now c.requires).known))

pub returns-in-Ok-clause-answers : goal.returns-in-Ok-clause-answers
returns-in-Ok-clause-answers g c =
    let told = g.S.Shelf.files c.args.shelf.now in
    let faulted = Faulted (g.S.Shelf.faults c.args.shelf.now) (g.S.Shelf.faults c.load_all.new.shelf) in
    let L : List Load → Type 0 = λ ls. LoadsOf told faulted ls (Ok c.in-Ok.loaded) in
    let A : List Action → Type 0 = λ actions. LoadedAnswers g.O.Observer.eyes (modules_loaded c.in-Ok.loaded) c.args.script.now.steps actions c.args.observer.now c.run_loaded.new.observer c.run_loaded.result in
    seen_so g.O.Observer.eyes told c.args.script.now c.in-Ok.loaded c.args.observer.now c.run_loaded.new.observer faulted
    (subst L c.as_slice.ensures c.in-Ok.ensures.answers) c.run_loaded.result (subst A c.as_slice-in-Ok.ensures c.run_loaded.ensures)
