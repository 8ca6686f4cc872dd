-- What a run of a script answers.
use Rattle.std.proofs.Common.{◌≡◌, inl, inr, ℕ, List, [], Option, Some, None, is_some, Result, Ok, Err, refl, sym, ap, subst, ◌∙◌}
use Rattle.wasm_instantiate.specs.Observers.{Eyes}
use Rattle.script_text.specs.declared.script.Action.{Action}
use Rattle.script_text.specs.declared.script.Script.{Script}
use Rattle.wasm_link.specs.declared.fault.LinkFault.{LinkFault}
use Rattle.wasm_link.specs.declared.fault.LinkFault.TheVariants.{Shelf, TooLong, Decode, Invalid, UnknownName, OutOfMemory}
use Rattle.wasm_link.specs.declared.log.SeenLog.{SeenLog}
use Rattle.wasm_link.specs.declared.loading.Loaded.{Loaded}
use Rattle.wasm_link.specs.declared.run.Run.{Run}
use Rattle.wasm_link.specs.declared.run.Turn.{Turn}
use Rattle.wasm_link.specs.declared.run.Turn.TheVariants as turn
use Rattle.wasm_link.specs.Loading.{Files}
use Rattle.wasm_link.specs.Stages.{Modules, Stage, first_stage}
use Rattle.wasm_link.specs.Watching.{Watch, fresh}
use Rattle.wasm_link.specs.Logs.{modules_in}
use Rattle.wasm_link.specs.Answers.{Observes, SeenAnswers}
use Rattle.wasm_link.specs.words.{IsStarted, Reaches, LeftAt, AllTo, Ends, EndAnswers, LoadedAnswers, stage_of, watch_of, stage_before}
use Rattle.wasm_link.specs.words.Loads.{LoadsOf, modules_loaded}

started_stage : (steps : ℕ) (r : Run) (actions : List Action) → IsStarted steps r → stage_of r None actions ≡ stage_before steps actions
started_stage steps r actions s = λ i. record { config = s.config i; left = s.left i; live = record { names = s.names i; numbers = s.numbers i }; doing = None; todo = actions }

started_watch : {O : Type 0} (notes : O) (steps : ℕ) (r : Run) → IsStarted steps r → watch_of notes r None None ≡ fresh notes
started_watch notes steps r s = λ i. record { notes = notes; text = s.text i; steps = s.none_taken i; stopped = None; lacking = None }

module _ {O : Type 0} (eyes : Eyes O) (ms : Modules) (steps : ℕ) (actions : List Action) (notes after : O) (r : Run) where
  come : (seen : SeenLog) (stage : Stage) (stop : Option ℕ) → Reaches eyes ms (stage_before steps actions) (fresh notes) stage (watch_of after r stop None) →
      seen.log.text ≡ r.text.items → seen.steps ≡ r.steps → seen.stopped ≡ stop →
      Reaches eyes ms (stage_before steps actions) (fresh notes) stage (record { notes = after; text = seen.log.text; steps = seen.steps; stopped = seen.stopped; lacking = None })
  come seen stage stop h text taken stopped =
      let a = sym text in let b = sym taken in let c = sym stopped in
      let W : Watch O → Type 0 = λ w. Reaches eyes ms (stage_before steps actions) (fresh notes) stage w in
      subst W (λ i. record { notes = after; text = a i; steps = b i; stopped = c i; lacking = None }) h

  end_loaded : (x : Turn) (result : Result SeenLog LinkFault) → AllTo eyes ms (stage_before steps actions) (fresh notes) r after x → EndAnswers r x result → LoadedAnswers eyes ms steps actions notes after result
  end_loaded turn.Next (Ok seen) h e = record { stage = stage_of r None []; reaches = come seen (stage_of r None []) None h e.0 e.1 e.2; whole = inr (record { nothing_begun = refl; nothing_left = refl }) }
  end_loaded turn.Ended (Ok seen) h e = record { stage = stage_of r None []; reaches = come seen (stage_of r None []) None h e.0 e.1 e.2; whole = inr (record { nothing_begun = refl; nothing_left = refl }) }
  end_loaded (turn.Seen n) (Ok seen) h e = record { stage = h.0; reaches = come seen h.0 (Some n) h.1 e.0 e.1 e.2; whole = inl (ap is_some e.2) }
  end_loaded (turn.Lacks at) (Ok seen) h e = absurd e
  end_loaded turn.Next (Err fault) h e = absurd e
  end_loaded turn.Ended (Err fault) h e = absurd e
  end_loaded (turn.Seen n) (Err fault) h e = absurd e
  end_loaded (turn.Lacks at) (Err fault) h e =
      let P : LinkFault → Type 0 = λ f. LoadedAnswers eyes ms steps actions notes after (Err f) in
      let whole : Ends eyes ms (stage_before steps actions) (fresh notes) (watch_of after r None (Some at)) = record { stage = stage_of r None []; reaches = h; whole = inr (record { nothing_begun = refl; nothing_left = refl }) } in
      subst P (sym e) (watch_of after r None (Some at), whole, refl, refl)

pub ran : {O : Type 0} (eyes : Eyes O) (ms : Modules) (steps : ℕ) (actions : List Action) (notes after : O) (first r : Run) (x : Turn) (result : Result SeenLog LinkFault) → IsStarted steps first →
    AllTo eyes ms (stage_of first None actions) (watch_of notes first None None) r after x → EndAnswers r x result → LoadedAnswers eyes ms steps actions notes after result
ran {O} eyes ms steps actions notes after first r x result s h e =
    let P : Stage → Type 0 = λ z. AllTo eyes ms z (watch_of notes first None None) r after x in
    let Q : Watch O → Type 0 = λ w. AllTo eyes ms (stage_before steps actions) w r after x in
    end_loaded eyes ms steps actions notes after r x result (subst Q (started_watch notes steps first s) (subst P (started_stage steps first actions s) h)) e

module _ {O : Type 0} (eyes : Eyes O) (told : Option Files) (x : Script) (l : Loaded) (notes after : O) (faulted : Type 0) (loaded : LoadsOf told faulted x.loads (Ok l)) where
  same : modules_loaded l ≡ modules_in x l.modules
  same = ap (λ names. record { names = names; modules = l.modules }) loaded.1

  observed : (w : Watch O) → Ends eyes (modules_loaded l) (first_stage x) (fresh notes) w → Observes eyes told x notes w
  observed w e =
      let P : Modules → Type 0 = λ ms. Ends eyes ms (first_stage x) (fresh notes) w in
      let d = subst P same e in
      (l.modules, loaded.0, record { events = d.reaches.events; stage = d.stage; goes = d.reaches.goes; whole = d.whole; is = d.reaches.is })

  pub seen_so : (result : Result SeenLog LinkFault) → LoadedAnswers eyes (modules_loaded l) x.steps x.actions notes after result → SeenAnswers eyes told x notes after result
  seen_so (Ok seen) h = observed (record { notes = after; text = seen.log.text; steps = seen.steps; stopped = seen.stopped; lacking = None }) h
  seen_so (Err (UnknownName at)) h = (h.0, observed h.0 h.1, h.2, h.3)
  seen_so (Err OutOfMemory) h =
      let P : Modules → Type 0 = λ ms. LeftAt eyes ms (first_stage x) (fresh notes) after in
      let d = subst P same h in
      inr (record { modules = l.modules; loaded = loaded.0; events = d.reaches.events; stage = d.stage; goes = d.reaches.goes; is = ap (λ (w : Watch O). w.notes) d.reaches.is ∙ d.notes_are })
  seen_so (Err Shelf) h = absurd h
  seen_so (Err (TooLong name)) h = absurd h
  seen_so (Err (Decode name f)) h = absurd h
  seen_so (Err (Invalid name f)) h = absurd h
