-- Stages that are reached.
use Rattle.std.proofs.Common.{◌≡◌, ◌+◌, Bool, true, false, List, [], ◌∷◌, ◌++◌, Some, None, refl, sym, ap, subst, ◌∙◌}
use Rattle.wasm_store.specs.declared.config.Outcome.TheVariants.{Running}
use Rattle.wasm_instantiate.specs.declared.sight.Sight.{Sight}
use Rattle.wasm_instantiate.specs.Observers.{Eyes}
use Rattle.script_text.specs.declared.script.Action.{Action}
use Rattle.wasm_link.specs.declared.run.Run.{Run}
use Rattle.wasm_link.specs.Lines.{Doing}
use Rattle.wasm_link.specs.Stages.{Modules, Stage, Event, Steps, Next, Goes, stepped}
use Rattle.wasm_link.specs.Watching.{Watch, heard, heard_unless, watched, stop_of}
use Rattle.wasm_link.specs.words.{Reaches, Stepped, IsTaken, stage_of, watch_of}

pub here : {O : Type 0} (eyes : Eyes O) (ms : Modules) (s : Stage) (w : Watch O) → Reaches eyes ms s w s w
here eyes ms s w = record { events = []; goes = refl; is = refl }

goes_on : (ms : Modules) (s : Stage) (es fs : List Event) (t u : Stage) → Goes ms s es t → Goes ms t fs u → Goes ms s (es ++ fs) u
goes_on ms s [] fs t u h k = subst (λ z. Goes ms z fs u) h k
goes_on ms s (e ∷ es) fs t u h k = (h.0, h.1, goes_on ms h.0 es fs t u h.2 k)

watched_on : {O : Type 0} (eyes : Eyes O) (w : Watch O) (es fs : List Event) → watched eyes w (es ++ fs) ≡ watched eyes (watched eyes w es) fs
watched_on eyes w [] fs = refl
watched_on eyes w (e ∷ es) fs = watched_on eyes (heard_unless eyes w e w.stopped) es fs

pub reach_on : {O : Type 0} (eyes : Eyes O) (ms : Modules) (s t u : Stage) (w v x : Watch O) → Reaches eyes ms s w t v → Reaches eyes ms t v u x → Reaches eyes ms s w u x
reach_on eyes ms s t u w v x a b =
    record {
      events = a.events ++ b.events;
      goes = goes_on ms s a.events b.events t u a.goes b.goes;
      is = watched_on eyes w a.events b.events ∙ ap (λ z. watched eyes z b.events) a.is ∙ b.is;
    }

-- one event
pub reach_one : {O : Type 0} (eyes : Eyes O) (ms : Modules) (s t : Stage) (w v : Watch O) (e : Event) → w.stopped ≡ None → Next ms s e t → heard eyes w e ≡ v → Reaches eyes ms s w t v
reach_one eyes ms s t w v e going next is =
    record { events = e ∷ []; goes = (t, next, refl); is = ap (heard_unless eyes w e) going ∙ is }

pub taken_step : (r t : Run) (b : Bool) → IsTaken r t b → b ≡ true → Stepped r t
taken_step r t true h e = h
taken_step r t false h e = absurd cc

-- one step
pub reach_step : {O : Type 0} (eyes : Eyes O) (ms : Modules) (doing : Doing) (rest : List Action) (r t : Run) (a b : O) (sight : Sight) → r.config.outcome ≡ Running → Stepped r t →
    b ≡ eyes.noted_seen a t.config → sight ≡ eyes.told_seen a t.config →
    Reaches eyes ms (stage_of r (Some doing) rest) (watch_of a r None None) (stage_of t (Some doing) rest) (watch_of b t (stop_of sight) None)
reach_step {O} eyes ms doing rest r t a b sight running s noted told =
    let after : Run = record r { config = s.config; left = s.n; steps = r.steps + 1 } in
    let P : Run → Type 0 = λ z. (b ≡ eyes.noted_seen a z.config) → (sight ≡ eyes.told_seen a z.config) →
    Reaches eyes ms (stage_of r (Some doing) rest) (watch_of a r None None) (stage_of z (Some doing) rest) (watch_of b z (stop_of sight) None) in
    let so : P after = λ noted told.
    let next : Next ms (stage_of r (Some doing) rest) (Steps s.config) (stage_of after (Some doing) rest) =
    stepped doing s.n s.config refl running s.left s.passes s.step refl refl in
    let heard_so : heard eyes (watch_of a r None None) (Steps s.config) ≡ watch_of b after (stop_of sight) None =
    (let n = sym noted in let m = sym told in λ i. record { notes = n i; text = r.text.items; steps = r.steps + 1; stopped = stop_of (m i); lacking = None }) in
    reach_one eyes ms (stage_of r (Some doing) rest) (stage_of after (Some doing) rest) (watch_of a r None None) (watch_of b after (stop_of sight) None) (Steps s.config) refl next heard_so in
    subst P (sym s.is) so noted told
