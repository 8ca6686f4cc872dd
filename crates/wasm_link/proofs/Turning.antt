-- What comes after an action.
use Rattle.std.proofs.Common.{◌≡◌, ℕ, zero, suc, ◌<◌, List, [], ◌∷◌, ◌++◌, length, Option, Some, None, Result, Ok, Err, refl, sym, subst, ◌∙◌, arith}
use Rattle.std.specs.Prelude.{OnOk, IfOk}
use Rattle.wasm_syntax.specs.declared.module.Module.{Module}
use Rattle.wasm_store.specs.declared.config.Outcome.{Outcome}
use Rattle.wasm_store.specs.declared.config.Outcome.TheVariants.{Running, Done, Trapped}
use Rattle.wasm_store.specs.Configuration.{Configuration}
use Rattle.wasm_sessions.specs.Instantiation.{IsAtRest}
use Rattle.wasm_instantiate.specs.declared.sight.Sight.{Sight}
use Rattle.wasm_instantiate.specs.declared.sight.Sight.TheVariants.{GoOn, Stop}
use Rattle.wasm_instantiate.specs.Observers.{Eyes}
use Rattle.script_text.specs.declared.script.Action.{Action}
use Rattle.wasm_link.specs.declared.run.Run.{Run}
use Rattle.wasm_link.specs.declared.run.Turn.{Turn}
use Rattle.wasm_link.specs.declared.run.Turn.TheVariants as turn
use Rattle.wasm_link.specs.Lines.{Doing, Making}
use Rattle.wasm_link.specs.Stages.{Live, with_name, live_after, Modules, Stage, Says, Lacks, Makes, Enters, Next}
use Rattle.wasm_link.specs.Watching.{Watch, heard, told, seen, stop_of}
use Rattle.wasm_link.specs.words.{Ready, Said, Settled, number_after, Reaches, LeftAt, TurnTo, TurnAnswers, AllTo, stage_of, watch_of, live_of}
use Rattle.wasm_link.proofs.Reaching.{here, reach_on, reach_one}
use Rattle.wasm_link.proofs.Readying.{said_ready, settled_ready}

pub left_here : {O : Type 0} (eyes : Eyes O) (ms : Modules) (s : Stage) (w : Watch O) → LeftAt eyes ms s w w.notes
left_here eyes ms s w = record { stage = s; watch = w; reaches = here eyes ms s w; notes_are = refl }

pub left_same : {O : Type 0} (eyes : Eyes O) (ms : Modules) (s : Stage) (w : Watch O) (notes : O) → notes ≡ w.notes → LeftAt eyes ms s w notes
left_same eyes ms s w notes same = record { stage = s; watch = w; reaches = here eyes ms s w; notes_are = sym same }

pub left_after : {O : Type 0} (eyes : Eyes O) (ms : Modules) (s t : Stage) (w v : Watch O) (notes : O) → Reaches eyes ms s w t v → LeftAt eyes ms t v notes → LeftAt eyes ms s w notes
left_after eyes ms s t w v notes r l =
    record { stage = l.stage; watch = l.watch; reaches = reach_on eyes ms s t l.stage w v l.watch r l.reaches; notes_are = l.notes_are }

-- ---- lines

pub said_stage : (r t : Run) (line : List ℕ) (doing : Option Doing) (todo : List Action) → Said r t line → stage_of t doing todo ≡ stage_of r doing todo
said_stage r t line doing todo s = λ i. record { config = s.config i; left = s.left i; live = record { names = s.names i; numbers = s.numbers i }; doing = doing; todo = todo }

settled_stage : (r t : Run) (line name : List ℕ) (number : Option ℕ) (rest : List Action) → Settled r t line name number →
    stage_of t None rest ≡ record (stage_of r None rest) { live = with_name (live_of r) name number }
settled_stage r t line name number rest s =
    λ i. record { config = s.config i; left = s.left i; live = record { names = s.names i; numbers = s.numbers i }; doing = None; todo = rest }

pub reach_said : {O : Type 0} (eyes : Eyes O) (ms : Modules) (s u : Stage) (r t : Run) (notes : O) (line : List ℕ) → Said r t line → Next ms s (Says line) u →
    Reaches eyes ms s (watch_of notes r None None) u (watch_of notes t None None)
reach_said eyes ms s u r t notes line said next =
    let text = sym said.text in let steps = sym said.steps in
    reach_one eyes ms s u (watch_of notes r None None) (watch_of notes t None None) (Says line) refl next
    (λ i. record { notes = notes; text = text i; steps = steps i; stopped = None; lacking = None })

reach_settled : {O : Type 0} (eyes : Eyes O) (ms : Modules) (s u : Stage) (r t : Run) (notes : O) (line name : List ℕ) (number : Option ℕ) → Settled r t line name number → Next ms s (Says line) u →
    Reaches eyes ms s (watch_of notes r None None) u (watch_of notes t None None)
reach_settled eyes ms s u r t notes line name number said next =
    let text = sym said.text in let steps = sym said.steps in
    reach_one eyes ms s u (watch_of notes r None None) (watch_of notes t None None) (Says line) refl next
    (λ i. record { notes = notes; text = text i; steps = steps i; stopped = None; lacking = None })

-- ---- turns

-- what a call answers that says the last line
pub ended_turn : {O E : Type 0} (eyes : Eyes O) (ms : Modules) (s : Stage) (names : List (List ℕ)) (r t : Run) (notes : O) (rest : List Action) (line : List ℕ) (result : Result Turn E) →
    OnOk result (Said r t line) → IfOk result (λ x. x ≡ turn.Ended) → Next ms s (Says line) (stage_of r None []) →
    TurnAnswers eyes ms s (watch_of notes r None None) names t notes rest result
ended_turn eyes ms s names r t notes rest line (Err e) said is next = left_here eyes ms s (watch_of notes r None None)
ended_turn eyes ms s names r t notes rest line (Ok x) said is next =
    let P : Stage → Type 0 = λ u. Reaches eyes ms s (watch_of notes r None None) u (watch_of notes t None None) in
    let Q : Turn → Type 0 = λ x. TurnTo eyes ms s (watch_of notes r None None) names t notes rest x in
    subst Q (sym is) (subst P (sym (said_stage r t line None [] said)) (reach_said eyes ms s (stage_of r None []) r t notes line said next))

-- what a call answers that says a line after which the script goes on
pub next_turn : {O E : Type 0} (eyes : Eyes O) (ms : Modules) (s : Stage) (names : List (List ℕ)) (r t : Run) (notes : O) (rest : List Action) (line : List ℕ) (result : Result Turn E) →
    OnOk result (Said r t line) → IfOk result (λ x. x ≡ turn.Next) → Next ms s (Says line) (stage_of r None rest) → Ready r → IsAtRest r.config.outcome → r.names ≡ names →
    TurnAnswers eyes ms s (watch_of notes r None None) names t notes rest result
next_turn eyes ms s names r t notes rest line (Err e) said is next ready at_rest same = left_here eyes ms s (watch_of notes r None None)
next_turn eyes ms s names r t notes rest line (Ok x) said is next ready at_rest same =
    let P : Stage → Type 0 = λ u. Reaches eyes ms s (watch_of notes r None None) u (watch_of notes t None None) in
    let Q : Turn → Type 0 = λ x. TurnTo eyes ms s (watch_of notes r None None) names t notes rest x in
    let R : Configuration → Type 0 = λ c. IsAtRest c.outcome in
    subst Q (sym is) (record {
      reaches = subst P (sym (said_stage r t line None rest said)) (reach_said eyes ms s (stage_of r None rest) r t notes line said next);
      ready = said_ready r t line ready said;
      at_rest = subst R (sym said.config) at_rest;
      names_are = said.names ∙ same;
    })

-- the same, where the number of a name is told too
pub settled_turn : {O E : Type 0} (eyes : Eyes O) (ms : Modules) (s : Stage) (r t : Run) (notes : O) (rest : List Action) (line name : List ℕ) (number : Option ℕ) (result : Result Turn E) →
    OnOk result (Settled r t line name number) → IfOk result (λ x. x ≡ turn.Next) → Next ms s (Says line) (record (stage_of r None rest) { live = with_name (live_of r) name number }) →
    Ready r → IsAtRest r.config.outcome → ((n : ℕ) → number ≡ Some n → n < length r.config.store.instances) →
    TurnAnswers eyes ms s (watch_of notes r None None) (r.names ++ name ∷ []) t notes rest result
settled_turn eyes ms s r t notes rest line name number (Err e) said is next ready at_rest within = left_here eyes ms s (watch_of notes r None None)
settled_turn eyes ms s r t notes rest line name number (Ok x) said is next ready at_rest within =
    let P : Stage → Type 0 = λ u. Reaches eyes ms s (watch_of notes r None None) u (watch_of notes t None None) in
    let Q : Turn → Type 0 = λ x. TurnTo eyes ms s (watch_of notes r None None) (r.names ++ name ∷ []) t notes rest x in
    let R : Configuration → Type 0 = λ c. IsAtRest c.outcome in
    subst Q (sym is) (record {
      reaches = subst P (sym (settled_stage r t line name number rest said)) (reach_settled eyes ms s (record (stage_of r None rest) { live = with_name (live_of r) name number }) r t notes line name number said next);
      ready = settled_ready r t line name number ready within said;
      at_rest = subst R (sym said.config) at_rest;
      names_are = said.names;
    })

-- what is answered after some events
pub turn_after : {O E : Type 0} (eyes : Eyes O) (ms : Modules) (s t : Stage) (w v : Watch O) (names : List (List ℕ)) (r : Run) (notes : O) (rest : List Action) (result : Result Turn E) →
    Reaches eyes ms s w t v → TurnAnswers eyes ms t v names r notes rest result → TurnAnswers eyes ms s w names r notes rest result
turn_after eyes ms s t w v names r notes rest (Ok turn.Next) h a =
    record { reaches = reach_on eyes ms s t _ w v _ h a.reaches; ready = a.ready; at_rest = a.at_rest; names_are = a.names_are }
turn_after eyes ms s t w v names r notes rest (Ok turn.Ended) h a = reach_on eyes ms s t _ w v _ h a
turn_after eyes ms s t w v names r notes rest (Ok (turn.Seen n)) h a = (a.0, reach_on eyes ms s t _ w v _ h a.1)
turn_after eyes ms s t w v names r notes rest (Ok (turn.Lacks at)) h a = reach_on eyes ms s t _ w v _ h a
turn_after eyes ms s t w v names r notes rest (Err e) h a = left_after eyes ms s t w v notes h a

-- ---- ends

pub live_settled : (live : Live) (instance : List ℕ) (number : ℕ) (o : Outcome) → live_after live (Making instance number) o ≡ with_name live instance (number_after o number)
live_settled live instance number (Done values) = refl
live_settled live instance number Running = refl
live_settled live instance number Trapped = refl

pub number_within : (o : Outcome) (number bound n : ℕ) → number < bound → number_after o number ≡ Some n → n < bound
number_within (Done values) number bound n less h = let e : number ≡ n = cc in subst (λ k. k < bound) e less
number_within Running number bound n less h = absurd cc
number_within Trapped number bound n less h = absurd cc

pub at_rest_so : (o : Outcome) → (o ≡ Running → ⊥) → IsAtRest o
at_rest_so Running h = h refl
at_rest_so (Done values) h = tt
at_rest_so Trapped h = tt

pub suc_of : (n : ℕ) → 0 < n → (m : ℕ) × (n ≡ suc m)
suc_of zero h = absurd (omega (arith, h))
suc_of (suc m) h = (m, refl)

-- ---- observers

pub reach_seen : {O : Type 0} (eyes : Eyes O) (ms : Modules) (s t : Stage) (r : Run) (a b : O) (sight : Sight) → Next ms s (Enters r.config) t →
    b ≡ eyes.noted_seen a r.config → sight ≡ eyes.told_seen a r.config → Reaches eyes ms s (watch_of a r None None) t (watch_of b r (stop_of sight) None)
reach_seen eyes ms s t r a b sight next noted told =
    let n = sym noted in let m = sym told in
    reach_one eyes ms s t (watch_of a r None None) (watch_of b r (stop_of sight) None) (Enters r.config) refl next
    (λ i. record { notes = n i; text = r.text.items; steps = r.steps; stopped = stop_of (m i); lacking = None })

pub reach_made_stop : {O : Type 0} (eyes : Eyes O) (ms : Modules) (s t : Stage) (r : Run) (name : List ℕ) (number : ℕ) (m : Module) (a b : O) (n : ℕ) → Next ms s (Makes name number m r.config) t →
    b ≡ eyes.noted_made a name number m → Stop n ≡ eyes.told_made a name number m → Reaches eyes ms s (watch_of a r None None) t (watch_of b r (Some n) None)
reach_made_stop {O} eyes ms s t r name number m a b n next noted said =
    let e = sym said in let k = sym noted in
    reach_one eyes ms s t (watch_of a r None None) (watch_of b r (Some n) None) (Makes name number m r.config) refl next
    (λ i. told eyes (record { notes = k i; text = r.text.items; steps = r.steps; stopped = None; lacking = None }) r.config (e i))

pub reach_made_seen : {O : Type 0} (eyes : Eyes O) (ms : Modules) (s t : Stage) (r : Run) (name : List ℕ) (number : ℕ) (m : Module) (a b c : O) (sight : Sight) → Next ms s (Makes name number m r.config) t →
    b ≡ eyes.noted_made a name number m → GoOn ≡ eyes.told_made a name number m → c ≡ eyes.noted_seen b r.config → sight ≡ eyes.told_seen b r.config →
    Reaches eyes ms s (watch_of a r None None) t (watch_of c r (stop_of sight) None)
reach_made_seen {O} eyes ms s t r name number m a b c sight next noted said noted_next told_next =
    let e = sym said in let k = sym noted in let x = sym noted_next in let y = sym told_next in
    let first : heard eyes (watch_of a r None None) (Makes name number m r.config) ≡ seen eyes (watch_of b r None None) r.config =
    λ i. told eyes (record { notes = k i; text = r.text.items; steps = r.steps; stopped = None; lacking = None }) r.config (e i) in
    let second : seen eyes (watch_of b r None None) r.config ≡ watch_of c r (stop_of sight) None =
    λ i. record { notes = x i; text = r.text.items; steps = r.steps; stopped = stop_of (y i); lacking = None } in
    reach_one eyes ms s t (watch_of a r None None) (watch_of c r (stop_of sight) None) (Makes name number m r.config) refl next (first ∙ second)

pub reach_lacks : {O : Type 0} (eyes : Eyes O) (ms : Modules) (s t : Stage) (r : Run) (a : O) (at : ℕ) → Next ms s (Lacks at) t → Reaches eyes ms s (watch_of a r None None) t (watch_of a r None (Some at))
reach_lacks eyes ms s t r a at next = reach_one eyes ms s t (watch_of a r None None) (watch_of a r None (Some at)) (Lacks at) refl next refl

-- where an action leads, all actions lead, if the script doesn't go on
pub all_after : {O : Type 0} (eyes : Eyes O) (ms : Modules) (s t : Stage) (w v : Watch O) (names : List (List ℕ)) (r : Run) (notes : O) (rest : List Action) (x : Turn) →
    Reaches eyes ms s w t v → TurnTo eyes ms t v names r notes rest x → (x ≡ turn.Next → ⊥) → AllTo eyes ms s w r notes x
all_after eyes ms s t w v names r notes rest turn.Next h a stays = absurd (stays refl)
all_after eyes ms s t w v names r notes rest turn.Ended h a stays = reach_on eyes ms s t _ w v _ h a
all_after eyes ms s t w v names r notes rest (turn.Seen n) h a stays = (stage_of r (Some a.0) rest, reach_on eyes ms s t _ w v _ h a.1)
all_after eyes ms s t w v names r notes rest (turn.Lacks at) h a stays = reach_on eyes ms s t _ w v _ h a
