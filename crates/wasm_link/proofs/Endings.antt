-- How an action that was begun ends.
use Rattle.std.proofs.Common.{◌≡◌, ℕ, ◌<◌, List, [], ◌∷◌, ◌++◌, length, Some, None, Result, Ok, codes, refl, sym, subst}
use Rattle.std.specs.Prelude.{OnOk, IfOk}
use Rattle.wasm_instantiate.specs.Observers.{Eyes}
use Rattle.script_text.specs.declared.script.Action.{Action}
use Rattle.wasm_link.specs.declared.run.Run.{Run}
use Rattle.wasm_link.specs.declared.run.Ending.{Ending}
use Rattle.wasm_link.specs.declared.run.Ending.TheVariants.{Over, Stopped, Limit, Seen}
use Rattle.wasm_link.specs.declared.run.Turn.{Turn}
use Rattle.wasm_link.specs.declared.run.Turn.TheVariants as turn
use Rattle.wasm_link.specs.Lines.{Doing, Making, Calling, line, call_head, head_of, end_word}
use Rattle.wasm_link.specs.Stages.{Live, Modules, Stage, Says, Next, stopped, frames_passed, over}
use Rattle.wasm_link.specs.Watching.{Watch}
use Rattle.wasm_link.specs.words.{Ready, Kept, Said, Settled, EndsAs, number_after, stop_at, Reaches, TurnAnswers, stage_of, watch_of, live_of}
use Rattle.wasm_link.proofs.Turning.{ended_turn, next_turn, settled_turn, turn_after, live_settled, number_within, at_rest_so, suc_of}

module _ {O : Type 0} (eyes : Eyes O) (ms : Modules) (s : Stage) (w : Watch O) (rest : List Action) (old mid : Run) (notes : O) (ending : Ending) (ready : Ready mid) (kept : Kept old mid) (ends : EndsAs mid ending) where
  -- what is known once an action goes on no more
  abbrev Came : Doing → Type 0
  Came doing = Reaches eyes ms s w (stage_of mid (Some doing) rest) (watch_of notes mid (stop_at {E = Unit {0}} (Ok ending)) None)

  at : (doing : Doing) (e : Ending) → ending ≡ e → Came doing → Reaches eyes ms s w (stage_of mid (Some doing) rest) (watch_of notes mid (stop_at {E = Unit {0}} (Ok e)) None)
  at doing e is reaches =
      let P : Ending → Type 0 = λ x. Reaches eyes ms s w (stage_of mid (Some doing) rest) (watch_of notes mid (stop_at {E = Unit {0}} (Ok x)) None) in
      subst P is reaches

  pub stops_turn : {E : Type 0} (doing : Doing) (names : List (List ℕ)) (t : Run) (result : Result Turn E) (head : List ℕ) → head ≡ head_of doing → ending ≡ Stopped → Came doing →
      OnOk result (Said mid t (line head (codes "stopped"))) → IfOk result (λ x. x ≡ turn.Ended) → TurnAnswers eyes ms s w names t notes rest result
  stops_turn doing names t result head same is reaches said next =
      let H : List ℕ → Type 0 = λ h. OnOk result (Said mid t (line h (codes "stopped"))) in
      let e = subst (EndsAs mid) is ends in
      turn_after eyes ms s (stage_of mid (Some doing) rest) w (watch_of notes mid None None) names t notes rest result (at doing Stopped is reaches)
      (ended_turn eyes ms (stage_of mid (Some doing) rest) names mid t notes rest (line (head_of doing) (codes "stopped")) result (subst H same said) next
      (stopped doing refl e.0 e.1 refl refl))

  pub limits_turn : {E : Type 0} (doing : Doing) (names : List (List ℕ)) (t : Run) (result : Result Turn E) (head : List ℕ) → head ≡ head_of doing → ending ≡ Limit → Came doing →
      OnOk result (Said mid t (line head (codes "limit"))) → IfOk result (λ x. x ≡ turn.Ended) → TurnAnswers eyes ms s w names t notes rest result
  limits_turn doing names t result head same is reaches said next =
      let H : List ℕ → Type 0 = λ h. OnOk result (Said mid t (line h (codes "limit"))) in
      let e = subst (EndsAs mid) is ends in
      let n = suc_of mid.left e.1 in
      turn_after eyes ms s (stage_of mid (Some doing) rest) w (watch_of notes mid None None) names t notes rest result (at doing Limit is reaches)
      (ended_turn eyes ms (stage_of mid (Some doing) rest) names mid t notes rest (line (head_of doing) (codes "limit")) result (subst H same said) next
      (frames_passed doing n.0 refl e.0 n.1 e.2 refl refl))

  pub seen_turn : (doing : Doing) (n : ℕ) → ending ≡ Seen n → Came doing → Reaches eyes ms s w (stage_of mid (Some doing) rest) (watch_of notes mid (Some n) None)
  seen_turn doing n is reaches = at doing (Seen n) is reaches

  pub start_over : {E : Type 0} (instance : List ℕ) (number : ℕ) (t : Run) (result : Result Turn E) → ending ≡ Over → Came (Making instance number) → number < length old.config.store.instances →
      OnOk result (Settled mid t (line instance (end_word (Making instance number) mid.config.outcome)) instance (number_after mid.config.outcome number)) → IfOk result (λ x. x ≡ turn.Next) →
      TurnAnswers eyes ms s w (old.names ++ instance ∷ []) t notes rest result
  start_over instance number t result is reaches there said next =
      let doing = Making instance number in
      let at_rest = at_rest_so mid.config.outcome (subst (EndsAs mid) is ends) in
      let there_now : number < length mid.config.store.instances = let P : ℕ → Type 0 = λ n. number < n in subst P (sym kept.instances) there in
      let live = live_settled (live_of mid) instance number mid.config.outcome in
      let N : List (List ℕ) → Type 0 = λ names. TurnAnswers eyes ms s w (names ++ instance ∷ []) t notes rest result in
      let L : Live → Type 0 = λ l. Next ms (stage_of mid (Some doing) rest) (Says (line instance (end_word doing mid.config.outcome))) (record (stage_of mid None rest) { live = l }) in
      subst N kept.names (
      turn_after eyes ms s (stage_of mid (Some doing) rest) w (watch_of notes mid None None) (mid.names ++ instance ∷ []) t notes rest result (at doing Over is reaches)
      (settled_turn eyes ms (stage_of mid (Some doing) rest) mid t notes rest (line instance (end_word doing mid.config.outcome)) instance (number_after mid.config.outcome number) result said next
      (subst L live (over doing refl at_rest refl refl)) ready at_rest (λ n h. number_within mid.config.outcome number (length mid.config.store.instances) n there_now h)))

  pub call_over : {E : Type 0} (instance export : List ℕ) (t : Run) (result : Result Turn E) (head : List ℕ) → head ≡ call_head instance export → ending ≡ Over → Came (Calling instance export) →
      OnOk result (Said mid t (line head (end_word (Calling instance export) mid.config.outcome))) → IfOk result (λ x. x ≡ turn.Next) →
      TurnAnswers eyes ms s w old.names t notes rest result
  call_over instance export t result head same is reaches said next =
      let H : List ℕ → Type 0 = λ h. OnOk result (Said mid t (line h (end_word (Calling instance export) mid.config.outcome))) in
      let doing = Calling instance export in
      let at_rest = at_rest_so mid.config.outcome (subst (EndsAs mid) is ends) in
      turn_after eyes ms s (stage_of mid (Some doing) rest) w (watch_of notes mid None None) old.names t notes rest result (at doing Over is reaches)
      (next_turn eyes ms (stage_of mid (Some doing) rest) old.names mid t notes rest (line (call_head instance export) (end_word doing mid.config.outcome)) result (subst H same said) next
      (over doing refl at_rest refl refl) ready at_rest kept.names)
