-- How an action begins.
use Rattle.std.proofs.Common.{◌≡◌, ℕ, ◌<◌, true, false, List, [], ◌∷◌, ◌++◌, length, Option, Some, None, Result, Ok, Err, codes, refl, subst}
use Rattle.std.specs.Prelude.{OnOk, IfOk}
use Rattle.wasm_values.specs.declared.number.Val.{Val}
use Rattle.wasm_syntax.specs.declared.module.Module.{Module}
use Rattle.wasm_store.specs.declared.store.Extern.{Extern}
use Rattle.wasm_sessions.specs.Instantiation.{IsAtRest}
use Rattle.module_instances.specs.declared.faults.InstFault.{InstFault}
use Rattle.module_instances.specs.declared.faults.InstFault.TheVariants as inst
use Rattle.module_instances.specs.Answers.{IsRefusedFor}
use Rattle.wasm_instantiate.specs.Observers.{Eyes}
use Rattle.wasm_instantiate.specs.Answers.{IsNoFunction, ArgumentsDiffer}
use Rattle.script_text.specs.declared.script.Origin.{Origin}
use Rattle.script_text.specs.declared.script.Action.{Action}
use Rattle.script_text.specs.declared.script.Action.TheVariants.{New, Call}
use Rattle.wasm_link.specs.declared.run.Run.{Run}
use Rattle.wasm_link.specs.declared.run.Turn.{Turn}
use Rattle.wasm_link.specs.declared.run.Turn.TheVariants as turn
use Rattle.wasm_link.specs.Lines.{line, call_head, refusal_word}
use Rattle.wasm_link.specs.Stages.{the_policy, live_number, export_named_by, are_live, externs_from, Modules, module_named, new_absent, new_refused, new_limited, call_absent, call_no_function, call_arguments}
use Rattle.wasm_link.specs.words.{Ready, Said, Settled, RefusedSo, TurnAnswers, stage_of, watch_of, live_of}
use Rattle.wasm_link.proofs.Turning.{left_here, ended_turn, next_turn, settled_turn}

nothing_within : (bound n : ℕ) → ◌≡◌ {A = Option ℕ} None (Some n) → n < bound
nothing_within bound n h = absurd cc

module _ {O : Type 0} (eyes : Eyes O) (ms : Modules) (r t : Run) (notes : O) (rest : List Action) (ready : Ready r) (at_rest : IsAtRest r.config.outcome) where
  -- ---- `new`

  pub absent_turn : {E : Type 0} (i m : List ℕ) (from : List Origin) (result : Result Turn E) → are_live (live_of r) from ≡ false →
      OnOk result (Settled r t (line i (codes "absent")) i None) → IfOk result (λ x. x ≡ turn.Next) →
      TurnAnswers eyes ms (stage_of r None (New i m from ∷ rest)) (watch_of notes r None None) (r.names ++ i ∷ []) t notes rest result
  absent_turn i m from result dead said next =
      settled_turn eyes ms (stage_of r None (New i m from ∷ rest)) r t notes rest (line i (codes "absent")) i None result said next
      (new_absent i m from rest refl refl dead refl refl) ready at_rest (nothing_within (length r.config.store.instances))

  pub refused_turn : {E : Type 0} (i m : List ℕ) (from : List Origin) (externs : List Extern) («module» : Module) (fault : InstFault) (result : Result Turn E) →
      are_live (live_of r) from ≡ true → externs_from r.config.store (live_of r) [] from ≡ Ok externs → module_named ms m ≡ Some «module» →
      IsRefusedFor the_policy r.config.store «module» externs fault → IfOk result (RefusedSo r t i fault) →
      TurnAnswers eyes ms (stage_of r None (New i m from ∷ rest)) (watch_of notes r None None) (r.names ++ i ∷ []) t notes rest result
  refused_turn i m from externs «module» fault (Err e) live looked named refused said = left_here eyes ms (stage_of r None (New i m from ∷ rest)) (watch_of notes r None None)
  refused_turn i m from externs «module» fault (Ok turn.Next) live looked named refused said =
      settled_turn {E = Unit {0}} eyes ms (stage_of r None (New i m from ∷ rest)) r t notes rest (line i (refusal_word fault)) i None (Ok turn.Next) said.1 refl
      (new_refused i m from rest externs «module» fault refl refl live looked named refused said.0 refl refl) ready at_rest (nothing_within (length r.config.store.instances))
  refused_turn i m from externs «module» fault (Ok turn.Ended) live looked named refused said =
      let is : IsRefusedFor the_policy r.config.store «module» externs inst.Limit = subst (IsRefusedFor the_policy r.config.store «module» externs) said.0 refused in
      ended_turn {E = Unit {0}} eyes ms (stage_of r None (New i m from ∷ rest)) (r.names ++ i ∷ []) r t notes rest (line i (codes "limit")) (Ok turn.Ended) said.1 refl
      (new_limited i m from rest externs «module» refl refl live looked named is refl refl)
  refused_turn i m from externs «module» fault (Ok (turn.Seen n)) live looked named refused said = absurd said
  refused_turn i m from externs «module» fault (Ok (turn.Lacks at)) live looked named refused said = absurd said

  -- ---- `call`

  pub missed_turn : {E : Type 0} (i x : List ℕ) (at : ℕ) (args : List Val) (result : Result Turn E) → live_number (live_of r) i ≡ None →
      OnOk result (Said r t (line (call_head i x) (codes "absent"))) → IfOk result (λ x. x ≡ turn.Next) →
      TurnAnswers eyes ms (stage_of r None (Call i x at args ∷ rest)) (watch_of notes r None None) r.names t notes rest result
  missed_turn i x at args result dead said next =
      next_turn eyes ms (stage_of r None (Call i x at args ∷ rest)) r.names r t notes rest (line (call_head i x) (codes "absent")) result said next
      (call_absent i x at args rest refl refl dead refl refl) ready at_rest refl

  pub no_function_turn : {E : Type 0} (i x : List ℕ) (at : ℕ) (args : List Val) (e : Extern) (head : List ℕ) (result : Result Turn E) → head ≡ call_head i x →
      export_named_by r.config.store (live_of r) i x ≡ Some e → IsNoFunction e → OnOk result (Said r t (line head (codes "function"))) → IfOk result (λ x. x ≡ turn.Next) →
      TurnAnswers eyes ms (stage_of r None (Call i x at args ∷ rest)) (watch_of notes r None None) r.names t notes rest result
  no_function_turn i x at args e head result same there is said next =
      let H : List ℕ → Type 0 = λ h. OnOk result (Said r t (line h (codes "function"))) in
      next_turn eyes ms (stage_of r None (Call i x at args ∷ rest)) r.names r t notes rest (line (call_head i x) (codes "function")) result (subst H same said) next
      (call_no_function i x at args rest e refl refl there is refl refl) ready at_rest refl

  pub arguments_turn : {E : Type 0} (i x : List ℕ) (at : ℕ) (args : List Val) (e : Extern) (head : List ℕ) (result : Result Turn E) → head ≡ call_head i x →
      export_named_by r.config.store (live_of r) i x ≡ Some e → ArgumentsDiffer r.config.store e args → OnOk result (Said r t (line head (codes "arguments"))) → IfOk result (λ x. x ≡ turn.Next) →
      TurnAnswers eyes ms (stage_of r None (Call i x at args ∷ rest)) (watch_of notes r None None) r.names t notes rest result
  arguments_turn i x at args e head result same there differ said next =
      let H : List ℕ → Type 0 = λ h. OnOk result (Said r t (line h (codes "arguments"))) in
      next_turn eyes ms (stage_of r None (Call i x at args ∷ rest)) r.names r t notes rest (line (call_head i x) (codes "arguments")) result (subst H same said) next
      (call_arguments i x at args rest e refl refl there differ refl refl) ready at_rest refl
