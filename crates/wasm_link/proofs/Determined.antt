-- From each stage one event leads to one next stage.
use Rattle.std.proofs.Common.{◌≡◌, ◌⊎◌, inl, inr, ℕ, zero, suc, Bool, true, false, List, [], ◌∷◌, length, Option, Some, None, Result, Ok, Err, IsTrue, codes, refl, sym, ap, subst, ◌∙◌}
use Rattle.wasm_values.specs.declared.number.Val.{Val}
use Rattle.wasm_syntax.specs.declared.module.Module.{Module}
use Rattle.wasm_store.specs.declared.config.Outcome.{Outcome}
use Rattle.wasm_store.specs.declared.config.Outcome.TheVariants.{Running, Done, Trapped}
use Rattle.wasm_store.specs.declared.store.Extern.{Extern}
use Rattle.wasm_store.specs.Configuration.{Configuration}
use Rattle.wasm_reduce.specs.Policies.{PolicyStep, PassesFrames, grows_next}
use Rattle.wasm_reduce.proofs.Determined.{determined}
use Rattle.wasm_sessions.specs.Instantiation.{Instantiated, Invoked, allocated, IsAtRest}
use Rattle.module_instances.specs.declared.faults.InstFault.{InstFault}
use Rattle.module_instances.specs.declared.faults.InstFault.TheVariants as inst
use Rattle.module_instances.specs.Refusals.{is_within_limits}
use Rattle.module_instances.specs.Answers.{IsRefusedFor}
use Rattle.wasm_instantiate.specs.Answers.{IsNoFunction, ArgumentsDiffer}
use Rattle.script_text.specs.declared.script.Origin.{Origin}
use Rattle.script_text.specs.declared.script.Action.{Action}
use Rattle.script_text.specs.declared.script.Action.TheVariants.{New, Call}
use Rattle.wasm_link.specs.Lines.{Doing, Making, Calling, new_head, call_head, head_of, line, end_word, refusal_word}
use Rattle.wasm_link.specs.Stages.{the_policy, live_number, export_at, export_named_by, are_live, externs_from, Modules, module_named, Stage, ended, unmade, passed, begun, live_after, Event, Says, Lacks, Makes, Enters, Steps, IsPassed, Next, new_absent, new_lacks, new_refused, new_limited, new_made, call_absent, call_lacks, call_no_function, call_arguments, call_entered, stopped, frames_passed, stepped, over}
use Rattle.wasm_link.proofs.Moments.{inner}
use Rattle.wasm_link.proofs.Refusals.{made_once, invoked_once, invoked_is_function, arguments_of_function, invoked_takes, refused_once, made_not_refused, IsOwn}

-- an event and the stage that it leads to
abbrev pub Way : Type 0
Way = Event × Stage

-- at most one
abbrev Once : (Way → Type 0) → Type 0
Once P = (v w : Way) → P v → P w → v ≡ w

is_once : (way : Way) → Once (λ v. v ≡ way)
is_once way v w a b = a ∙ sym b

-- ---- what leads on from a stage, read off from its parts

abbrev refused_way : Stage → List ℕ → List Action → InstFault → Way
refused_way s i rest inst.Limit = (Says (line (new_head i) (codes "limit")), ended s)
refused_way s i rest fault = (Says (line (new_head i) (refusal_word fault)), unmade s i rest)

module _ (ms : Modules) (s : Stage) where
  abbrev OfInstance : List ℕ → List Action → List Extern → Module → Way → Type 0
  OfInstance i rest externs m w =
      ((fault : InstFault) × IsOwn s.config.store m externs fault × IsRefusedFor the_policy s.config.store m externs fault × (w ≡ refused_way s i rest fault)) ⊎
      ((d : Configuration) × Instantiated s.config m externs d × IsTrue (is_within_limits the_policy (allocated s.config.store m externs))
      × (w ≡ (Makes i (length s.config.store.instances) m d, begun s d (Making i (length s.config.store.instances)) rest)))

  abbrev OfNew : List ℕ → List Action → Bool → Result (List Extern) ℕ → Option Module → Way → Type 0
  OfNew i rest false looked named w = w ≡ (Says (line (new_head i) (codes "absent")), unmade s i rest)
  OfNew i rest true (Err at) named w = w ≡ (Lacks at, ended s)
  OfNew i rest true (Ok externs) None w = ⊥
  OfNew i rest true (Ok externs) (Some m) w = OfInstance i rest externs m w

  abbrev OfExtern : (i x : List ℕ) → List Val → List Action → Extern → Way → Type 0
  OfExtern i x args rest e w =
      (IsNoFunction e × (w ≡ (Says (line (call_head i x) (codes "function")), passed s rest))) ⊎
      ((ArgumentsDiffer s.config.store e args × (w ≡ (Says (line (call_head i x) (codes "arguments")), passed s rest))) ⊎
      ((d : Configuration) × Invoked s.config e args d × (w ≡ (Enters d, begun s d (Calling i x) rest))))

  abbrev OfExport : (i x : List ℕ) → ℕ → List Val → List Action → Option Extern → Way → Type 0
  OfExport i x at args rest None w = w ≡ (Lacks at, ended s)
  OfExport i x at args rest (Some e) w = OfExtern i x args rest e w

  abbrev OfCall : (i x : List ℕ) → ℕ → List Val → List Action → Option ℕ → Way → Type 0
  OfCall i x at args rest None w = w ≡ (Says (line (call_head i x) (codes "absent")), passed s rest)
  OfCall i x at args rest (Some number) w = OfExport i x at args rest (export_at s.config.store x number) w

  abbrev OfTodo : List Action → Way → Type 0
  OfTodo [] w = ⊥
  OfTodo (New i m from ∷ rest) w = OfNew i rest (are_live s.live from) (externs_from s.config.store s.live [] from) (module_named ms m) w
  OfTodo (Call i x at args ∷ rest) w = OfCall i x at args rest (live_number s.live i) w

  abbrev OfStep : Doing → ℕ → Way → Type 0
  OfStep doing zero w = w ≡ (Says (line (head_of doing) (codes "stopped")), ended s)
  OfStep doing (suc n) w =
      (PassesFrames the_policy s.config × (w ≡ (Says (line (head_of doing) (codes "limit")), ended s))) ⊎
      ((PassesFrames the_policy s.config → ⊥) × ((d : Configuration) × PolicyStep the_policy s.config d × (w ≡ (Steps d, record s { config = d; left = n }))))

  abbrev OfRest : Doing → Outcome → Way → Type 0
  OfRest doing outcome w = w ≡ (Says (line (head_of doing) (end_word doing outcome)), record s { live = live_after s.live doing outcome; doing = None })

  abbrev OfRun : Doing → Outcome → ℕ → Way → Type 0
  OfRun doing Running left w = OfStep doing left w
  OfRun doing (Done values) left w = OfRest doing (Done values) w
  OfRun doing Trapped left w = OfRest doing Trapped w

  abbrev OfStage : Option Doing → Way → Type 0
  OfStage None w = OfTodo s.todo w
  OfStage (Some doing) w = OfRun doing s.config.outcome s.left w

  -- ---- each rule leads so

  waiting : (w : Way) (actions : List Action) → s.doing ≡ None → s.todo ≡ actions → OfTodo actions w → OfStage s.doing w
  waiting w actions none todo h =
      let D : Option Doing → Type 0 = λ d. OfStage d w in
      let T : List Action → Type 0 = λ l. OfTodo l w in
      subst D (sym none) (subst T (sym todo) h)

  looked_so : (w : Way) (i m : List ℕ) (from : List Origin) (rest : List Action) (live : Bool) (looked : Result (List Extern) ℕ) (named : Option Module) →
      are_live s.live from ≡ live → externs_from s.config.store s.live [] from ≡ looked → module_named ms m ≡ named → OfNew i rest live looked named w → OfTodo (New i m from ∷ rest) w
  looked_so w i m from rest live looked named a b c h =
      let P : Bool × Result (List Extern) ℕ × Option Module → Type 0 = λ x. OfNew i rest x.0 x.1 x.2 w in
      let a' = sym a in let b' = sym b in let c' = sym c in
      subst P (λ k. (a' k, b' k, c' k)) h

  refused_so : (w : Way) (i : List ℕ) (rest : List Action) (fault : InstFault) → IsPassed fault → w ≡ (Says (line (new_head i) (refusal_word fault)), unmade s i rest) → w ≡ refused_way s i rest fault
  refused_so w i rest inst.Count p h = h
  refused_so w i rest (inst.Mismatch k) p h = h
  refused_so w i rest inst.Bounds p h = h
  refused_so w i rest inst.Limit p h = absurd p
  refused_so w i rest inst.OutOfMemory p h = absurd p

  own_so : (m : Module) (externs : List Extern) (fault : InstFault) → IsPassed fault → IsOwn s.config.store m externs fault
  own_so m externs inst.Count p = tt
  own_so m externs (inst.Mismatch k) p = tt
  own_so m externs inst.Bounds p = tt
  own_so m externs inst.Limit p = absurd p
  own_so m externs inst.OutOfMemory p = absurd p

  limited_so : (w : Way) (i : List ℕ) (rest : List Action) → w ≡ (Says (line (new_head i) (codes "limit")), ended s) → w ≡ refused_way s i rest inst.Limit
  limited_so w i rest h = h

  called_so : (w : Way) (i x : List ℕ) (at : ℕ) (args : List Val) (rest : List Action) (e : Extern) → export_named_by s.config.store s.live i x ≡ Some e → OfExtern i x args rest e w → OfTodo (Call i x at args ∷ rest) w
  called_so w i x at args rest e named h =
      let n = inner (export_at s.config.store x) (live_number s.live i) e named in
      let C : Option ℕ → Type 0 = λ o. OfCall i x at args rest o w in
      let E : Option Extern → Type 0 = λ o. OfExport i x at args rest o w in
      subst C (sym n.1) (subst E (sym n.2) h)

  doing_so : (w : Way) (doing : Doing) → s.doing ≡ Some doing → OfRun doing s.config.outcome s.left w → OfStage s.doing w
  doing_so w doing is h = let D : Option Doing → Type 0 = λ d. OfStage d w in subst D (sym is) h

  running_so : (w : Way) (doing : Doing) (left : ℕ) → s.config.outcome ≡ Running → s.left ≡ left → OfStep doing left w → OfRun doing s.config.outcome s.left w
  running_so w doing left running is h =
      let P : Outcome × ℕ → Type 0 = λ x. OfRun doing x.0 x.1 w in
      let a = sym running in let b = sym is in
      subst P (λ k. (a k, b k)) h

  rest_so : (w : Way) (doing : Doing) (outcome : Outcome) (left : ℕ) → IsAtRest outcome → OfRest doing outcome w → OfRun doing outcome left w
  rest_so w doing Running left at_rest h = absurd at_rest
  rest_so w doing (Done values) left at_rest h = h
  rest_so w doing Trapped left at_rest h = h

  way : (e : Event) (t : Stage) → Next ms s e t → OfStage s.doing (e, t)
  way e t (new_absent i m from rest a b live is after) =
      waiting (e, t) _ a b (looked_so (e, t) i m from rest false _ _ live refl refl (λ k. (is k, after k)))
  way e t (new_lacks i m from rest at a b live looked is after) =
      waiting (e, t) _ a b (looked_so (e, t) i m from rest true (Err at) _ live looked refl (λ k. (is k, after k)))
  way e t (new_refused i m from rest externs md fault a b live looked named refused own is after) =
      waiting (e, t) _ a b (looked_so (e, t) i m from rest true (Ok externs) (Some md) live looked named (inl (fault, own_so md externs fault own, refused, refused_so (e, t) i rest fault own (λ k. (is k, after k)))))
  way e t (new_limited i m from rest externs md a b live looked named refused is after) =
      waiting (e, t) _ a b (looked_so (e, t) i m from rest true (Ok externs) (Some md) live looked named (inl (inst.Limit, tt, refused, limited_so (e, t) i rest (λ k. (is k, after k)))))
  way e t (new_made i m from rest externs md d a b live looked named made within is after) =
      waiting (e, t) _ a b (looked_so (e, t) i m from rest true (Ok externs) (Some md) live looked named (inr (d, made, within, λ k. (is k, after k))))
  way e t (call_absent i x at args rest a b dead is after) =
      let C : Option ℕ → Type 0 = λ o. OfCall i x at args rest o (e, t) in
      waiting (e, t) _ a b (subst C (sym dead) (λ k. (is k, after k)))
  way e t (call_lacks i x at args rest number a b there lacks is after) =
      let C : Option ℕ → Type 0 = λ o. OfCall i x at args rest o (e, t) in
      let E : Option Extern → Type 0 = λ o. OfExport i x at args rest o (e, t) in
      waiting (e, t) _ a b (subst C (sym there) (subst E (sym lacks) (λ k. (is k, after k))))
  way e t (call_no_function i x at args rest extern a b named no_func is after) =
      waiting (e, t) _ a b (called_so (e, t) i x at args rest extern named (inl (no_func, λ k. (is k, after k))))
  way e t (call_arguments i x at args rest extern a b named differ is after) =
      waiting (e, t) _ a b (called_so (e, t) i x at args rest extern named (inr (inl (differ, λ k. (is k, after k)))))
  way e t (call_entered i x at args rest extern d a b named invoked is after) =
      waiting (e, t) _ a b (called_so (e, t) i x at args rest extern named (inr (inr (d, invoked, λ k. (is k, after k)))))
  way e t (stopped doing a running left is after) = doing_so (e, t) doing a (running_so (e, t) doing zero running left (λ k. (is k, after k)))
  way e t (frames_passed doing n a running left passes is after) = doing_so (e, t) doing a (running_so (e, t) doing (suc n) running left (inl (passes, λ k. (is k, after k))))
  way e t (stepped doing n d a running left passes step is after) = doing_so (e, t) doing a (running_so (e, t) doing (suc n) running left (inr (passes, (d, step, λ k. (is k, after k)))))
  way e t (over doing a at_rest is after) = doing_so (e, t) doing a (rest_so (e, t) doing s.config.outcome s.left at_rest (λ k. (is k, after k)))

  -- ---- and there is one way at most

  instance_once : (i : List ℕ) (rest : List Action) (externs : List Extern) (m : Module) → Once (OfInstance i rest externs m)
  instance_once i rest externs m v w (inl a) (inl b) =
      a.3 ∙ ap (refused_way s i rest) (refused_once s.config.store m externs a.0 b.0 a.1 b.1 a.2 b.2) ∙ sym b.3
  instance_once i rest externs m v w (inl a) (inr b) = absurd (made_not_refused s.config.store m externs s.config b.0 a.0 refl a.1 a.2 b.1 b.2)
  instance_once i rest externs m v w (inr a) (inl b) = absurd (made_not_refused s.config.store m externs s.config a.0 b.0 refl b.1 b.2 a.1 a.2)
  instance_once i rest externs m v w (inr a) (inr b) =
      let W : Configuration → Way = λ d. (Makes i (length s.config.store.instances) m d, begun s d (Making i (length s.config.store.instances)) rest) in
      a.3 ∙ ap W (made_once s.config a.0 b.0 m externs a.1 b.1) ∙ sym b.3

  new_once : (i : List ℕ) (rest : List Action) (live : Bool) (looked : Result (List Extern) ℕ) (named : Option Module) → Once (OfNew i rest live looked named)
  new_once i rest false looked named v w a b = a ∙ sym b
  new_once i rest true (Err at) named v w a b = a ∙ sym b
  new_once i rest true (Ok externs) None v w a b = absurd a
  new_once i rest true (Ok externs) (Some m) v w a b = instance_once i rest externs m v w a b

  extern_once : (i x : List ℕ) (args : List Val) (rest : List Action) (e : Extern) → Once (OfExtern i x args rest e)
  extern_once i x args rest e v w (inl a) (inl b) = a.1 ∙ sym b.1
  extern_once i x args rest e v w (inl a) (inr (inl b)) = absurd (arguments_of_function s.config.store e args b.0 a.0)
  extern_once i x args rest e v w (inl a) (inr (inr b)) = absurd (invoked_is_function s.config b.0 e args b.1 a.0)
  extern_once i x args rest e v w (inr (inl a)) (inl b) = absurd (arguments_of_function s.config.store e args a.0 b.0)
  extern_once i x args rest e v w (inr (inl a)) (inr (inl b)) = a.1 ∙ sym b.1
  extern_once i x args rest e v w (inr (inl a)) (inr (inr b)) = absurd (invoked_takes s.config b.0 e args b.1 a.0)
  extern_once i x args rest e v w (inr (inr a)) (inl b) = absurd (invoked_is_function s.config a.0 e args a.1 b.0)
  extern_once i x args rest e v w (inr (inr a)) (inr (inl b)) = absurd (invoked_takes s.config a.0 e args a.1 b.0)
  extern_once i x args rest e v w (inr (inr a)) (inr (inr b)) =
      let W : Configuration → Way = λ d. (Enters d, begun s d (Calling i x) rest) in
      a.2 ∙ ap W (invoked_once s.config a.0 b.0 e args a.1 b.1) ∙ sym b.2

  export_once : (i x : List ℕ) (at : ℕ) (args : List Val) (rest : List Action) (o : Option Extern) → Once (OfExport i x at args rest o)
  export_once i x at args rest None v w a b = a ∙ sym b
  export_once i x at args rest (Some e) v w a b = extern_once i x args rest e v w a b

  call_once : (i x : List ℕ) (at : ℕ) (args : List Val) (rest : List Action) (o : Option ℕ) → Once (OfCall i x at args rest o)
  call_once i x at args rest None v w a b = a ∙ sym b
  call_once i x at args rest (Some n) v w a b = export_once i x at args rest (export_at s.config.store x n) v w a b

  todo_once : (actions : List Action) → Once (OfTodo actions)
  todo_once [] v w a b = absurd a
  todo_once (New i m from ∷ rest) v w a b = new_once i rest (are_live s.live from) (externs_from s.config.store s.live [] from) (module_named ms m) v w a b
  todo_once (Call i x at args ∷ rest) v w a b = call_once i x at args rest (live_number s.live i) v w a b

  step_once : (doing : Doing) (left : ℕ) → Once (OfStep doing left)
  step_once doing zero v w a b = a ∙ sym b
  step_once doing (suc n) v w (inl a) (inl b) = a.1 ∙ sym b.1
  step_once doing (suc n) v w (inl a) (inr b) = absurd (b.0 a.0)
  step_once doing (suc n) v w (inr a) (inl b) = absurd (a.0 b.0)
  step_once doing (suc n) v w (inr a) (inr b) =
      let W : Configuration → Way = λ d. (Steps d, record s { config = d; left = n }) in
      a.1.2 ∙ ap W (determined (grows_next the_policy s.config.store s.config.frames) s.config a.1.0 b.1.0 a.1.1 b.1.1) ∙ sym b.1.2

  run_once : (doing : Doing) (outcome : Outcome) (left : ℕ) → Once (OfRun doing outcome left)
  run_once doing Running left v w a b = step_once doing left v w a b
  run_once doing (Done values) left v w a b = a ∙ sym b
  run_once doing Trapped left v w a b = a ∙ sym b

  stage_once : (doing : Option Doing) → Once (OfStage doing)
  stage_once None v w a b = todo_once s.todo v w a b
  stage_once (Some doing) v w a b = run_once doing s.config.outcome s.left v w a b

  pub next_once : (e f : Event) (t u : Stage) → Next ms s e t → Next ms s f u → ◌≡◌ {A = Way} (e, t) (f, u)
  next_once e f t u a b = stage_once s.doing (e, t) (f, u) (way e t a) (way f u b)

  pub no_next : (e : Event) (t : Stage) → s.doing ≡ None → s.todo ≡ [] → Next ms s e t → ⊥
  no_next e t none nothing a =
      let D : Option Doing → Type 0 = λ d. OfStage d (e, t) in
      let T : List Action → Type 0 = λ l. OfTodo l (e, t) in
      subst T nothing (subst D none (way e t a))
