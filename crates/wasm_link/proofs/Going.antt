-- Scripts go on to their end.
use Rattle.std.proofs.Common.{◌≡◌, ◌⊎◌, inl, inr, ℕ, zero, suc, ◌<◌, Bool, true, false, IsTrue, All, List, [], ◌∷◌, map, length, Option, Some, None, is_some, cond, Result, Ok, Err, slice_get, slice_index, reverse, codes, refl, sym, ap, subst, ◌∙◌, arith}
use Rattle.std.specs.Prelude.{option_and_then, nat_lt, IfSome}
use Rattle.std.specs.List.{position_or_len}
use Rattle.std.specs.Str.{bytes_eq}
use Rattle.std.proofs.Common.{ltb-true}
use Rattle.std.proofs.lemmas.Bool.{cases_order}
use Rattle.std.proofs.lemmas.List.Elements.{All-nil}
use Rattle.wasm_values.specs.declared.number.Val.{Val}
use Rattle.wasm_values.specs.Types.{are_same_types}
use Rattle.wasm_values.proofs.TypeLaws.{types-eq, types-refl}
use Rattle.wasm_syntax.specs.declared.module.Module.{Module}
use Rattle.wasm_syntax.specs.declared.module.FuncType.{FuncType}
use Rattle.wasm_syntax.specs.declared.module.Import.{Import}
use Rattle.wasm_syntax.specs.declared.module.Elem.{Elem}
use Rattle.wasm_syntax.specs.declared.module.Segment.{Segment}
use Rattle.wasm_syntax.specs.Trees.{sequence_of}
use Rattle.wasm_typing.specs.Valid.{Valid, ValInRange, StartValid, ElemValid, IsWord, SequenceInRange, BytesInRange, func_types_of, funcs_of}
use Rattle.wasm_store.specs.declared.config.Outcome.{Outcome}
use Rattle.wasm_store.specs.declared.config.Outcome.TheVariants.{Running, Done, Trapped}
use Rattle.wasm_store.specs.declared.store.FuncInst.{FuncInst}
use Rattle.wasm_store.specs.declared.store.FuncInst.TheVariants.{Code, Host}
use Rattle.wasm_store.specs.declared.store.Instance.{Instance}
use Rattle.wasm_store.specs.declared.store.Extern.{Extern}
use Rattle.wasm_store.specs.declared.store.Extern.TheVariants.{Func, Table, Memory, Global}
use Rattle.wasm_store.specs.declared.store.Store.{Store}
use Rattle.wasm_store.specs.Configuration.{Layer, OfCode, OfHost, Configuration, started}
use Rattle.wasm_store.specs.Control.{type_of_inst, IsFrameOf, entered}
use Rattle.wasm_store.specs.Seen.{func_in, func_of}
use Rattle.wasm_store.proofs.StepLaws.{step_keeps}
use Rattle.type_safety.specs.Shapes.{shape_of, func_type_at, types, HaveTypes}
use Rattle.type_safety.specs.Stores.{StoreTyped, FuncInstTyped}
use Rattle.type_safety.specs.Frames.{LayersTyped}
use Rattle.type_safety.specs.Typed.{Typed, OutcomeTyped}
use Rattle.type_safety.specs.Safety.{HasCodeOnTop}
use Rattle.type_safety.proofs.Lists.{of_get, get-map, of_option_map, all-get}
use Rattle.type_safety.proofs.Progressing.{progress}
use Rattle.type_safety.proofs.Preserving.{preservation}
use Rattle.wasm_reduce.specs.Policies.{PolicyStep, PassesFrames, grows_next}
use Rattle.wasm_reduce.proofs.Choices.{policy_has_step}
use Rattle.wasm_reduce.proofs.Counts.{passes_not, passes_not_within}
use Rattle.wasm_sessions.specs.Matching.{MatchImports, does_match}
use Rattle.wasm_sessions.specs.Instantiation.{IsAtRest, made_instance, allocated, initialized, segments_fit, func_addresses, Starts, Instantiated, Invoked, alone}
use Rattle.wasm_sessions.proofs.Extending.{all-map}
use Rattle.wasm_sessions.proofs.Allocating.{slice_index-is, funcs_image, func_at_index, allocated_typed}
use Rattle.wasm_sessions.proofs.Initializing.{initialized_typed, Kept}
use Rattle.wasm_sessions.proofs.Instantiating.{instantiated_typed}
use Rattle.wasm_sessions.proofs.HostLaws.{pool_exists, invoked_typed}
use Rattle.module_instances.specs.declared.faults.InstFault.{InstFault}
use Rattle.module_instances.specs.declared.faults.InstFault.TheVariants as inst
use Rattle.module_instances.specs.Refusals.{is_within_limits}
use Rattle.module_instances.specs.Answers.{IsRefusedFor}
use Rattle.wasm_instantiate.specs.Answers.{IsNoFunction, ArgumentsDiffer}
use Rattle.script_text.specs.declared.script.Origin.{Origin}
use Rattle.script_text.specs.declared.script.Action.{Action}
use Rattle.script_text.specs.declared.script.Action.TheVariants.{New, Call}
use Rattle.script_text.specs.Names.{place_in, is_among}
use Rattle.wasm_link.specs.Lines.{Doing, Making, Calling, new_head, call_head, head_of, line, end_word, refusal_word}
use Rattle.wasm_link.specs.Stages.{the_policy, live_number, export_at, export_named_by, are_live, externs_from, Modules, module_named, Stage, ended, unmade, passed, begun, live_after, IsOver, Event, Says, Lacks, Makes, Enters, Steps, IsPassed, Next, Goes, new_absent, new_lacks, new_refused, new_limited, new_made, call_absent, call_lacks, call_no_function, call_arguments, call_entered, stopped, frames_passed, stepped, over}
use Rattle.wasm_link.specs.words.{HasNoHosts}
use Rattle.wasm_link.proofs.Moments.{looked_up}
use Rattle.wasm_link.proofs.Readying.{initialized_same, no_hosts_made, invoked_store}
use Rattle.wasm_link.proofs.Spelled.{AreFine}

within_some : {A : Type 0} (xs : List A) (n : ℕ) → n < length xs → (x : A) × (slice_get xs n ≡ Some x)
within_some [] n h = absurd (omega (arith, h))
within_some (x ∷ xs) zero h = (x, refl)
within_some (x ∷ xs) (suc n) h = within_some xs n (omega (arith, h))

never : true ≡ false → ⊥
never e = cc

-- ---- machine

-- What stages keep.
pub record Fit (c : Configuration) : Type 0 where
  pub typed : Typed c
  pub no_hosts : HasNoHosts c.store

code_on_top : (s : Store) (frames : List Layer) (o : Outcome) → HasNoHosts s → OutcomeTyped o frames → o ≡ Running → LayersTyped (shape_of s) frames [] → HasCodeOnTop frames
code_on_top s [] Running none typed is layers = typed
code_on_top s [] (Done values) none typed is layers = absurd cc
code_on_top s [] Trapped none typed is layers = absurd cc
code_on_top s (OfCode f ∷ below) o none typed is layers = tt
code_on_top s (OfHost func args given ∷ below) o none typed is layers = none func layers.1.ty layers.1.func_there

has_step : (c : Configuration) → Fit c → c.outcome ≡ Running → (d : Configuration) × PolicyStep the_policy c d
has_step c fit running =
    let d = progress c fit.typed running (code_on_top c.store c.frames c.outcome fit.no_hosts fit.typed.outcome running fit.typed.frames) in
    policy_has_step the_policy c d.0 d.1

step_fit : (c d : Configuration) → Fit c → PolicyStep the_policy c d → Fit d
step_fit c d fit step =
    let g = grows_next the_policy c.store c.frames in
    let kept = step_keeps c d (g, step) in
    record { typed = preservation c d fit.typed (g, step); no_hosts = λ a ty h. fit.no_hosts a ty (ap (λ (fs : List FuncInst). slice_get fs a) (sym kept.funcs) ∙ h) }

passes_or_not : (c : Configuration) → Fit c → c.outcome ≡ Running → PassesFrames the_policy c ⊎ ((PassesFrames the_policy c → ⊥) × ((d : Configuration) × PolicyStep the_policy c d))
passes_or_not c fit running =
    let d = has_step c fit running in
    elim (cases_order (length d.0.frames) 10000) [
      | inl same ↦ inr (passes_not_within the_policy c d.0 d.1 (omega (arith, same)), d)
      | inr other ↦ elim other [
        | inl less ↦ inr (passes_not_within the_policy c d.0 d.1 (omega (arith, less)), d)
        | inr more ↦ elim (cases_order (length c.frames) (length d.0.frames)) [
          | inl same ↦ inr (passes_not the_policy c d.0 d.1 (omega (arith, same)), d)
          | inr rest ↦ elim rest [
            | inl less ↦ inl (d.0, d.1, less, more)
            | inr fewer ↦ inr (passes_not the_policy c d.0 d.1 (omega (arith, fewer)), d)
          ]
        ]
      ]
    ]

frame_exists : (s : Store) → StoreTyped s → (a : ℕ) (args : List Val) (f : FuncInst) → slice_get s.funcs a ≡ Some f → (layer : Layer) × IsFrameOf s.instances a args f layer
frame_exists s typed a args f there = by f (all-get (FuncInstTyped (shape_of s)) s.funcs a f typed.funcs there)
  where
    by : (f : FuncInst) → FuncInstTyped (shape_of s) f → (layer : Layer) × IsFrameOf s.instances a args f layer
    by (Code ty instance code) h =
        let fn : func_of s.instances (Some (Code ty instance code)) ≡ Some h.1.fn = ap (λ o. func_in o code) h.1.inst_there ∙ h.1.fn_there in
        (OfCode (entered instance a (reverse args) h.1.fn), (h.1.fn, fn, refl))
    by (Host ty) h = (OfHost a args [], refl)

-- ---- instances

record FirstFalse {A B : Type 0} (p : A → B → Bool) (xs : List A) (ys : List B) : Type 0 where
  k : ℕ
  x : A
  there : slice_get xs k ≡ Some x
  y : B
  other : slice_get ys k ≡ Some y
  differs : p x y ≡ false
  before : (j : ℕ) (e : A) (i : B) → j < k → slice_get xs j ≡ Some e → slice_get ys j ≡ Some i → p e i ≡ true

search_false : {A B : Type 0} (p : A → B → Bool) (xs : List A) (ys : List B) → length xs ≡ length ys →
    FirstFalse p xs ys ⊎ ((k : ℕ) (e : A) (i : B) → slice_get xs k ≡ Some e → slice_get ys k ≡ Some i → p e i ≡ true)
search_false p [] [] same = inr (λ k e i a b. absurd cc)
search_false p [] (y ∷ ys) same = absurd (omega (arith, same))
search_false p (x ∷ xs) [] same = absurd (omega (arith, same))
search_false {A} {B} p (x ∷ xs) (y ∷ ys) same = by (p x y) refl (search_false p xs ys (omega (arith, same)))
  where
    pass : p x y ≡ true → ((k : ℕ) (e : A) (i : B) → slice_get xs k ≡ Some e → slice_get ys k ≡ Some i → p e i ≡ true) →
        (k : ℕ) (e : A) (i : B) → slice_get (x ∷ xs) k ≡ Some e → slice_get (y ∷ ys) k ≡ Some i → p e i ≡ true
    pass yes_so all zero e i a b =
        let xe : x ≡ e = cc in let yi : y ≡ i = cc in
        (λ z. p (sym xe z) (sym yi z)) ∙ yes_so
    pass yes_so all (suc k) e i a b = all k e i a b

    behind : (r : FirstFalse p xs ys) → p x y ≡ true → (j : ℕ) (e : A) (i : B) → j < suc r.k → slice_get (x ∷ xs) j ≡ Some e → slice_get (y ∷ ys) j ≡ Some i → p e i ≡ true
    behind r yes_so zero e i less a b =
        let xe : x ≡ e = cc in let yi : y ≡ i = cc in
        (λ z. p (sym xe z) (sym yi z)) ∙ yes_so
    behind r yes_so (suc j) e i less a b = r.before j e i (omega (arith, less)) a b

    by : (b : Bool) → p x y ≡ b → FirstFalse p xs ys ⊎ ((k : ℕ) (e : A) (i : B) → slice_get xs k ≡ Some e → slice_get ys k ≡ Some i → p e i ≡ true) →
        FirstFalse p (x ∷ xs) (y ∷ ys) ⊎ ((k : ℕ) (e : A) (i : B) → slice_get (x ∷ xs) k ≡ Some e → slice_get (y ∷ ys) k ≡ Some i → p e i ≡ true)
    by false is rest = inl (record { k = zero; x = x; there = refl; y = y; other = refl; differs = is; before = λ j e i less. absurd (omega (arith, less)) })
    by true is (inr all) = inr (pass is all)
    by true is (inl r) = inl (record { k = suc r.k; x = r.x; there = r.there; y = r.y; other = r.other; differs = r.differs; before = behind r is })

module _ (c : Configuration) (fit : Fit c) (at_rest : IsAtRest c.outcome) (m : Module) (valid : Valid m) (externs : List Extern) where
  abbrev one : Instance
  one = made_instance c.store m externs

  abbrev new : Store
  new = initialized (allocated c.store m externs) one m

  kept : MatchImports c.store m externs → IsTrue (segments_fit (allocated c.store m externs) one m) → Kept (allocated c.store m externs) new
  kept match fits =
      let s = c.store in
      let elems = all-map (ElemValid m) (λ (e : Elem). All (λ x. slice_index (func_addresses s m externs) x < length (shape_of (allocated s m externs)).funcs) e.funcs) m.elems (
      λ e v. all-map (λ x. x < length (func_types_of m)) (λ x. slice_index (func_addresses s m externs) x < length (shape_of (allocated s m externs)).funcs) e.funcs (func_at_index s fit.typed.store m valid externs match) v.2
      ) valid.parts.elems in
      let segments = all-map (λ (s : Segment). IsWord s.memory × SequenceInRange (sequence_of s.offset) × BytesInRange s.bytes) (λ (e : Segment). All (λ b. b < 256) e.bytes) m.segments (λ e v. v.2) valid.ranges.segments in
      initialized_typed (allocated s m externs) one m (allocated_typed s fit.typed.store m valid externs match) elems segments fits

  starts : MatchImports c.store m externs → Kept (allocated c.store m externs) new → (start : Option ℕ) → IfSome start (StartValid m) → (d : Configuration) × Starts new one start d
  starts match k None ok = (record { store = new; frames = []; outcome = Done [] }, refl)
  starts match k (Some x) ok =
      let empty : FuncType = record { params = []; results = [] } in
      let sh = shape_of (allocated c.store m externs) in
      let mapped : slice_get (map (func_type_at sh) (func_addresses c.store m externs)) x ≡ Some (Some empty) =
      ap (λ l. slice_get l x) (sym (funcs_image c.store fit.typed.store m valid externs match)) ∙ get-map (λ x. Some x) (funcs_of m) x empty ok in
      let a = of_get (func_type_at sh) (func_addresses c.store m externs) x (Some empty) mapped in
      let f = of_option_map type_of_inst (slice_get sh.funcs a.0) empty a.2 in
      let at : slice_index one.funcs x ≡ a.0 = slice_index-is (func_addresses c.store m externs) x a.0 a.1 in
      let there : slice_get new.funcs (slice_index one.funcs x) ≡ Some f.0 =
      ap (slice_get new.funcs) at ∙ ap (λ (fs : List FuncInst). slice_get fs a.0) (initialized_same one (allocated c.store m externs) m).funcs ∙ f.1 in
      let layer = frame_exists new k.store (slice_index one.funcs x) [] f.0 there in
      (alone new layer.0, (f.0, layer.0, there, layer.1, refl))

  -- what becomes of an instantiation
  data Becomes : Type 0 where
    passed_by : (fault : InstFault) → IsPassed fault → IsRefusedFor the_policy c.store m externs fault → Becomes
    limited : IsRefusedFor the_policy c.store m externs inst.Limit → Becomes
    instantiated_as : (d : Configuration) → Instantiated c m externs d → IsTrue (is_within_limits the_policy (allocated c.store m externs)) → Becomes

  becomes : Becomes
  becomes = by_count (cases_order (length externs) (length m.imports))
    where
      by_limits : MatchImports c.store m externs → IsTrue (segments_fit (allocated c.store m externs) one m) → (b : Bool) → is_within_limits the_policy (allocated c.store m externs) ≡ b → Becomes
      by_limits match fits false is = limited (match, fits, is)
      by_limits match fits true is =
          let d = starts match (kept match fits) m.start valid.parts.start in
          instantiated_as d.0 (record { at_rest = at_rest; matching = match; in_bounds = fits; starts = d.1 }) is

      by_segments : MatchImports c.store m externs → (b : Bool) → segments_fit (allocated c.store m externs) one m ≡ b → Becomes
      by_segments match false is = passed_by inst.Bounds tt (match, is)
      by_segments match true is = by_limits match is (is_within_limits the_policy (allocated c.store m externs)) refl

      by_match : length externs ≡ length m.imports →
          FirstFalse (λ (e : Extern) (i : Import). does_match c.store m.types e i.kind) externs m.imports ⊎ ((k : ℕ) (e : Extern) (i : Import) → slice_get externs k ≡ Some e → slice_get m.imports k ≡ Some i → does_match c.store m.types e i.kind ≡ true) → Becomes
      by_match same (inl r) =
          passed_by (inst.Mismatch r.k) tt (same, record { extern = r.x; extern_there = r.there; wanted = r.y; wanted_there = r.other; differs = r.differs; before = r.before })
      by_match same (inr all) = by_segments (record { count = same; each = all }) (segments_fit (allocated c.store m externs) one m) refl

      by_count : (length externs ≡ length m.imports) ⊎ ((length externs < length m.imports) ⊎ (length m.imports < length externs)) → Becomes
      by_count (inl same) = by_match same (search_false (λ (e : Extern) (i : Import). does_match c.store m.types e i.kind) externs m.imports same)
      by_count (inr (inl less)) = passed_by inst.Count tt (λ e. omega (arith, e, less))
      by_count (inr (inr more)) = passed_by inst.Count tt (λ e. omega (arith, e, more))

made_fit : (c d : Configuration) (m : Module) (externs : List Extern) → Valid m → Fit c → Instantiated c m externs d → Fit d
made_fit c d m externs valid fit made = record { typed = instantiated_typed c d m externs valid fit.typed made; no_hosts = no_hosts_made c d m externs made fit.no_hosts }

invoked_fit : (c d : Configuration) (e : Extern) (args : List Val) → Fit c → Invoked c e args d → Fit d
invoked_fit c d e args fit h =
    record { typed = invoked_typed c d e args fit.typed h; no_hosts = subst HasNoHosts (sym (invoked_store c d e args h)) fit.no_hosts }

-- ---- scripts

module _ (ms : Modules) (all_valid : (k : ℕ) (m : Module) → slice_get ms.modules k ≡ Some m → Valid m) (beside : length ms.modules ≡ length ms.names) where
  -- A stage from which a script comes to its end.
  pub record Ends (s : Stage) : Type 0 where
    pub events : List Event
    pub stage : Stage
    pub goes : Goes ms s events stage
    pub is_over : IsOver stage

  here : (s : Stage) → s.doing ≡ None → s.todo ≡ [] → Ends s
  here s a b = record { events = []; stage = s; goes = refl; is_over = record { nothing_begun = a; nothing_left = b } }

  more : (s t : Stage) (e : Event) → Next ms s e t → Ends t → Ends s
  more s t e next h = record { events = e ∷ h.events; stage = h.stage; goes = (t, next, h.goes); is_over = h.is_over }

  -- what comes after an action
  abbrev After : List Action → Type 0
  After rest = (t : Stage) → Fit t.config → IsAtRest t.config.outcome → t.doing ≡ None → t.todo ≡ rest → Ends t

  rests : (s : Stage) (doing : Doing) → Fit s.config → s.doing ≡ Some doing → After s.todo → IsAtRest s.config.outcome → Ends s
  rests s doing fit is after rest =
      let t = record s { live = live_after s.live doing s.config.outcome; doing = None } in
      more s t (Says (line (head_of doing) (end_word doing s.config.outcome))) (over doing is rest refl refl) (after t fit rest refl refl)

  run_out : (s : Stage) (doing : Doing) → Fit s.config → s.doing ≡ Some doing → s.left ≡ zero → After s.todo → (o : Outcome) → s.config.outcome ≡ o → Ends s
  run_out s doing fit is has after Running e = more s (ended s) (Says (line (head_of doing) (codes "stopped"))) (stopped doing is e has refl refl) (here (ended s) refl refl)
  run_out s doing fit is has after (Done values) e = rests s doing fit is after (subst IsAtRest (sym e) tt)
  run_out s doing fit is has after Trapped e = rests s doing fit is after (subst IsAtRest (sym e) tt)

  run_step : (s : Stage) (doing : Doing) (n : ℕ) → Fit s.config → s.doing ≡ Some doing → s.left ≡ suc n → After s.todo → ((d : Configuration) → Fit d → Ends (record s { config = d; left = n })) → (o : Outcome) → s.config.outcome ≡ o → Ends s
  run_step s doing n fit is has after again (Done values) e = rests s doing fit is after (subst IsAtRest (sym e) tt)
  run_step s doing n fit is has after again Trapped e = rests s doing fit is after (subst IsAtRest (sym e) tt)
  run_step s doing n fit is has after again Running e =
      elim (passes_or_not s.config fit e) [
        | inl passes ↦ more s (ended s) (Says (line (head_of doing) (codes "limit"))) (frames_passed doing n is e has passes refl refl) (here (ended s) refl refl)
        | inr goes ↦ more s (record s { config = goes.1.0; left = n }) (Steps goes.1.0) (stepped doing n goes.1.0 is e has goes.0 goes.1.1 refl refl) (again goes.1.0 (step_fit s.config goes.1.0 fit goes.1.1))
      ]

  doing_ends : (left : ℕ) (s : Stage) (doing : Doing) → Fit s.config → s.doing ≡ Some doing → s.left ≡ left → After s.todo → Ends s
  doing_ends zero s doing fit is has after = run_out s doing fit is has after s.config.outcome refl
  doing_ends (suc n) s doing fit is has after =
      run_step s doing n fit is has after (λ d f. doing_ends n (record s { config = d; left = n }) doing f is refl after) s.config.outcome refl

  module_there : (name : List ℕ) → is_among ms.names name ≡ true → (m : Module) × (module_named ms name ≡ Some m) × Valid m
  module_there name among = by (nat_lt (position_or_len (bytes_eq name) ms.names) (length ms.names)) refl among
    where
      k : ℕ
      k = position_or_len (bytes_eq name) ms.names

      found : nat_lt k (length ms.names) ≡ true → (m : Module) × (module_named ms name ≡ Some m) × Valid m
      found e =
          let less : k < length ms.names = ltb-true k (length ms.names) e in
          let m = within_some ms.modules k (subst (λ n. k < n) (sym beside) less) in
          let place : place_in ms.names name ≡ Some k = ap (λ b. cond b (Some k) None) e in
          (m.0, ap (option_and_then (slice_get ms.modules)) place ∙ m.1, all_valid k m.0 m.1)

      by : (b : Bool) → nat_lt k (length ms.names) ≡ b → is_some (cond (nat_lt k (length ms.names)) (Some k) None) ≡ true → (m : Module) × (module_named ms name ≡ Some m) × Valid m
      by true e h = found e
      by false e h = absurd (never (sym h ∙ ap (λ b. is_some (cond b (Some k) None)) e))

  module _ (s : Stage) (fit : Fit s.config) (at_rest : IsAtRest s.config.outcome) (none : s.doing ≡ None) (rest : List Action) (after : After rest) where
    refused_ends : (i m : List ℕ) (from : List Origin) (externs : List Extern) (md : Module) (fault : InstFault) → s.todo ≡ New i m from ∷ rest →
        are_live s.live from ≡ true → externs_from s.config.store s.live [] from ≡ Ok externs → module_named ms m ≡ Some md →
        IsPassed fault → IsRefusedFor the_policy s.config.store md externs fault → Ends s
    refused_ends i m from externs md fault todo live looked named own refused =
        let t = unmade s i rest in
        more s t (Says (line (new_head i) (refusal_word fault))) (new_refused i m from rest externs md fault none todo live looked named refused own refl refl) (after t fit at_rest refl refl)

    limited_ends : (i m : List ℕ) (from : List Origin) (externs : List Extern) (md : Module) → s.todo ≡ New i m from ∷ rest →
        are_live s.live from ≡ true → externs_from s.config.store s.live [] from ≡ Ok externs → module_named ms m ≡ Some md →
        IsRefusedFor the_policy s.config.store md externs inst.Limit → Ends s
    limited_ends i m from externs md todo live looked named refused =
        more s (ended s) (Says (line (new_head i) (codes "limit"))) (new_limited i m from rest externs md none todo live looked named refused refl refl) (here (ended s) refl refl)

    made_ends : (i m : List ℕ) (from : List Origin) (externs : List Extern) (md : Module) (d : Configuration) → s.todo ≡ New i m from ∷ rest → Valid md →
        are_live s.live from ≡ true → externs_from s.config.store s.live [] from ≡ Ok externs → module_named ms m ≡ Some md →
        Instantiated s.config md externs d → IsTrue (is_within_limits the_policy (allocated s.config.store md externs)) → Ends s
    made_ends i m from externs md d todo valid live looked named made within =
        let doing = Making i (length s.config.store.instances) in
        let t = begun s d doing rest in
        more s t (Makes i (length s.config.store.instances) md d) (new_made i m from rest externs md d none todo live looked named made within refl refl)
        (doing_ends t.left t doing (made_fit s.config d md externs valid fit made) refl refl after)

    new_ends : (i m : List ℕ) (from : List Origin) → s.todo ≡ New i m from ∷ rest → is_among ms.names m ≡ true → Ends s
    new_ends i m from todo among = by (are_live s.live from) refl (externs_from s.config.store s.live [] from) refl
      where
        named : (md : Module) × (module_named ms m ≡ Some md) × Valid md
        named = module_there m among

        linked : (externs : List Extern) → are_live s.live from ≡ true → externs_from s.config.store s.live [] from ≡ Ok externs → Becomes s.config fit at_rest named.0 named.2 externs → Ends s
        linked externs live looked (passed_by fault own refused) = refused_ends i m from externs named.0 fault todo live looked named.1 own refused
        linked externs live looked (limited refused) = limited_ends i m from externs named.0 todo live looked named.1 refused
        linked externs live looked (instantiated_as d instantiated within) = made_ends i m from externs named.0 d todo named.2 live looked named.1 instantiated within

        by : (live : Bool) → are_live s.live from ≡ live → (looked : Result (List Extern) ℕ) → externs_from s.config.store s.live [] from ≡ looked → Ends s
        by false live looked l =
            let t = unmade s i rest in
            more s t (Says (line (new_head i) (codes "absent"))) (new_absent i m from rest none todo live refl refl) (after t fit at_rest refl refl)
        by true live (Err at) l = more s (ended s) (Lacks at) (new_lacks i m from rest at none todo live l refl refl) (here (ended s) refl refl)
        by true live (Ok externs) l = linked externs live l (becomes s.config fit at_rest named.0 named.2 externs)

    entered_ends : (i x : List ℕ) (at : ℕ) (args : List Val) (e : Extern) (d : Configuration) → s.todo ≡ Call i x at args ∷ rest → export_named_by s.config.store s.live i x ≡ Some e → Invoked s.config e args d → Ends s
    entered_ends i x at args e d todo named invoked =
        let doing = Calling i x in
        let t = begun s d doing rest in
        more s t (Enters d) (call_entered i x at args rest e d none todo named invoked refl refl) (doing_ends t.left t doing (invoked_fit s.config d e args fit invoked) refl refl after)

    no_function_ends : (i x : List ℕ) (at : ℕ) (args : List Val) (e : Extern) → s.todo ≡ Call i x at args ∷ rest → export_named_by s.config.store s.live i x ≡ Some e → IsNoFunction e → Ends s
    no_function_ends i x at args e todo named is =
        let t = passed s rest in
        more s t (Says (line (call_head i x) (codes "function"))) (call_no_function i x at args rest e none todo named is refl refl) (after t fit at_rest refl refl)

    extern_ends : (i x : List ℕ) (at : ℕ) (args : List Val) (e : Extern) → s.todo ≡ Call i x at args ∷ rest → All ValInRange args → export_named_by s.config.store s.live i x ≡ Some e → Ends s
    extern_ends i x at args (Table a) todo ranges named = no_function_ends i x at args (Table a) todo named tt
    extern_ends i x at args (Memory a) todo ranges named = no_function_ends i x at args (Memory a) todo named tt
    extern_ends i x at args (Global a) todo ranges named = no_function_ends i x at args (Global a) todo named tt
    extern_ends i x at args (Func a) todo ranges named = by (are_same_types (types args) (type_of_inst inst.0).params) refl
      where
        store : Store
        store = s.config.store

        inst : (f : FuncInst) × (slice_get store.funcs a ≡ Some f)
        inst = within_some store.funcs a (pool_exists store fit.typed.store (Func a) (looked_up store s.live i x (Func a) named))

        by : (b : Bool) → are_same_types (types args) (type_of_inst inst.0).params ≡ b → Ends s
        by false e =
            let t = passed s rest in
            let differ : ArgumentsDiffer store (Func a) args = (inst.0, inst.1, λ same. never (sym (subst (λ z. IsTrue (are_same_types (types args) z)) same (types-refl (types args))) ∙ e)) in
            more s t (Says (line (call_head i x) (codes "arguments"))) (call_arguments i x at args rest (Func a) none todo named differ refl refl) (after t fit at_rest refl refl)
        by true e =
            let layer = frame_exists store fit.typed.store a args inst.0 inst.1 in
            let have : HaveTypes args (type_of_inst inst.0).params = (types-eq (types args) (type_of_inst inst.0).params e, ranges) in
            let d = alone store layer.0 in
            let invoked : Invoked s.config (Func a) args d = (inst.0, layer.0, at_rest, inst.1, have, layer.1, refl) in
            entered_ends i x at args (Func a) d todo named invoked

    call_ends : (i x : List ℕ) (at : ℕ) (args : List Val) → s.todo ≡ Call i x at args ∷ rest → All ValInRange args → Ends s
    call_ends i x at args todo ranges = by (live_number s.live i) refl
      where
        export_ends : (n : ℕ) → live_number s.live i ≡ Some n → (o : Option Extern) → export_at s.config.store x n ≡ o → Ends s
        export_ends n there None e = more s (ended s) (Lacks at) (call_lacks i x at args rest n none todo there e refl refl) (here (ended s) refl refl)
        export_ends n there (Some extern) e = extern_ends i x at args extern todo ranges (ap (option_and_then (export_at s.config.store x)) there ∙ e)

        by : (o : Option ℕ) → live_number s.live i ≡ o → Ends s
        by None e =
            let t = passed s rest in
            more s t (Says (line (call_head i x) (codes "absent"))) (call_absent i x at args rest none todo e refl refl) (after t fit at_rest refl refl)
        by (Some n) e = export_ends n e (export_at s.config.store x n) refl

  pub actions_end : (todo : List Action) (s : Stage) → Fit s.config → IsAtRest s.config.outcome → s.doing ≡ None → s.todo ≡ todo → AreFine ms.names todo → Ends s
  actions_end [] s fit at_rest none todo fine = here s none todo
  actions_end (New i m from ∷ rest) s fit at_rest none todo fine =
      new_ends s fit at_rest none rest (λ t f r n d. actions_end rest t f r n d fine.1) i m from todo fine.0
  actions_end (Call i x at args ∷ rest) s fit at_rest none todo fine =
      call_ends s fit at_rest none rest (λ t f r n d. actions_end rest t f r n d fine.1) i x at args todo fine.0

pub started_fit : Fit started
started_fit =
    record {
      typed = record {
        store = record { funcs = All-nil _; tables = All-nil _; memories = All-nil _; globals = All-nil _; instances = All-nil _ };
        outcome = (refl, All-nil ValInRange);
        frames = tt;
      };
      no_hosts = λ a ty h. cc;
    }
