-- A configuration after an instantiation, by its parts.
use Rattle.std.proofs.Common.{◌≡◌, ℕ, ◌<◌, IsTrue, List, [], ◌∷◌, ◌++◌, Option, Some, None, IfSome, option_map, length, slice_get, refl, sym, ap, subst, ◌∙◌}
use Rattle.std.specs.Prelude.{slice_index, fold, Result, Ok, Err, IsErrAnd}
use Rattle.std.proofs.lemmas.List.{length-map}
use Rattle.std.proofs.lemmas.Option.{slice_get_within}
use Rattle.wasm_syntax.specs.declared.module.Module.{Module}
use Rattle.wasm_typing.specs.Valid.{type_at, func_types_of, funcs_of, StartValid, Valid}
use Rattle.wasm_store.specs.declared.store.Extern.{Extern}
use Rattle.wasm_store.specs.declared.store.Instance.{Instance}
use Rattle.wasm_store.specs.declared.store.Store.{Store}
use Rattle.wasm_store.specs.declared.config.Frame.{Frame}
use Rattle.wasm_store.specs.declared.config.Outcome.{Outcome}
use Rattle.wasm_store.specs.declared.config.Config.TheInside.{Inside}
use Rattle.wasm_store.specs.Configuration.{Layer, Configuration}
use Rattle.wasm_store.specs.Seen.{seen_frame, seen}
use Rattle.type_safety.specs.Stores.{StoreTyped}
use Rattle.wasm_reduce.specs.declared.policy.Policy.{Policy}
use Rattle.module_instances.specs.declared.faults.InstFault.{InstFault}
use Rattle.module_instances.specs.declared.storing.Parts.{Parts}
use Rattle.wasm_sessions.specs.Matching.{MatchImports}
use Rattle.wasm_store.specs.Control.{IsFrameOf}
use Rattle.wasm_sessions.specs.Instantiation.{IsAtRest, func_addresses, made_instance, allocated, segments_fit, with_segment, initialized, Starts, Instantiated}
use Rattle.module_instances.specs.words.Building.{tables_written, memories_written}
use Rattle.module_instances.specs.Answers.{IsRefusedFor, InstantiateAnswers}
use Rattle.module_instances.specs.words.Putting.{with_parts, Begins, first_outcome, ArePartsOf, IsReady}
use Rattle.wasm_sessions.proofs.Allocating.{func_at_index}
use Rattle.module_instances.proofs.StoringLemmas.{elems_fold, segments_fold}

-- The configuration with these frames.
abbrev after : Store → List Frame → Outcome → Configuration
after s frames o = seen (record { store = s; frames = frames; outcome = o })

-- What is written changes tables and memories alone.
pub written_is : (s : Store) (i : Instance) (m : Module) → initialized s i m ≡ record s { tables = fold (tables_written i s.globals) s.tables m.elems; memories = fold (memories_written i s.globals) s.memories m.segments }
written_is s i m =
    let t : Store = record s { tables = fold (tables_written i s.globals) s.tables m.elems } in
    ap (λ x. fold (with_segment i) x m.segments) (elems_fold i s m.elems) ∙ segments_fold i t m.segments

starts_at : (s u : Store) (i : Instance) (begin : Option ℕ) (frames : List Frame) → u.funcs ≡ s.funcs → u.instances ≡ s.instances → Begins s (option_map (slice_index i.funcs) begin) frames → Starts u i begin (after u frames (first_outcome (option_map (slice_index i.funcs) begin)))
starts_at s u i None frames funcs instances h = ap (λ fs. after u fs (first_outcome None)) h
starts_at s u i (Some x) frames funcs instances h =
    let a = slice_index i.funcs x in
    let layer = seen_frame s.funcs s.instances h.1 in
    let L : Layer → Configuration = λ l. record { store = u; frames = l ∷ []; outcome = first_outcome (Some a) } in
    let same : seen_frame u.funcs u.instances h.1 ≡ layer = ap (λ f. seen_frame f u.instances h.1) funcs ∙ ap (λ n. seen_frame s.funcs n h.1) instances in (
      h.0,
      layer,
      ap (λ l. slice_get l a) funcs ∙ h.3,
      let P : List Instance → Type 0 = λ n. IsFrameOf n a [] h.0 layer in subst P (sym instances) h.4,
      ap (λ fs. after u fs (first_outcome (Some a))) h.2 ∙ ap L same,
    )

pub starts_is : (s : Store) (i : Instance) (m : Module) (start : Option ℕ) (t : Store) (frames : List Frame) (o : Outcome) → start ≡ option_map (slice_index i.funcs) m.start → Begins s start frames → t ≡ initialized s i m → o ≡ first_outcome start → Starts (initialized s i m) i m.start (after t frames o)
starts_is s i m start t frames o is begins written outcome =
    let u : Store = record s { tables = fold (tables_written i s.globals) s.tables m.elems; memories = fold (memories_written i s.globals) s.memories m.segments } in
    let B : Option ℕ → Type 0 = λ x. Begins s x frames in
    let there = starts_at s u i m.start frames refl refl (subst B is begins) in
    let here : initialized s i m ≡ u = written_is s i m in
    let S : Store → Type 0 = λ x. Starts x i m.start (after x frames (first_outcome (option_map (slice_index i.funcs) m.start))) in
    let D : Configuration → Type 0 = λ d. Starts (initialized s i m) i m.start d in
    let same : after (initialized s i m) frames (first_outcome (option_map (slice_index i.funcs) m.start)) ≡ after t frames o =
    sym (ap (λ x. after x frames o) written ∙ ap (after (initialized s i m) frames) (outcome ∙ ap first_outcome is))
    in
    subst D same (subst S (sym here) there)

-- Nothing is changed where the store isn't.
pub unchanged : (i : Inside) (c : Configuration) (s : Store) → seen i ≡ c → s ≡ i.store → seen (record { store = s; frames = i.frames; outcome = i.outcome }) ≡ c
unchanged i c s is same = ap (λ x. seen (record { store = x; frames = i.frames; outcome = i.outcome })) same ∙ is

-- The start function exists.
module _ (s : Store) (store : StoreTyped s) (m : Module) (valid : Valid m) (externs : List Extern) (match : MatchImports s m externs) where
  start_at : (start : Option ℕ) → IfSome start (StartValid m) → IfSome (option_map (slice_index (func_addresses s m externs)) start) (λ a. a < length (allocated s m externs).funcs)
  start_at None h = tt
  start_at (Some x) h =
      let within = slice_get_within (funcs_of m) x (record { params = []; results = [] }) h in
      let L : ℕ → Type 0 = λ n. x < n in
      func_at_index s store m valid externs match x (subst L (length-map (func_types_of m) (type_at m.types)) within)

  pub start_exists : (p : Parts) → ArePartsOf s m externs p → IfSome p.start (λ a. a < length (s.funcs ++ p.funcs))
  start_exists p h =
      let F : Store → Type 0 = λ t. IfSome p.start (λ a. a < length t.funcs) in
      let O : Option ℕ → Type 0 = λ o. IfSome o (λ a. a < length (allocated s m externs).funcs) in
      let is : p.start ≡ option_map (slice_index (func_addresses s m externs)) m.start = h.start ∙ ap (λ (i : Instance). option_map (slice_index i.funcs) m.start) h.instance in
      subst F (sym h.store) (subst O (sym is) (start_at m.start valid.parts.start))

-- What was put in is an instantiation.
pub instantiated : (c d : Configuration) (m : Module) (externs : List Extern) (p : Parts) → IsAtRest c.outcome → MatchImports c.store m externs → IsTrue (segments_fit (allocated c.store m externs) (made_instance c.store m externs) m) → ArePartsOf c.store m externs p → Starts (initialized (with_parts c.store p) p.instance m) p.instance m.start d → Instantiated c m externs d
instantiated c d m externs p rest match fits parts h =
    let S : Store → Type 0 = λ t. Starts (initialized t p.instance m) p.instance m.start d in
    let I : Instance → Type 0 = λ i. Starts (initialized (allocated c.store m externs) i m) i m.start d in
    record { at_rest = rest; matching = match; in_bounds = fits; starts = subst I parts.instance (subst S parts.store h) }

pub fitting : (s : Store) (m : Module) (externs : List Extern) (p : Parts) → ArePartsOf s m externs p → IsTrue (segments_fit (allocated s m externs) (made_instance s m externs) m) → IsTrue (segments_fit (with_parts s p) p.instance m)
fitting s m externs p h fits =
    let S : Store → Type 0 = λ t. IsTrue (segments_fit t p.instance m) in
    let I : Instance → Type 0 = λ i. IsTrue (segments_fit (allocated s m externs) i m) in
    subst S (sym h.store) (subst I (sym h.instance) fits)

-- What is prepared of what a configuration lends.
pub ready_of : (policy : Policy) (i : Inside) (c : Configuration) (n m : Module) (slice externs : List Extern) (p : Parts) → seen i ≡ c → n ≡ m → slice ≡ externs → IsReady policy i.store n slice p → IsReady policy c.store m externs p
ready_of policy i c n m slice externs p is same given h =
    let C : Configuration → Type 0 = λ x. IsReady policy x.store m externs p in
    let M : Module → Type 0 = λ x. IsReady policy i.store x externs p in
    let E : List Extern → Type 0 = λ x. IsReady policy i.store n x p in
    subst C is (subst M same (subst E given h))

pub refused_of : (policy : Policy) (i : Inside) (c : Configuration) (n m : Module) (slice externs : List Extern) (fault : InstFault) → seen i ≡ c → n ≡ m → slice ≡ externs → IsRefusedFor policy i.store n slice fault → IsRefusedFor policy c.store m externs fault
refused_of policy i c n m slice externs fault is same given h =
    let C : Configuration → Type 0 = λ x. IsRefusedFor policy x.store m externs fault in
    let M : Module → Type 0 = λ x. IsRefusedFor policy i.store x externs fault in
    let E : List Extern → Type 0 = λ x. IsRefusedFor policy i.store n x fault in
    subst C is (subst M same (subst E given h))

-- A refusal that is passed on.
pub passed_on : (policy : Policy) (c : Configuration) (m : Module) (externs : List Extern) (r : Result ℕ InstFault) (fault : InstFault) → IsErrAnd r (λ e. e ≡ fault) → IsRefusedFor policy c.store m externs fault → InstantiateAnswers policy c m externs c r
passed_on policy c m externs (Ok x) fault h refused = absurd h
passed_on policy c m externs (Err e) fault h refused =
    let F : InstFault → Type 0 = λ x. IsRefusedFor policy c.store m externs x in
    (subst F (sym h) refused, refl)
