-- What is entered by the embedder, and what is added by it, in a stored configuration.
use Rattle.std.proofs.Common.{◌≡◌, ℕ, ◌<◌, ◌≤◌, List, [], ◌∷◌, ◌++◌, Some, length, map, reverse, slice_get, Bool, true, false, IsTrue, sym, ap, subst, ◌∙◌, All}
use Rattle.std.proofs.lemmas.List.{reverse-append}
use Rattle.wasm_values.specs.declared.number.Val.{Val}
use Rattle.wasm_values.specs.declared.number.ValType.{ValType}
use Rattle.wasm_syntax.specs.declared.module.FuncType.{FuncType}
use Rattle.wasm_typing.specs.Valid.{ValInRange}
use Rattle.wasm_store.specs.declared.store.FuncInst.{FuncInst}
use Rattle.wasm_store.specs.declared.store.FuncInst.TheVariants.{Host}
use Rattle.wasm_store.specs.declared.store.Extern.{Extern}
use Rattle.wasm_store.specs.declared.store.Extern.TheVariants.{Func}
use Rattle.wasm_store.specs.declared.store.Store.{Store}
use Rattle.wasm_store.specs.declared.config.Frame.{Frame}
use Rattle.wasm_store.specs.declared.config.Outcome.TheVariants.{Running}
use Rattle.wasm_store.specs.declared.config.Config.TheInside.{Inside}
use Rattle.wasm_store.specs.Configuration.{Layer, Configuration}
use Rattle.wasm_store.specs.Seen.{seen_frame, seen}
use Rattle.wasm_store.specs.Control.{type_of_inst, IsEnterable, IsFrameOf}
use Rattle.type_safety.specs.Shapes.{types, shape_of, ExternExists}
use Rattle.type_safety.specs.Stores.{StoreTyped}
use Rattle.type_safety.specs.Typed.{Typed}
use Rattle.type_safety.proofs.Lists.{there, of_nil}
use Rattle.wasm_sessions.specs.Instantiation.{IsAtRest, Invoked}
use Rattle.wasm_sessions.specs.Hosts.{HostAdded}
use Rattle.wasm_instantiate.specs.Answers.{EntersAlone, ArgumentsDiffer}
use Rattle.wasm_instantiate.specs.words.Acting.{EntersOver}
use Rattle.module_instances.proofs.FuncLemmas.{enterable}
use Rattle.wasm_sessions.proofs.HostLaws.{no_frames}

-- The frames, as they are seen.
abbrev layers : List FuncInst → Inside → List Layer
layers funcs i = map (seen_frame funcs i.store.instances) (reverse i.frames)

-- A function is entered where its frame is the only one.
pub entered_alone : (i : Inside) (c : Configuration) (a : ℕ) (values : List Val) (frame : Frame) (frames : List Frame) → seen i ≡ c → a < length c.store.funcs → frames ≡ frame ∷ [] → ((inst : FuncInst) → slice_get i.store.funcs a ≡ Some inst → IsFrameOf i.store.instances a values inst (seen_frame i.store.funcs i.store.instances frame)) → EntersAlone c a values (seen (record { store = i.store; frames = frames; outcome = Running }))
entered_alone i c a values frame frames is within one made =
    let P : Configuration → Type 0 = λ c. EntersAlone c a values (seen (record { store = i.store; frames = frames; outcome = Running })) in
    let Q : Configuration → Type 0 = λ c. a < length c.store.funcs in
    let f = there i.store.funcs a (subst Q (sym is) within) in
    let F : List Frame → Configuration = λ fs. seen (record { store = i.store; frames = fs; outcome = Running }) in
    subst P is (f.0, seen_frame i.store.funcs i.store.instances frame, f.1, made f.0 f.1, ap F one)

-- A function is entered where its frame is put over the others.
pub entered_over : (i : Inside) (c : Configuration) (a : ℕ) (values : List Val) (frame : Frame) (frames : List Frame) → seen i ≡ c → a < length c.store.funcs → frames ≡ i.frames ++ frame ∷ [] → ((inst : FuncInst) → slice_get i.store.funcs a ≡ Some inst → IsFrameOf i.store.instances a values inst (seen_frame i.store.funcs i.store.instances frame)) → EntersOver c a values (seen (record { store = i.store; frames = frames; outcome = i.outcome }))
entered_over i c a values frame frames is within more made =
    let P : Configuration → Type 0 = λ c. EntersOver c a values (seen (record { store = i.store; frames = frames; outcome = i.outcome })) in
    let Q : Configuration → Type 0 = λ c. a < length c.store.funcs in
    let f = there i.store.funcs a (subst Q (sym is) within) in
    let L : List Frame → Configuration = λ fs. record { store = i.store; frames = map (seen_frame i.store.funcs i.store.instances) fs; outcome = i.outcome } in
    let top : reverse frames ≡ frame ∷ reverse i.frames = ap reverse more ∙ reverse-append i.frames (frame ∷ []) in
    subst P is (f.0, seen_frame i.store.funcs i.store.instances frame, f.1, made f.0 f.1, ap L top)

-- The function at an address that exists can be entered.
pub enterable_here : (i : Inside) (c : Configuration) (a : ℕ) → seen i ≡ c → Typed c → a < length c.store.funcs → (inst : FuncInst) × (slice_get i.store.funcs a ≡ Some inst) × IsEnterable i.store.instances inst
enterable_here i c a is typed within =
    let T : Configuration → Type 0 = λ x. StoreTyped x.store in
    let Q : Configuration → Type 0 = λ x. a < length x.store.funcs in
    enterable i.store a (subst T (sym is) typed.store) (subst Q (sym is) within)

-- A function that is entered at rest, with values of its parameter types, is invoked.
pub invoked : (c d : Configuration) (e : Extern) (a : ℕ) (values : List Val) (params : List ValType) (ty : FuncType) → e ≡ Func a → IsAtRest c.outcome → types values ≡ params → All ValInRange values → params ≡ ty.params → ((inst : FuncInst) → slice_get c.store.funcs a ≡ Some inst → ty ≡ type_of_inst inst) → EntersAlone c a values d → Invoked c e values d
invoked c d e a values params ty is rest have range same of_type h =
    let P : Extern → Type 0 = λ e. Invoked c e values d in
    let like : params ≡ (type_of_inst h.0).params = same ∙ ap (λ (t : FuncType). t.params) (of_type h.0 h.2) in
    subst P (sym is) (h.0, h.1, rest, h.2, (have ∙ like, range), h.3, h.4)

-- A host's function is added at rest: there are no frames.
pub added : (i : Inside) (c : Configuration) (ty : FuncType) (funcs : List FuncInst) → seen i ≡ c → Typed c → IsAtRest c.outcome → length ty.results ≤ 1 → funcs ≡ i.store.funcs ++ Host ty ∷ [] → HostAdded c ty (seen (record { store = record i.store { funcs = funcs }; frames = i.frames; outcome = i.outcome }))
added i c ty funcs is typed rest few more =
    let d : Configuration = seen (record { store = record i.store { funcs = funcs }; frames = i.frames; outcome = i.outcome }) in
    let P : Configuration → Type 0 = λ c. d ≡ record c { store = record c.store { funcs = c.store.funcs ++ Host ty ∷ [] } } in
    let none : c.frames ≡ [] = no_frames c.outcome c.frames rest typed.outcome in
    let L : Configuration → List Layer = λ c. c.frames in
    let empty : reverse i.frames ≡ [] = of_nil (seen_frame i.store.funcs i.store.instances) (reverse i.frames) (ap L is ∙ none) in
    let new : List FuncInst → Configuration = λ fs. seen (record { store = record i.store { funcs = fs }; frames = i.frames; outcome = i.outcome }) in
    let s : Store = record i.store { funcs = i.store.funcs ++ Host ty ∷ [] } in
    let with : List Frame → List FuncInst → Configuration = λ fs gs. record { store = s; frames = map (seen_frame gs i.store.instances) fs; outcome = i.outcome } in
    let same : d ≡ record (seen i) { store = s } =
    ap new more ∙ ap (λ fs. with fs (i.store.funcs ++ Host ty ∷ [])) empty ∙ sym (ap (λ fs. with fs i.store.funcs) empty)
    in
    (rest, few, subst P is same)

-- Where the test of types fails, the arguments differ.
pub differ : (i : Inside) (c : Configuration) (e : Extern) (a : ℕ) (slice values : List Val) (params : List ValType) (ty : FuncType) (r : Bool) → seen i ≡ c → e ≡ Func a → ExternExists (shape_of c.store) e → slice ≡ values → params ≡ ty.params → ((inst : FuncInst) → slice_get i.store.funcs a ≡ Some inst → ty ≡ type_of_inst inst) → (types slice ≡ params → IsTrue r) → r ≡ false → ArgumentsDiffer c.store e values
differ i c e a slice values params ty r is named exists same have of_type test fails =
    let P : Extern → Type 0 = λ e. ArgumentsDiffer c.store e values in
    let E : Extern → Type 0 = λ e. ExternExists (shape_of c.store) e in
    let f = there c.store.funcs a (subst E named exists) in
    let S : Configuration → Type 0 = λ c. (inst : FuncInst) → slice_get c.store.funcs a ≡ Some inst → ty ≡ type_of_inst inst in
    let of = subst S is of_type in
    let differs : types values ≡ (type_of_inst f.0).params → ⊥ =
    λ h. not_both r fails (test (ap types same ∙ h ∙ sym (have ∙ ap (λ (t : FuncType). t.params) (of f.0 f.1))))
    in
    subst P (sym named) (f.0, f.1, differs)
  where
    not_both : (r : Bool) → r ≡ false → IsTrue r → ⊥
    not_both true h k = cc
    not_both false h k = cc
