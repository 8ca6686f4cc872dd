-- Acts of a host or of the embedder: what is written in a store is written in its configuration, and each act keeps configurations
-- typed.
use Rattle.std.proofs.Common.{◌≡◌, ◌≢◌, ℕ, ◌+◌, ◌<◌, inl, inr, false, IsTrue, List, [], ◌∷◌, Some, None, Result, Ok, Err, All, length, map, reverse, slice_get, refl, sym, ap, subst, ◌∙◌}
use Rattle.std.proofs.lemmas.List.{length-map, length-reverse}
use Rattle.wasm_values.specs.declared.number.Val.{Val}
use Rattle.wasm_syntax.specs.declared.module.FuncType.{FuncType}
use Rattle.wasm_typing.specs.Valid.{ValInRange}
use Rattle.wasm_store.specs.declared.store.FuncInst.{FuncInst}
use Rattle.wasm_store.specs.declared.store.FuncInst.TheVariants.{Host}
use Rattle.wasm_store.specs.declared.store.Extern.TheVariants.{Func}
use Rattle.wasm_store.specs.declared.store.Instance.{Instance}
use Rattle.wasm_store.specs.declared.store.Store.{Store}
use Rattle.wasm_store.specs.declared.config.Frame.{Frame}
use Rattle.wasm_store.specs.declared.config.Outcome.{Outcome}
use Rattle.wasm_store.specs.declared.config.Outcome.TheVariants.{Running, Done, Trapped}
use Rattle.wasm_store.specs.declared.config.Config.TheInside.{Inside}
use Rattle.wasm_store.specs.Configuration.{Layer, OfCode, OfHost, Configuration, trapped}
use Rattle.wasm_store.specs.Seen.{seen_frame, seen}
use Rattle.wasm_store.specs.Control.{type_of_inst, given_to}
use Rattle.wasm_store.specs.Readers.{host_top_of}
use Rattle.type_safety.specs.Shapes.{types, shape_of}
use Rattle.type_safety.specs.Stores.{InstanceTyped, StoreTyped}
use Rattle.type_safety.specs.Frames.{LayersTyped}
use Rattle.type_safety.specs.Typed.{OutcomeTyped, Typed}
use Rattle.type_safety.proofs.Lists.{there, all-get}
use Rattle.wasm_reduce.specs.declared.policy.Policy.{Policy}
use Rattle.wasm_reduce.specs.declared.moved.Moved.{Moved}
use Rattle.wasm_reduce.specs.declared.moved.Moved.TheVariants as moved
use Rattle.wasm_sessions.specs.Pool.{IsSharedByTable, InReach}
use Rattle.wasm_sessions.specs.Hosts.{HasHostOnTop}
use Rattle.wasm_sessions.specs.Hosts as write
use Rattle.wasm_sessions.proofs.HostLaws.{pool_exists, write_typed, call_typed, return_typed, trap_typed}
use Rattle.wasm_instantiate.specs.declared.acts.HostAct.{HostAct}
use Rattle.wasm_instantiate.specs.declared.acts.HostAct.TheVariants.{Byte, Global, Entry, Grow, GrowTable, Call, Return, Trap}
use Rattle.wasm_instantiate.specs.declared.faults.HostFault.{HostFault}
use Rattle.wasm_instantiate.specs.declared.faults.HostFault.TheVariants as fault
use Rattle.wasm_instantiate.specs.HostAnswers.{MayAct, Performs, told_of, told_of_return, ResultsDiffer, IsOfWrongType, PassesLimit, IsActRefused, IsActAllowed, HostActAnswers}
use Rattle.wasm_instantiate.specs.words.Writing.{is_write, ActWrites, WriteAnswers, went_of}
use Rattle.wasm_reduce.specs.words.Layers.{layers}
use Rattle.wasm_instantiate.specs.words.Acting.{EntersOver, LeavesWith}

-- ---- writes read no frames

no_write : {X : Type 0} → IsTrue false → X
no_write h = let no : ⊥ = cc in absurd no

module _ (policy : Policy) (s : Store) (here there : List Layer) where
  wrong_type : (act : HostAct) → IsTrue (is_write act) → IsOfWrongType s here act → IsOfWrongType s there act
  wrong_type (Byte m at v) w h = h
  wrong_type (Global g v) w h = h
  wrong_type (Entry t at f) w h = h
  wrong_type (Grow m n) w h = h
  wrong_type (GrowTable t n) w h = h
  wrong_type (Call f vs) w h = no_write w
  wrong_type (Return vs) w h = no_write w
  wrong_type Trap w h = no_write w

  limit : (act : HostAct) → IsTrue (is_write act) → PassesLimit policy s here act → PassesLimit policy s there act
  limit (Byte m at v) w h = h
  limit (Global g v) w h = h
  limit (Entry t at f) w h = h
  limit (Grow m n) w h = h
  limit (GrowTable t n) w h = h
  limit (Call f vs) w h = no_write w
  limit (Return vs) w h = no_write w
  limit Trap w h = no_write w

module _ (policy : Policy) (s : Store) (frames : List Layer) (act : HostAct) (w : IsTrue (is_write act)) where
  allowed : IsActAllowed policy s [] act → IsActAllowed policy s frames act
  allowed a =
      record {
        exported = a.exported;
        mutable = a.mutable;
        typed = λ h. a.typed (wrong_type policy s frames [] act w h);
        in_bounds = a.in_bounds;
        within = λ h. a.within (limit policy s frames [] act w h);
      }

  refused : (f : HostFault) → IsActRefused policy s [] act f → IsActRefused policy s frames act f
  refused fault.NotExported r = r
  refused fault.Immutable r = r
  refused fault.WrongType r = (r.0, r.1, wrong_type policy s [] frames act w r.2)
  refused fault.Bounds r = (r.0, r.1, λ h. r.2 (wrong_type policy s frames [] act w h), r.3)
  refused fault.Limit r = (r.0, r.1, λ h. r.2 (wrong_type policy s frames [] act w h), r.3, limit policy s [] frames act w r.4)
  refused fault.OutOfMemory r = tt

-- ---- a write in a store is one in its configuration

module _ (i : Inside) (t : Store) where
  frames_stay : t.funcs ≡ i.store.funcs → t.instances ≡ i.store.instances → seen (record { store = t; frames = i.frames; outcome = i.outcome }) ≡ record (seen i) { store = t }
  frames_stay f g =
      let make : List FuncInst → List Instance → Configuration = λ fs is. record { store = t; frames = map (seen_frame fs is) (reverse i.frames); outcome = i.outcome } in
      ap (λ fs. make fs t.instances) f ∙ ap (make i.store.funcs) g

  written : (act : HostAct) → ActWrites i.store act t → MayAct (seen i) act → Performs (seen i) act (seen (record { store = t; frames = i.frames; outcome = i.outcome }))
  written (Byte m at v) h may = (t, may, h, frames_stay (ap (λ (x : Store). x.funcs) h.5) (ap (λ (x : Store). x.instances) h.5))
  written (Global g v) h may = (t, may, h, frames_stay (ap (λ (x : Store). x.funcs) h.5) (ap (λ (x : Store). x.instances) h.5))
  written (Entry a at f) h may = (t, may, h, frames_stay (ap (λ (x : Store). x.funcs) h.5) (ap (λ (x : Store). x.instances) h.5))
  written (Grow m n) h may = (t, may, h, frames_stay (ap (λ (x : Store). x.funcs) h.4) (ap (λ (x : Store). x.instances) h.4))
  written (GrowTable a n) h may = (t, may, h, frames_stay (ap (λ (x : Store). x.funcs) h.4) (ap (λ (x : Store). x.instances) h.4))
  written (Call f vs) h may = absurd h
  written (Return vs) h may = absurd h
  written Trap h may = absurd h

told_went : (act : HostAct) (after : List Layer) → IsTrue (is_write act) → moved.Went ≡ told_of act after
told_went (Byte m at v) after w = refl
told_went (Global g v) after w = refl
told_went (Entry a at f) after w = refl
told_went (Grow m n) after w = refl
told_went (GrowTable a n) after w = refl
told_went (Call f vs) after w = no_write w
told_went (Return vs) after w = no_write w
told_went Trap after w = no_write w

pub write_done : (policy : Policy) (i : Inside) (t : Store) (c : Configuration) (act : HostAct) → seen i ≡ c → MayAct c act → IsTrue (is_write act) → IsActAllowed policy i.store [] act → ActWrites i.store act t → HostActAnswers policy c act (seen (record { store = t; frames = i.frames; outcome = i.outcome })) (Ok moved.Went)
write_done policy i t c act is may w a h =
    let d : Configuration = seen (record { store = t; frames = i.frames; outcome = i.outcome }) in
    let P : Configuration → Type 0 = λ x. MayAct x act → HostActAnswers policy x act d (Ok moved.Went) in
    subst P is (λ m. (allowed policy i.store (seen i).frames act w a, written i t act h m, told_went act d.frames w)) may

pub write_refused : (policy : Policy) (i : Inside) (t : Store) (c : Configuration) (act : HostAct) (f : HostFault) → seen i ≡ c → IsTrue (is_write act) → IsActRefused policy i.store [] act f → t ≡ i.store → HostActAnswers policy c act (seen (record { store = t; frames = i.frames; outcome = i.outcome })) (Err f)
write_refused policy i t c act f is w r same =
    let P : Configuration → Type 0 = λ x. IsActRefused policy x.store x.frames act f in
    let D : Store → Configuration = λ x. seen (record { store = x; frames = i.frames; outcome = i.outcome }) in
    (subst P is (refused policy i.store (seen i).frames act w f r), ap D same ∙ is)

pub write_lifts : {A : Type 0} → (policy : Policy) (i : Inside) (t : Store) (c : Configuration) (act : HostAct) (r : Result A HostFault) → seen i ≡ c → MayAct c act → IsTrue (is_write act) → WriteAnswers policy i.store act t r → HostActAnswers policy c act (seen (record { store = t; frames = i.frames; outcome = i.outcome })) (went_of r)
write_lifts policy i t c act (Ok done) is may w h = write_done policy i t c act is may w h.0 h.1
write_lifts policy i t c act (Err f) is may w h = write_refused policy i t c act f is w h.0 h.1

-- ---- calls

-- A configuration with a host on top runs.
pub host_runs : (c : Configuration) → Typed c → HasHostOnTop c.frames → c.outcome ≡ Running
host_runs c typed host = running c.outcome c.frames typed.outcome host
  where
    running : (o : Outcome) (frames : List Layer) → OutcomeTyped o frames → HasHostOnTop frames → o ≡ Running
    running Running frames t h = refl
    running (Done vs) frames t h = let no : ⊥ = subst HasHostOnTop t.0 h in absurd no
    running Trapped frames t h = let no : ⊥ = subst HasHostOnTop t h in absurd no

-- A function within reach exists.
pub reach_exists : (s : Store) → StoreTyped s → (a : ℕ) → InReach s a → a < length s.funcs
reach_exists s store a h =
    let shared : IsSharedByTable s a → a < length s.funcs =
    λ x. let i = all-get (InstanceTyped (shape_of s)) s.instances x.number x.instance store.instances x.there in all-get (λ b. b < length s.funcs) x.instance.elems x.place a i.elems x.named
    in
    elim h [ inl x ↦ pool_exists s store (Func a) x | inr x ↦ shared x ]

module _ (policy : Policy) (c : Configuration) (a : ℕ) (values : List Val) (ty : FuncType) (of_type : (inst : FuncInst) → slice_get c.store.funcs a ≡ Some inst → ty ≡ type_of_inst inst) (reach : InReach c.store a) where
  pub call_mistyped : a < length c.store.funcs → (types values ≡ ty.params → ⊥) → HostActAnswers policy c (Call a values) c (Err fault.WrongType)
  call_mistyped within differs =
      let f = there c.store.funcs a within in
      ((λ no. no reach, λ no. no, (f.0, f.1, λ h. differs (h ∙ sym (ap (λ (t : FuncType). t.params) (of_type f.0 f.1))))), refl)

  pub call_passes : types values ≡ ty.params → policy.frames < length c.frames + 1 → HostActAnswers policy c (Call a values) c (Err fault.Limit)
  call_passes same more =
      ((λ no. no reach, λ no. no, λ x. x.2 (same ∙ ap (λ (t : FuncType). t.params) (of_type x.0 x.1)), λ no. no, more), refl)

-- A function that is entered over a host's frame is called by it.
pub called : (policy : Policy) (c d : Configuration) (a : ℕ) (values : List Val) (ty : FuncType) → Typed c → HasHostOnTop c.frames → InReach c.store a → ((inst : FuncInst) → slice_get c.store.funcs a ≡ Some inst → ty ≡ type_of_inst inst) → types values ≡ ty.params → All ValInRange values → (policy.frames < length c.frames + 1 → ⊥) → EntersOver c a values d → HostActAnswers policy c (Call a values) d (Ok moved.Went)
called policy c d a values ty typed host reach of_type same range within h =
    let fit : (x : FuncInst) → slice_get c.store.funcs a ≡ Some x → types values ≡ (type_of_inst x).params = λ x there. same ∙ ap (λ (t : FuncType). t.params) (of_type x there) in
    let runs : c.outcome ≡ Running = host_runs c typed host in (
      record {
        exported = λ no. no reach;
        mutable = λ no. no;
        typed = λ x. x.2 (fit x.0 x.1);
        in_bounds = λ no. no;
        within = within;
      },
      (h.0, h.1, runs, host, reach, h.2, (fit h.0 h.2, range), h.3, h.4),
      refl,
    )

-- ---- leaving a frame

-- The frames below the top one.
abbrev rest_of : {A : Type 0} → List A → List A
rest_of [] = []
rest_of (x ∷ xs) = xs

split : (g : Frame → Layer) (xs : List Frame) (top : Layer) (below : List Layer) → map g xs ≡ top ∷ below → (x : Frame) × (ys : List Frame) × (xs ≡ x ∷ ys) × (map g ys ≡ below)
split g [] top below h = let no : ⊥ = cc in absurd no
split g (x ∷ ys) top below h = (x, ys, refl, ap rest_of h)

-- Where a host's frame is on top there is a frame.
pub some_frame : (g : Frame → Layer) (xs : List Frame) → HasHostOnTop (map g xs) → (x : Frame) × (ys : List Frame) × (xs ≡ x ∷ ys)
some_frame g [] h = absurd h
some_frame g (x ∷ ys) h = (x, ys, refl)

pub left_with : (i : Inside) (c : Configuration) (frames : List Frame) (outcome : Outcome) (values : List Val) → seen i ≡ c → ((s : Store) (top : Frame) (below : List Frame) → reverse i.frames ≡ top ∷ below → record { store = s; frames = layers s (reverse frames); outcome = outcome } ≡ given_to s (reverse values) (layers s below)) → LeavesWith c values (seen (record { store = i.store; frames = frames; outcome = outcome }))
left_with i c frames outcome values is h =
    let d : Configuration = seen (record { store = i.store; frames = frames; outcome = outcome }) in
    let P : Configuration → Type 0 = λ x. LeavesWith x values d in
    let g : Frame → Layer = seen_frame i.store.funcs i.store.instances in
    subst P is (λ top below e. (let x = split g (reverse i.frames) top below e in h i.store x.0 x.1 x.2 ∙ ap (given_to i.store (reverse values)) x.3))

-- There are as many frames as are stored.
pub frames_count : (i : Inside) (c : Configuration) → seen i ≡ c → length c.frames ≡ length i.frames
frames_count i c is =
    ap (λ (x : Configuration). length x.frames) (sym is) ∙ length-map (reverse i.frames) (seen_frame i.store.funcs i.store.instances) ∙ length-reverse i.frames

-- ---- returns

-- The frame of a host on top, by its function's address.
pub record HostFrame (frames : List Layer) (func : ℕ) : Type 0 where
  pub args : List Val
  pub given : List Val
  pub below : List Layer
  pub is : frames ≡ OfHost func args given ∷ below

pub host_frame : (frames : List Layer) (func : ℕ) → host_top_of frames ≡ Some func → HostFrame frames func
host_frame [] func h = let no : ⊥ = cc in absurd no
host_frame (OfCode f ∷ below) func h = let no : ⊥ = cc in absurd no
host_frame (OfHost g args given ∷ below) func h =
    let same : g ≡ func = cc in
    record { args = args; given = given; below = below; is = ap (λ n. OfHost n args given ∷ below) same }

-- A host's function on top is there, and a host's.
pub host_there : (c : Configuration) (func : ℕ) → Typed c → HostFrame c.frames func → (ty : FuncType) × (slice_get c.store.funcs func ≡ Some (Host ty))
host_there c func typed f =
    let layers = subst (λ l. LayersTyped (shape_of c.store) l []) f.is typed.frames in
    (layers.1.ty, layers.1.func_there)

-- Where there is no host on top there is no frame of one.
pub no_host_top : (frames : List Layer) → HasHostOnTop frames → host_top_of frames ≡ None → ⊥
no_host_top [] h e = h
no_host_top (OfCode f ∷ below) h e = h
no_host_top (OfHost func args given ∷ below) h e = cc

module _ (policy : Policy) (c : Configuration) (func : ℕ) (values : List Val) (ty : FuncType) (typed : Typed c) (f : HostFrame c.frames func) (of_type : (inst : FuncInst) → slice_get c.store.funcs func ≡ Some inst → ty ≡ type_of_inst inst) where
  differ_here : (frames : List Layer) → frames ≡ OfHost func f.args f.given ∷ f.below → (inst : FuncInst) → slice_get c.store.funcs func ≡ Some inst → (types values ≢ (type_of_inst inst).results) → ResultsDiffer c.store frames values
  differ_here frames is inst there d = subst (λ l. ResultsDiffer c.store l values) (sym is) (inst, there, d)

  fit_here : types values ≡ ty.results → ResultsDiffer c.store c.frames values → ⊥
  fit_here same d =
      let x = subst (λ l. ResultsDiffer c.store l values) f.is d in
      x.2 (same ∙ ap (λ (t : FuncType). t.results) (of_type x.0 x.1))

  pub return_refused : (types values ≡ ty.results → ⊥) → HostActAnswers policy c (Return values) c (Err fault.WrongType)
  return_refused differs =
      let there = host_there c func typed f in
      let no : types values ≢ (type_of_inst (Host there.0)).results = λ h. differs (h ∙ sym (ap (λ (t : FuncType). t.results) (of_type (Host there.0) there.1))) in
      ((λ h. h, λ h. h, differ_here c.frames f.is (Host there.0) there.1 no), refl)

  pub return_done : (d : Configuration) (word : Moved) → HasHostOnTop c.frames → types values ≡ ty.results → All ValInRange values → LeavesWith c values d → word ≡ told_of_return d.frames → HostActAnswers policy c (Return values) d (Ok word)
  return_done d word host same range left told =
      let there = host_there c func typed f in
      let fits : types values ≡ there.0.results = same ∙ ap (λ (t : FuncType). t.results) (of_type (Host there.0) there.1) in (
        record { exported = λ no. no; mutable = λ no. no; typed = fit_here same; in_bounds = λ no. no; within = λ no. no },
        (func, f.args, f.given, f.below, there.0, host_runs c typed host, f.is, there.1, (fits, range), left (OfHost func f.args f.given) f.below f.is),
        told,
      )

pub trap_done : (policy : Policy) (c d : Configuration) → Typed c → HasHostOnTop c.frames → d ≡ trapped c.store → HostActAnswers policy c Trap d (Ok moved.Trapped)
trap_done policy c d typed host is =
    (record { exported = λ no. no; mutable = λ no. no; typed = λ no. no; in_bounds = λ no. no; within = λ no. no }, (host_runs c typed host, host, is), refl)

-- ---- each act keeps configurations typed

performed_typed : (c d : Configuration) (act : HostAct) → Typed c → Performs c act d → Typed d
performed_typed c d (Byte m at v) t h = write_typed c d (write.Byte m at v) t h
performed_typed c d (Global g v) t h = write_typed c d (write.Value g v) t h
performed_typed c d (Entry a at f) t h = write_typed c d (write.Entry a at f) t h
performed_typed c d (Grow m n) t h = write_typed c d (write.Grow m n) t h
performed_typed c d (GrowTable a n) t h = write_typed c d (write.GrowTable a n) t h
performed_typed c d (Call f vs) t h = call_typed c d f vs t h
performed_typed c d (Return vs) t h = return_typed c d vs t h
performed_typed c d Trap t h = trap_typed c d t h

pub answers_typed : (policy : Policy) (c d : Configuration) (act : HostAct) (r : Result Moved HostFault) → Typed c → HostActAnswers policy c act d r → Typed d
answers_typed policy c d act (Ok word) t h = performed_typed c d act t h.1
answers_typed policy c d act (Err f) t h = subst Typed (sym h.1) t
