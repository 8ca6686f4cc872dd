-- A host that catches a trap, or has a module instantiated, keeps configurations typed; so does every action.
use Rattle.std.proofs.Common.{◌≡◌, ℕ, ◌<◌, List, [], ◌∷◌, ◌++◌, Option, Some, None, All, length, refl, sym, subst}
use Rattle.std.specs.Prelude.{slice_index}
use Rattle.std.proofs.lemmas.List.Elements.{All-nil}
use Rattle.wasm_syntax.specs.declared.module.Elem.{Elem}
use Rattle.wasm_syntax.specs.declared.module.Segment.{Segment}
use Rattle.wasm_syntax.specs.declared.module.Module.{Module}
use Rattle.wasm_syntax.specs.Trees.{sequence_of}
use Rattle.wasm_typing.specs.Typing.{Types}
use Rattle.wasm_typing.specs.Valid.{func_types_of, ValInRange, SequenceInRange, BytesInRange, IsWord, ElemValid}
use Rattle.wasm_store.specs.declared.store.Extern.{Extern}
use Rattle.wasm_store.specs.declared.store.FuncInst.TheVariants.{Code, Host}
use Rattle.wasm_store.specs.Configuration.{Activation, Layer, OfCode, OfHost, Configuration, trapped}
use Rattle.wasm_store.specs.declared.config.Outcome.{Outcome}
use Rattle.wasm_store.specs.declared.config.Outcome.TheVariants.{Running}
use Rattle.type_safety.specs.Shapes.{Shape, shape_of}
use Rattle.type_safety.specs.Frames.{FrameTyped, HostTyped, LayerTyped, LayersTyped}
use Rattle.type_safety.specs.Typed.{OutcomeTyped, Typed}
use Rattle.type_safety.proofs.Frames.{trapped_typed}
use Rattle.type_safety.proofs.Preserving.{preservation}
use Rattle.wasm_sessions.specs.Hosts.{HasHostOnTop, StartsOver, HostCatch, HostInstantiates}
use Rattle.wasm_sessions.specs.Instantiation.{func_addresses, made_instance, allocated, initialized, alone, Starts}
use Rattle.wasm_sessions.proofs.Extending.{all-map, Extends, func_still, instance_still, context_still}
use Rattle.wasm_sessions.proofs.Allocating.{extends, func_at_index, allocated_typed}
use Rattle.wasm_sessions.proofs.Initializing.{Kept, initialized_typed}
use Rattle.wasm_sessions.proofs.HostLaws.{any_given, invoked_typed, added_typed, write_typed, call_typed, return_typed, trap_typed}
use Rattle.wasm_sessions.proofs.Instantiating.{instantiated_typed}
use Rattle.wasm_sessions.proofs.SessionLaws.{sessions-typed}
use Rattle.wasm_sessions.specs.Sessions.{Steps, Instantiates, Invokes, AddsHost, HostWrites, HostCalls, HostReturns, HostTraps, HostCatches, HostLoads}
use Rattle.wasm_sessions.specs.Safety.{ActionsPreserve, SessionsAreTyped}

-- ---- a host catches a trap

-- Frames further down are typed, for whatever they are given.
lower_typed : (s : Shape) (above : List Layer) (l : Layer) (below : List Layer) (given : Types) → LayersTyped s (above ++ l ∷ below) given → (g : Types) × LayersTyped s (l ∷ below) g
lower_typed s [] l below given h = (given, h)
lower_typed s (x ∷ above) l below given h = lower_typed s above l below h.0 h.2

pub catch_typed : (c d : Configuration) → Typed c → HostCatch c d → Typed d
catch_typed c d t h =
    let all : LayersTyped (shape_of c.store) (h.top ∷ h.above ++ OfHost h.func h.args h.given ∷ h.below) [] = subst (λ l. LayersTyped (shape_of c.store) l []) h.frames t.frames in
    let low = lower_typed (shape_of c.store) (h.top ∷ h.above) (OfHost h.func h.args h.given) h.below [] all in
    let x : HostTyped (shape_of c.store) h.func h.args h.given low.1.0 = low.1.1 in
    let host : HostTyped (shape_of c.store) h.func h.args [] low.1.0 =
    record { ty = x.ty; func_there = x.func_there; results_are = x.results_are; arguments = x.arguments; ranges = All-nil ValInRange }
    in
    subst Typed (sym h.after) (record { store = t.store; outcome = tt; frames = (low.1.0, host, low.1.2) })

-- ---- a module is instantiated while a host runs

module _ (s s' : Shape) (e : Extends s s') where
  frame_still : (f : Activation) (given results : Types) → FrameTyped s f given results → FrameTyped s' f given results
  frame_still f given results t =
      record {
        ty = t.ty;
        code = t.code;
        func_there = func_still s s' e f.func (Code t.ty f.instance t.code) t.func_there;
        results_are = t.results_are;
        inst = t.inst;
        inst_there = instance_still s s' e f.instance t.inst t.inst_there;
        context = t.context;
        context_is = context_still s s' e t.inst t.context t.context_is;
        context_results = t.context_results;
        locals = t.locals;
        ranges = t.ranges;
        own = t.own;
        under = t.under;
        split = t.split;
        labels = t.labels;
        wanted = t.wanted;
        typed = t.typed;
        blocks = t.blocks;
      }

  layer_still : (l : Layer) (given results : Types) → LayerTyped s l given results → LayerTyped s' l given results
  layer_still (OfCode f) given results t = frame_still f given results t
  layer_still (OfHost func args values) given results t =
      record { ty = t.ty; func_there = func_still s s' e func (Host t.ty) t.func_there; results_are = t.results_are; arguments = t.arguments; ranges = t.ranges }

  pub layers_still : (ls : List Layer) (given : Types) → LayersTyped s ls given → LayersTyped s' ls given
  layers_still [] given h = tt
  layers_still (l ∷ ls) given h = (h.0, layer_still l given h.0 h.1, layers_still ls h.0 h.2)

module _ (c d : Configuration) (t : Typed c) (m : Module) (externs : List Extern) (h : HostInstantiates c m externs d) where
  made : Kept (allocated c.store m externs) (initialized (allocated c.store m externs) (made_instance c.store m externs) m)
  made =
      let s = c.store in
      let elems = all-map (ElemValid m) (λ (e : Elem). All (λ x. slice_index (func_addresses s m externs) x < length (shape_of (allocated s m externs)).funcs) e.funcs) m.elems (
      λ e v. all-map (λ x. x < length (func_types_of m)) (λ x. slice_index (func_addresses s m externs) x < length (shape_of (allocated s m externs)).funcs) e.funcs (func_at_index s t.store m h.valid externs h.matching) v.2
      ) h.valid.parts.elems in
      let segments = all-map (λ (s : Segment). IsWord s.memory × SequenceInRange (sequence_of s.offset) × BytesInRange s.bytes) (λ (e : Segment). All (λ b. b < 256) e.bytes) m.segments (λ e v. v.2) h.valid.ranges.segments in
      initialized_typed (allocated s m externs) (made_instance s m externs) m (allocated_typed s t.store m h.valid externs h.matching) elems segments h.in_bounds

  frames_still : LayersTyped (shape_of (initialized (allocated c.store m externs) (made_instance c.store m externs) m)) c.frames []
  frames_still =
      let new = initialized (allocated c.store m externs) (made_instance c.store m externs) m in
      let e : Extends (shape_of c.store) (shape_of new) = subst (λ x. Extends (shape_of c.store) x) (sym made.shape) (extends c.store t.store m h.valid externs h.matching) in
      layers_still (shape_of c.store) (shape_of new) e c.frames [] t.frames

  run_on : (o : Outcome) (frames : List Layer) → HasHostOnTop frames → OutcomeTyped Running frames
  run_on o [] top = absurd top
  run_on o (l ∷ ls) top = tt

  over_typed : (start : Option ℕ) → m.start ≡ start → StartsOver (initialized (allocated c.store m externs) (made_instance c.store m externs) m) (made_instance c.store m externs) start c.frames d → Typed d
  over_typed None is x =
      subst Typed (sym x) (record { store = made.store; outcome = run_on Running c.frames h.host; frames = frames_still })
  over_typed (Some n) is x =
      let new = initialized (allocated c.store m externs) (made_instance c.store m externs) m in
      let first = alone new x.1 in
      let starts : Starts new (made_instance c.store m externs) m.start first = subst (λ o. Starts new (made_instance c.store m externs) o first) (sym is) (x.0, x.1, x.2, x.3, refl) in
      let rested : Typed first = instantiated_typed (trapped c.store) first m externs h.valid (trapped_typed c.store t.store) (record { at_rest = tt; matching = h.matching; in_bounds = h.in_bounds; starts = starts }) in
      let frames = rested.frames in
      subst Typed (sym x.4) (
      record { store = rested.store; outcome = tt; frames = (frames.0, frames.1, any_given (shape_of new) c.frames frames.0 h.host frames_still) }
      )

pub loaded_typed : (c d : Configuration) (m : Module) (externs : List Extern) → Typed c → HostInstantiates c m externs d → Typed d
loaded_typed c d m externs t h = over_typed c d t m externs h m.start refl h.starts

-- ---- every action

pub actions_preserve : ActionsPreserve
actions_preserve Steps c d t h = preservation c d t h
actions_preserve (Instantiates m externs) c d t h = instantiated_typed c d m externs h.0 t h.2
actions_preserve (Invokes e values) c d t h = invoked_typed c d e values t h.1
actions_preserve (AddsHost ty) c d t h = added_typed c d ty t h
actions_preserve (HostWrites write) c d t h = write_typed c d write t h
actions_preserve (HostCalls a values) c d t h = call_typed c d a values t h
actions_preserve (HostReturns values) c d t h = return_typed c d values t h
actions_preserve HostTraps c d t h = trap_typed c d t h
actions_preserve HostCatches c d t h = catch_typed c d t h
actions_preserve (HostLoads m externs) c d t h = loaded_typed c d m externs t h

pub sessions_typed : SessionsAreTyped
sessions_typed = sessions-typed actions_preserve
