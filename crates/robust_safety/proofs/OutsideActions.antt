-- Each action from outside an instance goes on, drops frames, enters the instance, or returns to it.
use Rattle.std.proofs.Common.{◌≡◌, ℕ, ◌==◌, Bool, List, [], ◌∷◌, ◌++◌, Option, Some, None, inl, inr, IfSome, All, reverse, slice_get, refl, sym, ap, subst, ◌∙◌, arith}
use Rattle.std.specs.Prelude.{slice_index}
use Rattle.std.proofs.lemmas.List.{length-map, map-append}
use Rattle.std.proofs.lemmas.Option.{slice_get_within}
use Rattle.wasm_values.specs.declared.number.Val.{Val}
use Rattle.wasm_syntax.specs.declared.module.Module.{Module}
use Rattle.wasm_typing.specs.Valid.{type_at, func_types_of, funcs_of, StartValid, Valid}
use Rattle.wasm_store.specs.declared.store.FuncInst.{FuncInst}
use Rattle.wasm_store.specs.declared.store.FuncInst.TheVariants.{Code, Host}
use Rattle.wasm_store.specs.declared.store.Extern.{Extern}
use Rattle.wasm_store.specs.declared.store.Extern.TheVariants.{Func, Table, Memory, Global}
use Rattle.wasm_store.specs.declared.store.Instance.{Instance}
use Rattle.wasm_store.specs.declared.store.Store.{Store}
use Rattle.wasm_store.specs.Configuration.{Layer, OfCode, OfHost, Configuration}
use Rattle.wasm_store.specs.Step.{TopMoves}
use Rattle.type_safety.specs.Shapes.{shape_of}
use Rattle.type_safety.specs.Frames.{LayersTyped}
use Rattle.type_safety.specs.Typed.{Typed}
use Rattle.wasm_sessions.specs.Pool.{InPool}
use Rattle.wasm_sessions.specs.Matching.{MatchImports}
use Rattle.wasm_store.specs.Control.{IsFrameOf}
use Rattle.wasm_sessions.specs.Instantiation.{func_addresses, made_instance, allocated, initialized, Invoked, Starts}
use Rattle.wasm_sessions.specs.Hosts.{HasHostOnTop, StartsOver, HostCatch}
use Rattle.wasm_sessions.specs.Sessions.{Action, Acts, Steps, Instantiates, Invokes, AddsHost, HostWrites, HostCalls, HostReturns, HostTraps, HostCatches, HostLoads}
use Rattle.wasm_sessions.proofs.HostLaws.{no_frames}
use Rattle.robust_safety.specs.Privacy.{IsHiddenFunc}
use Rattle.robust_safety.specs.Confinement.{Confined}
use Rattle.robust_safety.specs.Outside.{IsOutside, Outside}
use Rattle.robust_safety.specs.Seats.{Seat, Other, seat, seats}
use Rattle.robust_safety.specs.Moving.{OthersOnTop}
use Rattle.robust_safety.specs.Laws.{OutsideActionsMove}
use Rattle.robust_safety.proofs.Following.{pool_is_open, reach_is_open}
use Rattle.robust_safety.proofs.Instancing.{func_index_is_open}
use Rattle.robust_safety.proofs.Moving.{other_seat, outside_seats, Gets, stays, drops_all, returns, enters_code, enters_host, code_goes}

module _ (m : Module) (number : ℕ) (i : Instance) where
  -- The frame of a function comes on top.
  enters_layer : (before : List Seat) (d : Configuration) (a : ℕ) (values : List Val) (inst : FuncInst) (layer : Layer) → OthersOnTop before → slice_get d.store.funcs a ≡ Some inst → (IsHiddenFunc m i a → ⊥)
      → IsFrameOf d.store.instances a values inst layer → seats number d.frames ≡ seat number layer ∷ before → Gets m number i before d
  enters_layer before d a values (Code ty instance code) layer out there hides h is =
      enters_code m number i before d a ty instance code h.0 (reverse values) (instance == number) refl out there h.1 hides (is ∙ ap (λ l. seat number l ∷ before) h.2)
  enters_layer before d a values (Host ty) layer out there hides h is =
      enters_host m number i before d a out (is ∙ ap (λ l. seat number l ∷ before) h)

  host_on_top : (frames : List Layer) → HasHostOnTop frames → OthersOnTop (seats number frames)
  host_on_top [] h = absurd h
  host_on_top (OfCode f ∷ below) h = absurd h
  host_on_top (OfHost func args given ∷ below) h = tt

  top_moves : (grows : Bool) (s : Store) (frames : List Layer) (d : Configuration) → Confined m number i s → LayersTyped (shape_of s) frames [] → IsOutside number frames → TopMoves grows s frames d → Gets m number i (seats number frames) d
  top_moves grows s [] d k ls out h = absurd h
  top_moves grows s (OfCode f ∷ below) d k ls out h =
      subst (λ x. Gets m number i (x ∷ seats number below) d) (sym (other_seat number f out)) (code_goes m number i s k f ls.0 ls.1 out below d grows f.rest h)
  top_moves grows s (OfHost func args given ∷ below) d k ls out h = absurd h

  module _ (c d : Configuration) (typed : Typed c) (k : Confined m number i c.store) (out : Outside c number) where
    rests : (frames : List Layer) → frames ≡ [] → seats number frames ≡ []
    rests frames h = ap (seats number) h

    start_is_open : (m' : Module) (valid : Valid m') (externs : List Extern) (pool : All (InPool c.store) externs) (match : MatchImports c.store m' externs) (x : ℕ) → StartValid m' x → IsHiddenFunc m i (slice_index (func_addresses c.store m' externs) x) → ⊥
    start_is_open m' valid externs pool match x h =
        let below = slice_get_within (funcs_of m') x (record { params = []; results = [] }) h in
        let long = length-map (func_types_of m') (type_at m'.types) in
        func_index_is_open m number i c.store typed.store k m' valid externs pool match x (omega (arith, below, long))

    starts : (m' : Module) (valid : Valid m') (externs : List Extern) (pool : All (InPool c.store) externs) (match : MatchImports c.store m' externs) (t : Store) (start : Option ℕ) → IfSome start (StartValid m') → c.frames ≡ [] → Starts t (made_instance c.store m' externs) start d → Gets m number i (seats number c.frames) d
    starts m' valid externs pool match t None fine none h =
        stays m number i (seats number c.frames) d (outside_seats number c.frames out) (ap (λ (x : Configuration). seats number x.frames) h ∙ sym (rests c.frames none))
    starts m' valid externs pool match t (Some x) fine none h =
        let store : d.store ≡ t = ap (λ (x : Configuration). x.store) h.4 in
        enters_layer (seats number c.frames) d (slice_index (func_addresses c.store m' externs) x) [] h.0 h.1 (outside_seats number c.frames out) (
        ap (λ (y : Store). slice_get y.funcs (slice_index (func_addresses c.store m' externs) x)) store ∙ h.2
        ) (start_is_open m' valid externs pool match x fine) (subst (λ (y : Store). IsFrameOf y.instances (slice_index (func_addresses c.store m' externs) x) [] h.0 h.1) (sym store) h.3) (
        ap (λ (x : Configuration). seats number x.frames) h.4 ∙ ap (λ l. seat number h.1 ∷ l) (sym (rests c.frames none))
        )

    starts_over : (m' : Module) (valid : Valid m') (externs : List Extern) (pool : All (InPool c.store) externs) (match : MatchImports c.store m' externs) (t : Store) (start : Option ℕ) → IfSome start (StartValid m') → StartsOver t (made_instance c.store m' externs) start c.frames d → Gets m number i (seats number c.frames) d
    starts_over m' valid externs pool match t None fine h =
        stays m number i (seats number c.frames) d (outside_seats number c.frames out) (ap (λ (x : Configuration). seats number x.frames) h)
    starts_over m' valid externs pool match t (Some x) fine h =
        let store : d.store ≡ t = ap (λ (x : Configuration). x.store) h.4 in
        enters_layer (seats number c.frames) d (slice_index (func_addresses c.store m' externs) x) [] h.0 h.1 (outside_seats number c.frames out) (
        ap (λ (y : Store). slice_get y.funcs (slice_index (func_addresses c.store m' externs) x)) store ∙ h.2
        ) (start_is_open m' valid externs pool match x fine) (subst (λ (y : Store). IsFrameOf y.instances (slice_index (func_addresses c.store m' externs) x) [] h.0 h.1) (sym store) h.3) (
        ap (λ (x : Configuration). seats number x.frames) h.4
        )

    invokes : (e : Extern) (values : List Val) → InPool c.store e → Invoked c e values d → Gets m number i (seats number c.frames) d
    invokes (Func a) values pool h =
        let none = no_frames c.outcome c.frames h.2 typed.outcome in
        let store : d.store ≡ c.store = ap (λ (x : Configuration). x.store) h.6 in
        enters_layer (seats number c.frames) d a values h.0 h.1 (outside_seats number c.frames out) (ap (λ (y : Store). slice_get y.funcs a) store ∙ h.3) (
        pool_is_open m i number c.store k (Func a) pool
        ) (subst (λ (y : Store). IsFrameOf y.instances a values h.0 h.1) (sym store) h.5) (
        ap (λ (x : Configuration). seats number x.frames) h.6 ∙ ap (λ l. seat number h.1 ∷ l) (sym (rests c.frames none))
        )
    invokes (Table a) values pool h = absurd h
    invokes (Memory a) values pool h = absurd h
    invokes (Global a) values pool h = absurd h

    unmoved : d.frames ≡ c.frames → Gets m number i (seats number c.frames) d
    unmoved h = stays m number i (seats number c.frames) d (outside_seats number c.frames out) (ap (seats number) h)

    catches : HostCatch c d → Gets m number i (seats number c.frames) d
    catches h =
        let after : seats number d.frames ≡ Other h.func ∷ seats number h.below = ap (λ (x : Configuration). seats number x.frames) h.after in
        let before : seats number c.frames ≡ seats number (h.top ∷ h.above) ++ Other h.func ∷ seats number h.below =
        ap (seats number) h.frames ∙ map-append (seat number) (h.top ∷ h.above) (OfHost h.func h.args h.given ∷ h.below)
        in
        inr (inl (record { outside = subst OthersOnTop (sym after) tt; above = seats number (h.top ∷ h.above); is = before ∙ ap (λ l. seats number (h.top ∷ h.above) ++ l) (sym after) }))

    pub acts : (a : Action) → Acts c a d → Gets m number i (seats number c.frames) d
    acts Steps h = top_moves h.0 c.store c.frames d k typed.frames out h.1.1
    acts (Instantiates m' externs) h =
        starts m' h.0 externs h.1 h.2.matching (initialized (allocated c.store m' externs) (made_instance c.store m' externs) m') m'.start h.0.parts.start (no_frames c.outcome c.frames h.2.at_rest typed.outcome) h.2.starts
    acts (Invokes e values) h = invokes e values h.0 h.1
    acts (AddsHost ty) h = unmoved (ap (λ (x : Configuration). x.frames) h.2)
    acts (HostWrites write) h = unmoved (ap (λ (x : Configuration). x.frames) h.3)
    acts (HostCalls a values) h =
        let store : d.store ≡ c.store = ap (λ (x : Configuration). x.store) h.8 in
        enters_layer (seats number c.frames) d a values h.0 h.1 (host_on_top c.frames h.3) (ap (λ (y : Store). slice_get y.funcs a) store ∙ h.5) (
        reach_is_open m i number c.store k a h.4
        ) (subst (λ (y : Store). IsFrameOf y.instances a values h.0 h.1) (sym store) h.7) (ap (λ (x : Configuration). seats number x.frames) h.8)
    acts (HostReturns values) h =
        subst (λ l. Gets m number i l d) (sym (ap (seats number) h.6)) (returns m number i c.store h.0 (reverse values) h.3 d h.9)
    acts HostTraps h = drops_all m number i (seats number c.frames) d (ap (λ (x : Configuration). x.frames) h.2)
    acts HostCatches h = catches h
    acts (HostLoads m' externs) h =
        starts_over m' h.valid externs h.pool h.matching (initialized (allocated c.store m' externs) (made_instance c.store m' externs) m') m'.start h.valid.parts.start h.starts

pub outside_actions_move : OutsideActionsMove
outside_actions_move m number i c d e typed k out h = acts m number i c d typed k out e h
