-- Each action keeps what is kept, from the laws of single kinds.
use Rattle.std.proofs.Common.{◌≡◌, ℕ, ◌==◌, Bool, true, false, List, [], ◌∷◌, ◌++◌, ◌⊎◌, inl, inr, length, take, reverse, refl, sym, ap, subst, ◌∙◌, arith, append-nil}
use Rattle.std.specs.Prelude.{ℤ}
use Rattle.std.proofs.lemmas.List.{map-append}
use Rattle.wasm_values.specs.declared.number.Val.{Val}
use Rattle.wasm_store.specs.declared.config.Outcome.{Outcome}
use Rattle.wasm_store.specs.declared.config.Outcome.TheVariants.{Running, Done, Trapped}
use Rattle.wasm_store.specs.declared.store.Extern.{Extern}
use Rattle.wasm_store.specs.declared.store.Extern.TheVariants.{Func, Table, Memory, Global}
use Rattle.wasm_store.specs.declared.store.Instance.{Instance}
use Rattle.wasm_store.specs.declared.store.Store.{Store}
use Rattle.wasm_store.specs.Configuration.{Activation, Layer, OfCode, OfHost, Configuration}
use Rattle.wasm_store.specs.declared.store.FuncInst.{FuncInst}
use Rattle.wasm_store.specs.declared.store.FuncInst.TheVariants.{Code, Host}
use Rattle.wasm_store.specs.Control.{type_of_inst, given_to, EntersInst}
use Rattle.wasm_store.specs.Step.{Moves, TopMoves, Step}
use Rattle.robust_safety.proofs.Cases.{step_cases}
use Rattle.type_safety.specs.Typed.{OutcomeTyped, Typed}
use Rattle.wasm_sessions.specs.Instantiation.{IsAtRest, Invoked}
use Rattle.wasm_sessions.specs.Hosts.{HasHostOnTop, HostHasControl, HostCatch}
use Rattle.wasm_sessions.specs.Sessions.{Action, Acts, Steps, Instantiates, Invokes, AddsHost, HostWrites, HostCalls, HostReturns, HostTraps, HostCatches, HostLoads}
use Rattle.wasm_sessions.proofs.HostLaws.{no_frames}
use Rattle.outline_rules.specs.Settings.{Setting}
use Rattle.robust_safety.specs.Privacy.{stable_values_in}
use Rattle.robust_safety.specs.Confinement.{Confined}
use Rattle.robust_safety.specs.Outside.{IsOutside, Outside}
use Rattle.robust_safety.specs.Instances.{IsInstanceOf}
use Rattle.robust_safety.specs.Seats.{Seat, Own, Other, seat, seats}
use Rattle.robust_safety.specs.Known.{Knowledge, Stack, kept_pieces}
use Rattle.robust_safety.specs.Kept.{InvariantKept, SleepersKept, above_by, KeptBy, Kept}
use Rattle.robust_safety.specs.Moving.{OthersOnTop}
use Rattle.robust_safety.specs.Steps.{IsInside, ReentriesKeep, ReturnsKeep, InsideStepsKeep, InsideTrapsGive, ActionsFollow}
use Rattle.wasm_sessions.proofs.Embedding.{actions_preserve}
use Rattle.robust_safety.proofs.Happening.{outside_is_untouched}
use Rattle.robust_safety.proofs.Moving.{outside_seats, own_seat, is_number}
use Rattle.robust_safety.proofs.OutsideActions.{outside_actions_move}
use Rattle.robust_safety.proofs.Outsiders.{outsiders_keep, dropped}

-- ---- outside or inside

isnt_number : (a b : ℕ) → (a == b) ≡ false → a ≡ b → ⊥
isnt_number a b h e = grind (arith, h, e)

by_instance : (number : ℕ) (config : Configuration) (f : Activation) (below : List Layer) (b : Bool) → (f.instance == number) ≡ b → config.frames ≡ OfCode f ∷ below
    → Outside config number ⊎ ((g : Activation) × (rest : List Layer) × IsInside number config g rest)
by_instance number config f below true h is = inr (f, below, record { frames = is; instance = is_number f.instance number h })
by_instance number config f below false h is = inl (subst (IsOutside number) (sym is) (isnt_number f.instance number h))

-- Control is outside an instance or inside it.
pub where_control : (number : ℕ) (config : Configuration) (frames : List Layer) → config.frames ≡ frames
    → Outside config number ⊎ ((f : Activation) × (below : List Layer) × IsInside number config f below)
where_control number config [] is = inl (subst (IsOutside number) (sym is) tt)
where_control number config (OfCode f ∷ below) is = by_instance number config f below (f.instance == number) refl is
where_control number config (OfHost func args given ∷ below) is = inl (subst (IsOutside number) (sym is) tt)

no_host : (frames : List Layer) (f : Activation) (below : List Layer) → frames ≡ OfCode f ∷ below → HasHostOnTop frames → ⊥
no_host frames f below is h = subst HasHostOnTop is h

no_rest : (config : Configuration) (f : Activation) (below : List Layer) → Typed config → config.frames ≡ OfCode f ∷ below → IsAtRest config.outcome → ⊥
no_rest config f below typed is rest =
    let none : OfCode f ∷ below ≡ [] = sym is ∙ no_frames config.outcome config.frames rest typed.outcome in
    cc

no_control : (outcome : Outcome) (frames : List Layer) (f : Activation) (below : List Layer) → OutcomeTyped outcome frames → frames ≡ OfCode f ∷ below → HostHasControl outcome frames → ⊥
no_control Running frames f below typed is h = no_host frames f below is h
no_control (Done values) frames f below typed is h = let none : OfCode f ∷ below ≡ [] = sym is ∙ typed.0 in cc
no_control Trapped frames f below typed is h = let none : OfCode f ∷ below ≡ [] = sym is ∙ typed in cc

invoked_rests : (config d : Configuration) (e : Extern) (values : List Val) → Invoked config e values d → IsAtRest config.outcome
invoked_rests config d (Func a) values h = h.2
invoked_rests config d (Table a) values h = absurd h
invoked_rests config d (Memory a) values h = absurd h
invoked_rests config d (Global a) values h = absurd h

host_isnt_code : (f : Activation) (func : ℕ) (args given : List Val) (below rest : List Layer) → ◌≡◌ {A = List Layer} (OfCode f ∷ below) (OfHost func args given ∷ rest) → ⊥
host_isnt_code f func args given below rest h = cc

-- ---- a trap leaves the store

still_runs : {X : Type 0} → (o : Outcome) → o ≡ Running → o ≡ Trapped → X
still_runs Running h k = cc
still_runs (Done values) h k = cc
still_runs Trapped h k = cc

given_runs : {X : Type 0} → (s : Store) (results : List Val) (below : List Layer) (d : Configuration) → d ≡ given_to s results below → d.outcome ≡ Trapped → X
given_runs s results [] d h trap =
    let e : Done (reverse results) ≡ Trapped = sym (ap (λ (x : Configuration). x.outcome) h) ∙ trap in
    cc
given_runs s results (OfCode g ∷ below) d h trap = still_runs d.outcome (ap (λ (x : Configuration). x.outcome) h) trap
given_runs s results (OfHost func args given ∷ below) d h trap = still_runs d.outcome (ap (λ (x : Configuration). x.outcome) h) trap

entered_runs : {X : Type 0} → (s : Store) (g : Activation) (below : List Layer) (d : Configuration) (a : ℕ) (inst : FuncInst) → EntersInst s g below d a inst → d.outcome ≡ Trapped → X
entered_runs s g below d a (Code ty instance code) h trap = still_runs d.outcome (ap (λ (x : Configuration). x.outcome) h.3) trap
entered_runs s g below d a (Host ty) h trap = still_runs d.outcome (ap (λ (x : Configuration). x.outcome) h.1) trap

pub top_trap : (grows : Bool) (s : Store) (f : Activation) (below : List Layer) (d : Configuration) → Moves grows s f below d f.rest → d.outcome ≡ Trapped → d.store ≡ s
top_trap grows s f below d h =
    step_cases s f below d (d.outcome ≡ Trapped → d.store ≡ s) (
    λ u g instance func e trap. still_runs d.outcome (ap (λ (x : Configuration). x.outcome) e) trap
    ) (λ e trap. ap (λ (x : Configuration). x.store) e) (
    λ g instance func e trap. given_runs s (take (length (type_of_inst e.0).results) g.operands) below d e.3 trap
    ) (λ g a inst instance func there e trap. entered_runs s g below d a inst e trap) grows f.rest h

trap_stays : (c : Setting) (number : ℕ) (i : Instance) (config d : Configuration) (f : Activation) (below : List Layer) → IsInside number config f below → Step config d → d.outcome ≡ Trapped → d.store ≡ config.store
trap_stays c number i config d f below inside h trap =
    let top : TopMoves h.0 config.store (OfCode f ∷ below) d = subst (λ l. TopMoves h.0 config.store l d) inside.frames h.1.1 in
    top_trap h.0 config.store f below d top trap

-- ---- frames are dropped from inside

module _ (c : Setting) (number : ℕ) (i : Instance) (config d : Configuration) (k : Knowledge) (f : Activation) (below : List Layer) (kept : KeptBy c number i config k) (inside : IsInside number config f below) (typed : Typed d) (store : d.store ≡ config.store) where
  inside_seats : seats number config.frames ≡ Own f ∷ seats number below
  inside_seats = ap (seats number) inside.frames ∙ ap (λ x. x ∷ seats number below) (own_seat number f inside.instance)

  -- The invariant that a trap gives is kept with what frames below go on to keep.
  drops_inside : (own : List ℤ) → InvariantKept c (stable_values_in c.code config.store i) own (kept_pieces k) → (xs : List Seat) → seats number below ≡ xs ++ seats number d.frames → OthersOnTop (seats number d.frames) → Kept c number i d
  drops_inside own inv xs split out =
      let k' : Knowledge = record k { own = own } in
      let stack : Stack c config.store i (above_by f k.runner) (seats number below) k.sleepers k.starter = subst (SleepersKept c config.store i k) inside_seats kept.sleepers in
      let moved : Stack c d.store i (above_by f k.runner) (xs ++ seats number d.frames) k.sleepers k.starter =
      subst (λ (s : Store). Stack c s i (above_by f k.runner) (xs ++ seats number d.frames) k.sleepers k.starter) (sym store) (
      subst (λ l. Stack c config.store i (above_by f k.runner) l k.sleepers k.starter) split stack
      )
      in
      let confined : Confined c.code number i d.store = subst (Confined c.code number i) (sym store) kept.confined in
      let instance : IsInstanceOf c number i d.store = subst (IsInstanceOf c number i) (sym store) kept.instance in
      let invariant : InvariantKept c (stable_values_in c.code d.store i) own (kept_pieces k') =
      subst (λ (s : Store). InvariantKept c (stable_values_in c.code s i) own (kept_pieces k')) (sym store) inv
      in
      dropped c number i d k' typed confined instance invariant (above_by f k.runner) xs (seats number d.frames) out refl moved

-- ---- all actions

module _ (c : Setting) (reentries : ReentriesKeep c) (returns : ReturnsKeep c) (steps : InsideStepsKeep c) (traps : InsideTrapsGive c) where
  from_outside : (number : ℕ) (i : Instance) (config d : Configuration) (e : Action) → Kept c number i config → Outside config number → Acts config e d → Kept c number i d
  from_outside number i config d e kept out h =
      let k = kept.1 in
      let typed = actions_preserve e config d k.typed h in
      let u = outside_is_untouched c.code number i config d e k.typed k.confined out h in
      let o = outside_seats number config.frames out in
      elim (outside_actions_move c.code number i config d e k.typed k.confined out h) [
        | inl x ↦ outsiders_keep c number i config d e kept out h (inl x)
        | inr y ↦ elim y [
          | inl x ↦ outsiders_keep c number i config d e kept out h (inr x)
          | inr z ↦ elim z [
            | inl x ↦ reentries number i config d kept.0 e k h typed u o x
            | inr x ↦ returns number i config d kept.0 e k h typed u o x
          ]
        ]
      ]

  -- A step that traps leaves no frame.
  module _ (number : ℕ) (i : Instance) (config d : Configuration) (kept : Kept c number i config) (f : Activation) (below : List Layer) (inside : IsInside number config f below) where
    no_frame : (o : Outcome) (frames : List Layer) → o ≡ Trapped → OutcomeTyped o frames → frames ≡ []
    no_frame Running frames h t = cc
    no_frame (Done values) frames h t = t.0
    no_frame Trapped frames h t = t

    trapped_store : Step config d → d.outcome ≡ Trapped → d.store ≡ config.store
    trapped_store h trap = trap_stays c number i config d f below inside h trap

    step_by : (o : Outcome) → d.outcome ≡ o → Step config d → Kept c number i d
    step_by Running is h = steps number i config d kept.0 f below kept.1 inside h (λ e. (let no : Running ≡ Trapped = sym is ∙ e in cc))
    step_by (Done values) is h = steps number i config d kept.0 f below kept.1 inside h (λ e. (let no : Done values ≡ Trapped = sym is ∙ e in cc))
    step_by Trapped is h =
        let typed = actions_preserve Steps config d kept.1.typed h in
        let inv = traps number i config d kept.0 f below kept.1 inside h is in
        let none : d.frames ≡ [] = no_frame d.outcome d.frames is typed.outcome in
        let after : seats number d.frames ≡ [] = ap (seats number) none in
        drops_inside c number i config d kept.0 f below kept.1 inside typed (trapped_store h is) inv.0 inv.1 (seats number below) (
        sym (append-nil (seats number below)) ∙ ap (λ l. seats number below ++ l) (sym after)
        ) (subst OthersOnTop (sym after) tt)

    catch_by : HostCatch config d → Kept c number i d
    catch_by h =
        let typed = actions_preserve HostCatches config d kept.1.typed h in
        let same : OfCode f ∷ below ≡ h.top ∷ h.above ++ OfHost h.func h.args h.given ∷ h.below = sym inside.frames ∙ h.frames in
        let rest : below ≡ h.above ++ OfHost h.func h.args h.given ∷ h.below = cc in
        let after : seats number d.frames ≡ Other h.func ∷ seats number h.below = ap (λ (x : Configuration). seats number x.frames) h.after in
        let split : seats number below ≡ seats number h.above ++ seats number d.frames =
        ap (seats number) rest ∙ map-append (seat number) h.above (OfHost h.func h.args h.given ∷ h.below) ∙ ap (λ l. seats number h.above ++ l) (sym after)
        in
        let store : d.store ≡ config.store = ap (λ (x : Configuration). x.store) h.after in
        elim h.can_trap [
          | inl t ↦ (let inv = traps number i config t.0 kept.0 f below kept.1 inside t.1 t.2 in drops_inside c number i config d kept.0 f below kept.1 inside typed store inv.0 inv.1 (seats number h.above) split (subst OthersOnTop (sym after) tt))
          | inr t ↦ absurd (no_host config.frames f below inside.frames t)
        ]

    act_by : (a : Action) → Acts config a d → Kept c number i d
    act_by Steps h = step_by d.outcome refl h
    act_by (Instantiates m externs) h = absurd (no_rest config f below kept.1.typed inside.frames h.2.at_rest)
    act_by (Invokes e values) h = absurd (no_rest config f below kept.1.typed inside.frames (invoked_rests config d e values h.1))
    act_by (AddsHost ty) h = absurd (no_rest config f below kept.1.typed inside.frames h.0)
    act_by (HostWrites write) h = absurd (no_control config.outcome config.frames f below kept.1.typed.outcome inside.frames h.1)
    act_by (HostCalls a values) h = absurd (no_host config.frames f below inside.frames h.3)
    act_by (HostReturns values) h = absurd (host_isnt_code f h.0 h.1 h.2 below h.3 (sym inside.frames ∙ h.6))
    act_by HostTraps h = absurd (no_host config.frames f below inside.frames h.1)
    act_by HostCatches h = catch_by h
    act_by (HostLoads m externs) h = absurd (no_host config.frames f below inside.frames h.host)

  pub actions_keep : (number : ℕ) (i : Instance) (config d : Configuration) (e : Action) → Kept c number i config → Acts config e d → Kept c number i d
  actions_keep number i config d e kept h =
      elim (where_control number config config.frames refl) [
        | inl out ↦ from_outside number i config d e kept out h
        | inr x ↦ act_by number i config d kept x.0 x.1 x.2 e h
      ]

pub actions_follow : ActionsFollow
actions_follow c reentries returns steps traps = actions_keep c reentries returns steps traps
