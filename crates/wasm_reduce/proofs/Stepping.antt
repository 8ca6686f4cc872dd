-- A step of a configuration, by its top frame.
use Rattle.std.proofs.Common.{◌≡◌, ℕ, ◌+◌, ◌<◌, ◌≤◌, List, [], ◌∷◌, length, map, reverse, refl, sym, ap, subst, ◌∙◌, arith}
use Rattle.std.proofs.lemmas.List.{length-map, length-reverse}
use Rattle.wasm_store.specs.declared.config.CodeFrame.{CodeFrame}
use Rattle.wasm_store.specs.declared.config.Frame.{Frame}
use Rattle.wasm_store.specs.declared.config.Frame.TheVariants.{Code, Host}
use Rattle.wasm_store.specs.declared.config.Outcome.{Outcome}
use Rattle.wasm_store.specs.declared.config.Outcome.TheVariants.{Running, Trapped}
use Rattle.wasm_store.specs.declared.store.Store.{Store}
use Rattle.wasm_store.specs.Configuration.{Layer, OfCode, Configuration}
use Rattle.wasm_store.specs.Seen.{seen_frame}
use Rattle.wasm_store.specs.Control.{Leaves, Enters}
use Rattle.wasm_store.specs.Step.{TopMoves}
use Rattle.wasm_reduce.specs.declared.effect.Effect.{Effect}
use Rattle.wasm_reduce.specs.declared.effect.Effect.TheVariants.{Went, Trap, Leave, Enter}
use Rattle.wasm_reduce.specs.declared.policy.Policy.{Policy}
use Rattle.wasm_reduce.specs.Policies.{grows_next, PolicyStep, PassesFrames}
use Rattle.wasm_reduce.specs.words.Effects.{Can, CameOf, SameCode, seen_in, moved_to, under, moves_of}
use Rattle.wasm_reduce.specs.words.Layers.{BeginsInside, HasTop, layers, stands_for}
use Rattle.wasm_reduce.proofs.Counts.{leaves_fewer, leaves_any, enters_longer, enters_any, stays, passes_not, passes_not_within}

top_of : (policy : Policy) (s : Store) (ys : List Frame) (d : Configuration) → TopMoves (grows_next policy s (layers s ys)) s (layers s ys) d → (f : CodeFrame) × (below : List Frame) × (ys ≡ Code f ∷ below) × moves_of policy s f (layers s below) d
top_of policy s [] d h = elim h [ ]
top_of policy s (Code f ∷ below) d h = (f, below, refl, h)
top_of policy s (Host func args given ∷ below) d h = elim h [ ]

-- What a configuration that has a step has on top.
pub record Top (policy : Policy) (s : Store) (xs : List Frame) (o : Outcome) : Type 0 where
  pub f : CodeFrame
  pub below : List Frame
  pub on_top : HasTop xs f below
  pub can : Can (moves_of policy s f)
  pub running : o ≡ Running

pub top : (policy : Policy) (s : Store) (xs : List Frame) (o : Outcome) → (d : Configuration) × PolicyStep policy (stands_for s xs o) d → Top policy s xs o
top policy s xs o h =
    let t = top_of policy s (reverse xs) h.0 h.1.1 in
    record { f = t.0; below = t.1; on_top = t.2; can = (layers s t.1, h.0, t.3); running = h.1.0 }

pub layers_same : (s s' : Store) (frames : List Frame) → SameCode s s' → layers s' frames ≡ layers s frames
layers_same s s' frames same =
    ap (λ funcs. map (seen_frame funcs s'.instances) frames) same.0
    ∙ ap (λ instances. map (seen_frame s.funcs instances) frames) same.1

length-layers : (s : Store) (xs : List Frame) → length (layers s (reverse xs)) ≡ length xs
length-layers s xs = length-map (reverse xs) (seen_frame s.funcs s.instances) ∙ length-reverse xs

length-top : (xs below : List Frame) (f : CodeFrame) → HasTop xs f below → length xs ≡ length below + 1
length-top xs below f h = omega (arith, ap length h, length-reverse xs)

module _ (policy : Policy) (s : Store) (xs : List Frame) (o : Outcome) (t : Top policy s xs o) where
  pub step_by : (d : Configuration) → moves_of policy s t.f (layers s t.below) d → PolicyStep policy (stands_for s xs o) d
  step_by d h =
      (t.running, subst (λ (ys : List Frame). TopMoves (grows_next policy s (layers s ys)) s (layers s ys) d) (sym t.on_top) h)

  count : length (stands_for s xs o).frames ≡ length t.below + 1
  count = length-layers s xs ∙ length-top xs t.below t.f t.on_top

  -- Code that begins with no call passes no number of frames.
  pub inside : BeginsInside (seen_in s t.f).rest → PassesFrames policy (stands_for s xs o) → ⊥
  inside begins h =
      let moves : moves_of policy s t.f (layers s t.below) h.0 =
      subst (λ (ys : List Frame). TopMoves (grows_next policy s (layers s ys)) s (layers s ys) h.0) t.on_top h.1.1
      in
      let few = stays s (layers s t.below) h.0 _ (seen_in s t.f) (seen_in s t.f).rest begins moves in
      omega (arith, few, h.2, count, length-map t.below (seen_frame s.funcs s.instances))

  -- The same frames in the same store stand for the same.
  pub unchanged : (s' : Store) (ys : List Frame) → s' ≡ s → HasTop ys t.f t.below → stands_for s' ys o ≡ stands_for s xs o
  unchanged s' ys same on_top =
      ap (λ (x : Store). stands_for x ys o) same
      ∙ ap (λ (r : List Frame). record { store = s; frames = layers s r; outcome = o }) (on_top ∙ sym t.on_top)

  module _ (s' : Store) (ys : List Frame) (effect : Effect) (acted : (f : CodeFrame) (below : List Frame) → HasTop xs f below → (g : CodeFrame) × HasTop ys g below × CameOf (moves_of policy s f) s f s' g effect) where
    acts_as : (e : Effect) → effect ≡ e → (g : CodeFrame) × HasTop ys g t.below × CameOf (moves_of policy s t.f) s t.f s' g e
    acts_as e is =
        let a = acted t.f t.below t.on_top in
        (a.0, a.1, subst (λ (x : Effect). CameOf (moves_of policy s t.f) s t.f s' a.0 x) is a.2)

    -- ---- the frame goes on

    pub went : effect ≡ Went → SameCode s s' → PolicyStep policy (stands_for s xs o) (stands_for s' ys o)
    went is same =
        let a = acts_as Went is in
        let after : layers s' (reverse ys) ≡ OfCode (seen_in s' a.0) ∷ layers s t.below =
        ap (layers s') a.1 ∙ ap (λ ls. OfCode (seen_in s' a.0) ∷ ls) (layers_same s s' t.below same)
        in
        step_by (stands_for s' ys o) (
        subst (λ (r : Outcome). moves_of policy s t.f (layers s t.below) (record { store = s'; frames = layers s' (reverse ys); outcome = r })) (sym t.running) (
        subst (λ (ls : List Layer). moves_of policy s t.f (layers s t.below) (record { store = s'; frames = ls; outcome = Running })) (sym after) (a.2 (layers s t.below))
        )
        )

    pub went_within : effect ≡ Went → SameCode s s' → PassesFrames policy (stands_for s xs o) → ⊥
    went_within is same =
        let a = acts_as Went is in
        passes_not policy (stands_for s xs o) (stands_for s' ys o) (went is same) (
        omega (arith, count, length-layers s' ys, length-top ys t.below a.0 a.1)
        )

    -- ---- a trap

    pub traps : effect ≡ Trap → (zs : List Frame) → zs ≡ [] → PolicyStep policy (stands_for s xs o) (stands_for s' zs Trapped)
    traps is zs none =
        let a = acts_as Trap is in
        step_by (stands_for s' zs Trapped) (
        subst (λ (l : List Frame). moves_of policy s t.f (layers s t.below) (stands_for s' l Trapped)) (sym none) (
        subst (λ (x : Store). moves_of policy s t.f (layers s t.below) (stands_for x [] Trapped)) (sym a.2.0) (a.2.1 (layers s t.below))
        )
        )

    pub traps_within : effect ≡ Trap → PassesFrames policy (stands_for s xs o) → ⊥
    traps_within is = passes_not policy (stands_for s xs o) (stands_for s' [] Trapped) (traps is [] refl) (omega arith)

    -- ---- the frame is left

    module _ (above : ℕ) (is : effect ≡ Leave above) where
      pub left_store : s' ≡ s
      left_store = (acts_as (Leave above) is).2.0

      pub left_top : HasTop ys t.f t.below
      left_top =
          let a = acts_as (Leave above) is in
          subst (λ (g : CodeFrame). HasTop ys g t.below) a.2.1 a.1

      pub leave_can : (f : CodeFrame) × (below : List Frame) × HasTop ys f below × (above ≤ length f.operands) × Can (λ b d. Leaves s' (under (seen_in s' f) above) b d)
      leave_can =
          let a = acts_as (Leave above) is in (
            t.f,
            t.below,
            left_top,
            a.2.2,
            subst (λ (x : Store). Can (λ b d. Leaves x (under (seen_in x t.f) above) b d)) (sym left_store) a.2.3,
          )

      leave_here : (d : Configuration) → Leaves s (under (seen_in s t.f) above) (layers s t.below) d → PolicyStep policy (stands_for s xs o) d
      leave_here d h = let a = acts_as (Leave above) is in step_by d (a.2.4 (layers s t.below) d h)

      pub leave_step : (d : Configuration) → Leaves s' (under (seen_in s' t.f) above) (layers s' t.below) d → PolicyStep policy (stands_for s xs o) d
      leave_step d h =
          leave_here d (subst (λ (x : Store). Leaves x (under (seen_in x t.f) above) (layers x t.below) d) left_store h)

      pub leave_within : PassesFrames policy (stands_for s xs o) → ⊥
      leave_within =
          let a = acts_as (Leave above) is in
          let can = a.2.3 in
          let e = leaves_any s (under (seen_in s t.f) above) can.0 can.1 (layers s t.below) can.2 in
          passes_not policy (stands_for s xs o) e.0 (leave_here e.0 e.1) (
          omega (arith, count, leaves_fewer s (under (seen_in s t.f) above) (layers s t.below) e.0 e.1, length-map t.below (seen_frame s.funcs s.instances))
          )

    -- ---- a frame is entered

    module _ (func above on : ℕ) (is : effect ≡ Enter func above on) where
      pub entered_store : s' ≡ s
      entered_store = (acts_as (Enter func above on) is).2.0

      pub entered_top : HasTop ys t.f t.below
      entered_top =
          let a = acts_as (Enter func above on) is in
          subst (λ (g : CodeFrame). HasTop ys g t.below) a.2.1 a.1

      pub enter_can : (f : CodeFrame) × (below : List Frame) × HasTop ys f below × (above ≤ length f.operands) × Can (λ b d. Enters s' (under (moved_to s' f on) above) b d func)
      enter_can =
          let a = acts_as (Enter func above on) is in (
            t.f,
            t.below,
            entered_top,
            a.2.2,
            subst (λ (x : Store). Can (λ b d. Enters x (under (moved_to x t.f on) above) b d func)) (sym entered_store) a.2.3,
          )

      enter_here : (d : Configuration) → Enters s (under (moved_to s t.f on) above) (layers s t.below) d func → PolicyStep policy (stands_for s xs o) d
      enter_here d h = let a = acts_as (Enter func above on) is in step_by d (a.2.4 (layers s t.below) d h)

      pub enter_step : (d : Configuration) → Enters s' (under (moved_to s' t.f on) above) (layers s' t.below) d func → PolicyStep policy (stands_for s xs o) d
      enter_step d h =
          enter_here d (subst (λ (x : Store). Enters x (under (moved_to x t.f on) above) (layers x t.below) d func) entered_store h)

      entry : (d : Configuration) × Enters s (under (moved_to s t.f on) above) (layers s t.below) d func
      entry =
          let a = acts_as (Enter func above on) is in
          let can = a.2.3 in
          enters_any s (under (moved_to s t.f on) above) can.0 can.1 (layers s t.below) func can.2

      longer : length entry.0.frames ≡ length t.below + 2
      longer =
          enters_longer s (under (moved_to s t.f on) above) (layers s t.below) entry.0 func entry.1
          ∙ ap (λ n. n + 2) (length-map t.below (seen_frame s.funcs s.instances))

      pub enter_passes : policy.frames ≤ length ys → PassesFrames policy (stands_for s xs o)
      enter_passes full = (
        entry.0,
        enter_here entry.0 entry.1,
        omega (arith, count, longer),
        omega (arith, longer, full, length-top ys t.below t.f entered_top),
      )

      pub enter_within : length ys < policy.frames → PassesFrames policy (stands_for s xs o) → ⊥
      enter_within room =
          passes_not_within policy (stands_for s xs o) entry.0 (enter_here entry.0 entry.1) (
          omega (arith, longer, room, length-top ys t.below t.f entered_top)
          )
