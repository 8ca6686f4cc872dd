use Rattle.std.proofs.Common.{◌≤◌, ◌<◌, List, length, refl, sym, ap, subst, ◌∙◌, arith}
use Rattle.wasm_store.specs.declared.config.Frame.{Frame}
use Rattle.wasm_store.specs.declared.config.Outcome.{Outcome}
use Rattle.wasm_store.specs.declared.config.Outcome.TheVariants.{Running}
use Rattle.wasm_reduce.specs.Policies.{PolicyStep}
use Rattle.wasm_reduce.specs.words.Layers.{stands_for}
use Rattle.wasm_reduce.proofs.Stepping.{top, inside, unchanged, went, went_within, traps, traps_within, left_store, left_top, leave_can, leave_step, leave_within, entered_store, entered_top, enter_can, enter_step, enter_passes, enter_within}
use Rattle.wasm_reduce.proofs.machine.advance_frames.Goals as goal

pub act_on_top-requires-clause-can : goal.act_on_top-requires-clause-can
act_on_top-requires-clause-can c =
    let p = c.args.policy.now in
    let s = c.args.store.now in
    let xs = c.args.frames.now.items in
    let o = c.args.outcome.now in
    let t = top p s xs o c.requires.can in
    (t.f, t.below, t.on_top, t.can)

pub returns-in_default-clause-limit : goal.returns-in_default-clause-limit
returns-in_default-clause-limit c =
    let p = c.args.policy.now in
    let s = c.args.store.now in
    let xs = c.args.frames.now.items in
    let o = c.args.outcome.now in
    let t = top p s xs o c.requires.can in
    (λ h. cc h, λ h. absurd (inside p s xs o t (c.in_default.ensures.err.1 t.f t.below t.on_top).1 h))

pub returns-in_default-clause-err : goal.returns-in_default-clause-err
returns-in_default-clause-err c =
    let p = c.args.policy.now in
    let s = c.args.store.now in
    let xs = c.args.frames.now.items in
    let o = c.args.outcome.now in
    let t = top p s xs o c.requires.can in
    let u = c.act_on_top.new.store in
    let ys = c.act_on_top.new.frames.items in
    unchanged p s xs o t u ys c.in_default.ensures.err.0 (c.in_default.ensures.err.1 t.f t.below t.on_top).0

pub leave-requires-clause-can : goal.leave-requires-clause-can
leave-requires-clause-can c =
    let p = c.args.policy.now in
    let s = c.args.store.now in
    let xs = c.args.frames.now.items in
    let o = c.args.outcome.now in
    let t = top p s xs o c.requires.can in
    let u = c.act_on_top.new.store in
    let ys = c.act_on_top.new.frames.items in
    let acted = c.in-Ok.ensures.ok in
    let e = c.in-Ok.effect in
    leave_can p s xs o t u ys e acted c.in-Leave.above c.in-Leave.is

pub returns-then-len-policy-clause-limit : goal.returns-then-len-policy-clause-limit
returns-then-len-policy-clause-limit c =
    let p = c.args.policy.now in
    let s = c.args.store.now in
    let xs = c.args.frames.now.items in
    let o = c.args.outcome.now in
    let t = top p s xs o c.requires.can in
    let u = c.act_on_top.new.store in
    let ys = c.act_on_top.new.frames.items in
    let acted = c.in-Ok.ensures.ok in
    let e = c.in-Ok.effect in
    let full : p.frames ≤ length ys = omega (arith, c.act_on_top.new.frames.ok.0) in
    (λ h. enter_passes p s xs o t u ys e acted c.in-Enter.func c.in-Enter.above c.in-Enter.on c.in-Enter.is full, λ h. refl)

pub returns-then-len-policy-clause-err : goal.returns-then-len-policy-clause-err
returns-then-len-policy-clause-err c =
    let p = c.args.policy.now in
    let s = c.args.store.now in
    let xs = c.args.frames.now.items in
    let o = c.args.outcome.now in
    let t = top p s xs o c.requires.can in
    let u = c.act_on_top.new.store in
    let ys = c.act_on_top.new.frames.items in
    let acted = c.in-Ok.ensures.ok in
    let e = c.in-Ok.effect in
    unchanged p s xs o t u ys (entered_store p s xs o t u ys e acted c.in-Enter.func c.in-Enter.above c.in-Enter.on c.in-Enter.is) (entered_top p s xs o t u ys e acted c.in-Enter.func c.in-Enter.above c.in-Enter.on c.in-Enter.is)

pub enter-requires : goal.enter-requires
enter-requires c =
    let p = c.args.policy.now in
    let s = c.args.store.now in
    let xs = c.args.frames.now.items in
    let o = c.args.outcome.now in
    let t = top p s xs o c.requires.can in
    let u = c.act_on_top.new.store in
    let ys = c.act_on_top.new.frames.items in
    let acted = c.in-Ok.ensures.ok in
    let e = c.in-Ok.effect in
    enter_can p s xs o t u ys e acted c.in-Enter.func c.in-Enter.above c.in-Enter.on c.in-Enter.is

pub returns-in-Went-clause-step : goal.returns-in-Went-clause-step
returns-in-Went-clause-step c =
    let p = c.args.policy.now in
    let s = c.args.store.now in
    let xs = c.args.frames.now.items in
    let o = c.args.outcome.now in
    let t = top p s xs o c.requires.can in
    let u = c.act_on_top.new.store in
    let ys = c.act_on_top.new.frames.items in
    let acted = c.in-Ok.ensures.ok in
    let e = c.in-Ok.effect in
    went p s xs o t u ys e acted c.in-Went.is c.in-Ok.ensures.code

pub returns-in-Went-clause-limit : goal.returns-in-Went-clause-limit
returns-in-Went-clause-limit c =
    let p = c.args.policy.now in
    let s = c.args.store.now in
    let xs = c.args.frames.now.items in
    let o = c.args.outcome.now in
    let t = top p s xs o c.requires.can in
    let u = c.act_on_top.new.store in
    let ys = c.act_on_top.new.frames.items in
    let acted = c.in-Ok.ensures.ok in
    let e = c.in-Ok.effect in
    (λ h. cc h, λ h. absurd (went_within p s xs o t u ys e acted c.in-Went.is c.in-Ok.ensures.code h))

pub returns-in-Trap-clause-step : goal.returns-in-Trap-clause-step
returns-in-Trap-clause-step c =
    let p = c.args.policy.now in
    let s = c.args.store.now in
    let xs = c.args.frames.now.items in
    let o = c.args.outcome.now in
    let t = top p s xs o c.requires.can in
    let u = c.act_on_top.new.store in
    let ys = c.act_on_top.new.frames.items in
    let acted = c.in-Ok.ensures.ok in
    let e = c.in-Ok.effect in
    subst (λ (r : Outcome). PolicyStep p (stands_for s xs o) (stands_for u c.trap.new.frames.items r)) (sym c.trap.ensures.trapped) (
    traps p s xs o t u ys e acted c.in-Trap.is c.trap.new.frames.items c.trap.ensures.none
    )

pub returns-in-Trap-clause-limit : goal.returns-in-Trap-clause-limit
returns-in-Trap-clause-limit c =
    let p = c.args.policy.now in
    let s = c.args.store.now in
    let xs = c.args.frames.now.items in
    let o = c.args.outcome.now in
    let t = top p s xs o c.requires.can in
    let u = c.act_on_top.new.store in
    let ys = c.act_on_top.new.frames.items in
    let acted = c.in-Ok.ensures.ok in
    let e = c.in-Ok.effect in
    (λ h. cc h, λ h. absurd (traps_within p s xs o t u ys e acted c.in-Trap.is h))

pub returns-in-Ok-leave-clause-step : goal.returns-in-Ok-leave-clause-step
returns-in-Ok-leave-clause-step c =
    let p = c.args.policy.now in
    let s = c.args.store.now in
    let xs = c.args.frames.now.items in
    let o = c.args.outcome.now in
    let t = top p s xs o c.requires.can in
    let u = c.act_on_top.new.store in
    let ys = c.act_on_top.new.frames.items in
    let acted = c.in-Ok.ensures.ok in
    let e = c.in-Ok.effect in
    let d = stands_for u c.leave.new.frames.items c.leave.new.outcome in
    leave_step p s xs o t u ys e acted c.in-Leave.above c.in-Leave.is d (c.in-Ok-leave.ensures.ok t.f t.below (left_top p s xs o t u ys e acted c.in-Leave.above c.in-Leave.is))

pub returns-in-Ok-leave-clause-limit : goal.returns-in-Ok-leave-clause-limit
returns-in-Ok-leave-clause-limit c =
    let p = c.args.policy.now in
    let s = c.args.store.now in
    let xs = c.args.frames.now.items in
    let o = c.args.outcome.now in
    let t = top p s xs o c.requires.can in
    let u = c.act_on_top.new.store in
    let ys = c.act_on_top.new.frames.items in
    let acted = c.in-Ok.ensures.ok in
    let e = c.in-Ok.effect in
    (λ h. cc h, λ h. absurd (leave_within p s xs o t u ys e acted c.in-Leave.above c.in-Leave.is h))

pub returns-in-Err-clause-limit : goal.returns-in-Err-clause-limit
returns-in-Err-clause-limit c =
    let p = c.args.policy.now in
    let s = c.args.store.now in
    let xs = c.args.frames.now.items in
    let o = c.args.outcome.now in
    let t = top p s xs o c.requires.can in
    let u = c.act_on_top.new.store in
    let ys = c.act_on_top.new.frames.items in
    let acted = c.in-Ok.ensures.ok in
    let e = c.in-Ok.effect in
    (λ h. cc h, λ h. absurd (leave_within p s xs o t u ys e acted c.in-Leave.above c.in-Leave.is h))

pub returns-in-Err-clause-err : goal.returns-in-Err-clause-err
returns-in-Err-clause-err c =
    let p = c.args.policy.now in
    let s = c.args.store.now in
    let xs = c.args.frames.now.items in
    let o = c.args.outcome.now in
    let t = top p s xs o c.requires.can in
    let u = c.act_on_top.new.store in
    let ys = c.act_on_top.new.frames.items in
    let acted = c.in-Ok.ensures.ok in
    let e = c.in-Ok.effect in
    ap (λ (r : Outcome). stands_for u c.leave.new.frames.items r) c.in-Err.ensures.err.0
    ∙ ap (λ (fs : List Frame). stands_for u fs o) c.in-Err.ensures.err.1
    ∙ unchanged p s xs o t u ys (left_store p s xs o t u ys e acted c.in-Leave.above c.in-Leave.is) (left_top p s xs o t u ys e acted c.in-Leave.above c.in-Leave.is)

pub returns-in-Ok-enter-clause-step : goal.returns-in-Ok-enter-clause-step
returns-in-Ok-enter-clause-step c =
    let p = c.args.policy.now in
    let s = c.args.store.now in
    let xs = c.args.frames.now.items in
    let o = c.args.outcome.now in
    let t = top p s xs o c.requires.can in
    let u = c.act_on_top.new.store in
    let ys = c.act_on_top.new.frames.items in
    let acted = c.in-Ok.ensures.ok in
    let e = c.in-Ok.effect in
    let d = stands_for u c.enter.new.frames.items Running in
    let goes = enter_step p s xs o t u ys e acted c.in-Enter.func c.in-Enter.above c.in-Enter.on c.in-Enter.is d (c.in-Ok-enter.ensures.ok t.f t.below (entered_top p s xs o t u ys e acted c.in-Enter.func c.in-Enter.above c.in-Enter.on c.in-Enter.is)) in
    subst (λ (r : Outcome). PolicyStep p (stands_for s xs o) (stands_for u c.enter.new.frames.items r)) (sym t.running) goes

pub returns-in-Ok-enter-clause-limit : goal.returns-in-Ok-enter-clause-limit
returns-in-Ok-enter-clause-limit c =
    let p = c.args.policy.now in
    let s = c.args.store.now in
    let xs = c.args.frames.now.items in
    let o = c.args.outcome.now in
    let t = top p s xs o c.requires.can in
    let u = c.act_on_top.new.store in
    let ys = c.act_on_top.new.frames.items in
    let acted = c.in-Ok.ensures.ok in
    let e = c.in-Ok.effect in
    let room : length ys < p.frames = omega (arith, c.act_on_top.new.frames.ok.0) in
    (λ h. cc h, λ h. absurd (enter_within p s xs o t u ys e acted c.in-Enter.func c.in-Enter.above c.in-Enter.on c.in-Enter.is room h))

pub returns-in-Err-enter-clause-limit : goal.returns-in-Err-enter-clause-limit
returns-in-Err-enter-clause-limit c =
    let p = c.args.policy.now in
    let s = c.args.store.now in
    let xs = c.args.frames.now.items in
    let o = c.args.outcome.now in
    let t = top p s xs o c.requires.can in
    let u = c.act_on_top.new.store in
    let ys = c.act_on_top.new.frames.items in
    let acted = c.in-Ok.ensures.ok in
    let e = c.in-Ok.effect in
    let room : length ys < p.frames = omega (arith, c.act_on_top.new.frames.ok.0) in
    (λ h. cc h, λ h. absurd (enter_within p s xs o t u ys e acted c.in-Enter.func c.in-Enter.above c.in-Enter.on c.in-Enter.is room h))

pub returns-in-Err-enter-clause-err : goal.returns-in-Err-enter-clause-err
returns-in-Err-enter-clause-err c =
    let p = c.args.policy.now in
    let s = c.args.store.now in
    let xs = c.args.frames.now.items in
    let o = c.args.outcome.now in
    let t = top p s xs o c.requires.can in
    let u = c.act_on_top.new.store in
    let ys = c.act_on_top.new.frames.items in
    let acted = c.in-Ok.ensures.ok in
    let e = c.in-Ok.effect in
    ap (λ (fs : List Frame). stands_for u fs o) c.in-Err-enter.ensures.err
    ∙ unchanged p s xs o t u ys (entered_store p s xs o t u ys e acted c.in-Enter.func c.in-Enter.above c.in-Enter.on c.in-Enter.is) (entered_top p s xs o t u ys e acted c.in-Enter.func c.in-Enter.above c.in-Enter.on c.in-Enter.is)
