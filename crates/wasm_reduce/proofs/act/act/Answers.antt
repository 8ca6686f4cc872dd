use Rattle.std.proofs.Common.{◌≡◌, ℕ, ◌+◌, ◌⊎◌, inl, inr, List, IfOk, reverse, refl, sym, subst}
use Rattle.std.proofs.lemmas.Result.{IfOk-weaker, on_err_weaker}
use Rattle.wasm_syntax.specs.declared.seen.Simple.{Simple}
use Rattle.wasm_syntax.specs.Items.{instr_seen}
use Rattle.wasm_syntax.specs.declared.instr.Instr.{Instr}
use Rattle.wasm_syntax.specs.declared.instr.Instr.TheVariants as instr
use Rattle.wasm_syntax.specs.declared.next.Next.{Next}
use Rattle.wasm_syntax.specs.declared.next.Next.TheVariants as next
use Rattle.wasm_syntax.specs.Trees.{Sequence, Empty, instruction_of}
use Rattle.wasm_syntax.specs.Places.{rest_at, OneAt, IsNext}
use Rattle.wasm_store.specs.Step.{Moves}
use Rattle.wasm_reduce.specs.declared.effect.Effect.{Effect}
use Rattle.wasm_reduce.specs.words.Effects.{Can, CameOf, Does, body_in, seen_in, grows_in}
use Rattle.wasm_reduce.specs.words.Layers.{BeginsInside}
use Rattle.wasm_reduce.proofs.Acting.{by_one, closes}
use Rattle.wasm_reduce.proofs.act.act.Goals as goal

pub returns-in-Plain-clause-ok : goal.returns-in-Plain-clause-ok
returns-in-Plain-clause-ok c =
    let s = c.args.store.now in
    let f = c.args.frame.now in
    let one : OneAt (body_in s f) f.position (instr.Plain c.in-Plain.op) =
    subst (λ (i : Simple). OneAt (body_in s f) f.position (instr_seen i)) c.in-Plain.is c.in-One.ensures.next
    in
    by_one (λ R. IfOk c.act_plain.result (CameOf R s f c.act_plain.new.store c.act_plain.new.frame)) c.args.policy.now s f (instr.Plain c.in-Plain.op) one c.act_plain.ensures.ok

pub returns-in-GlobalSet-clause-ok : goal.returns-in-GlobalSet-clause-ok
returns-in-GlobalSet-clause-ok c =
    let s = c.args.store.now in
    let f = c.args.frame.now in
    let one : OneAt (body_in s f) f.position (instr.GlobalSet c.in-GlobalSet.x) =
    subst (λ (i : Simple). OneAt (body_in s f) f.position (instr_seen i)) c.in-GlobalSet.is c.in-One.ensures.next
    in
    by_one (λ R. CameOf R s f c.set_global.new.store c.set_global.new.frame c.set_global.result) c.args.policy.now s f (instr.GlobalSet c.in-GlobalSet.x) one c.set_global.ensures.ok

pub returns-in-Store-clause-ok : goal.returns-in-Store-clause-ok
returns-in-Store-clause-ok c =
    let s = c.args.store.now in
    let f = c.args.frame.now in
    let i = instr.Store c.in-Store.op c.in-Store.field-1 c.in-Store.offset in
    let one : OneAt (body_in s f) f.position i =
    subst (λ (i : Simple). OneAt (body_in s f) f.position (instr_seen i)) c.in-Store.is c.in-One.ensures.next
    in
    by_one (λ R. CameOf R s f c.store_number.new.store c.store_number.new.frame c.store_number.result) c.args.policy.now s f i one c.store_number.ensures.ok

pub returns-in_default : goal.returns-in_default
returns-in_default c =
    let s = c.args.store.now in
    let f = c.args.frame.now in
    let i = instr_seen c.in-One.instr in
    let a = c.act_reading in
    let g = grows_in c.args.policy.now s (seen_in s f) in
    record {
      ok = by_one (λ R. IfOk a.result (CameOf R s f s a.new.frame)) c.args.policy.now s f i c.in-One.ensures.next (
          IfOk-weaker a.result (λ (e : Effect). (grows : _) → CameOf (Does grows (instruction_of i) s f (f.position + 1)) s f s a.new.frame e)
          (λ e. CameOf (Does g (instruction_of i) s f (f.position + 1)) s f s a.new.frame e) (λ e h. h g) a.ensures.ok
          );
      code = (refl, refl);
      err = on_err_weaker a.result (λ h. (
        refl,
        h.0,
        subst (λ (rest : Sequence). BeginsInside rest) (sym c.in-One.ensures.next.rest) h.1,
      )) a.ensures.err;
    }

nothing_left : (body : List Instr) (p : ℕ) (n : Next) → IsNext body p n → (n ≡ next.Else) ⊎ (n ≡ next.End) → rest_at body p ≡ Empty
nothing_left body p n h (inl e) = let at : IsNext body p next.Else = subst (λ (m : Next). IsNext body p m) e h in at.0
nothing_left body p n h (inr e) = subst (λ (m : Next). IsNext body p m) e h

pub returns-in-Else-clause-ok : goal.returns-in-Else-clause-ok
returns-in-Else-clause-ok c =
    let s = c.args.store.now in
    let f = c.args.frame.now in
    let g = grows_in c.args.policy.now s (seen_in s f) in
    let over = nothing_left (body_in s f) f.position c.next_in.result c.next_in.ensures.next c.in-Else.is in
    subst (λ (rest : Sequence). CameOf (λ below d. Moves g s (seen_in s f) below d rest) s f s c.close.new.frame c.close.result) (sym over) (
    closes s f c.close.new.frame c.close.result (reverse f.labels) (
    subst (λ (rest : Sequence). Can (λ below d. Moves g s (seen_in s f) below d rest)) over c.requires.can
    ) refl c.close.ensures
    )
