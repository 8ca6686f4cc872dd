use Rattle.std.proofs.Common.{◌≡◌, ◌+◌, ◌<◌, List, Some, All, length, slice_get, sym, ap, subst, ◌∙◌, arith}
use Rattle.wasm_values.specs.declared.number.Val.{Val}
use Rattle.wasm_typing.specs.Valid.{ValInRange}
use Rattle.wasm_store.specs.declared.store.FuncInst.{FuncInst}
use Rattle.wasm_store.specs.Configuration.{Configuration}
use Rattle.wasm_store.specs.Control.{type_of_inst}
use Rattle.type_safety.specs.Shapes.{types}
use Rattle.wasm_sessions.specs.Pool.{InReach}
use Rattle.wasm_instantiate.specs.words.Acting.{EntersOver}
use Rattle.wasm_instantiate.proofs.SearchLemmas.{fails}
use Rattle.wasm_instantiate.proofs.ActLemmas.{reach_exists, call_mistyped, called, frames_count}
use Rattle.wasm_instantiate.proofs.acting.call.Goals as goal

pub returns-then-not-have_types : goal.returns-then-not-have_types
returns-then-not-have_types c =
    let now = c.args.config.now in
    let a = c.args.func in
    let R : Configuration → Type 0 = λ x. InReach x.store a in
    let S : Configuration → Type 0 = λ x. (inst : FuncInst) → slice_get x.store.funcs a ≡ Some inst → c.type_at-ty.result.now ≡ type_of_inst inst in
    let reach = subst R c.config.view_is (c.is_in_reach.ensures.0 c.if-not-is_in_reach.false) in
    call_mistyped c.args.policy.now now a c.args.args.now c.type_at-ty.result.now (subst S c.config.view_is c.type_at-ty.ensures) reach (reach_exists now.store c.requires.typed.store a reach) (
    fails c.have_types.result (λ h. c.have_types.ensures.same.1 (ap types c.as_slice.ensures ∙ h ∙ sym c.as_slice-2.ensures)) c.if-not-have_types.true
    )

pub enter_over-requires-clause-exists : goal.enter_over-requires-clause-exists
enter_over-requires-clause-exists c =
    let R : Configuration → Type 0 = λ x. InReach x.store c.args.func in
    reach_exists c.args.config.now.store c.requires.typed.store c.args.func (subst R c.config.view_is (c.is_in_reach.ensures.0 c.if-not-is_in_reach.false))

pub returns : goal.returns
returns c =
    let now = c.args.config.now in
    let a = c.args.func in
    let ok = c.if-not-have_types.false in
    let R : Configuration → Type 0 = λ x. InReach x.store a in
    let S : Configuration → Type 0 = λ x. (inst : FuncInst) → slice_get x.store.funcs a ≡ Some inst → c.type_at-ty.result.now ≡ type_of_inst inst in
    let V : List Val → Type 0 = λ v. All ValInRange v in
    let E : List Val → Type 0 = λ v. EntersOver now a v c.enter_over.new.config in
    let reach = subst R c.config.view_is (c.is_in_reach.ensures.0 c.if-not-is_in_reach.false) in
    let same = ap types (sym c.as_slice.ensures) ∙ c.have_types.ensures.same.0 ok ∙ c.as_slice-2.ensures in
    let count = frames_count c.config.inside now c.config.view_is in
    let within : c.args.policy.now.frames < length now.frames + 1 → ⊥ = λ more. omega (arith, more, count, c.len.ensures, c.if-len-policy.false) in
    called c.args.policy.now now c.enter_over.new.config a c.args.args.now c.type_at-ty.result.now c.requires.typed c.requires.host reach (subst S c.config.view_is c.type_at-ty.ensures) same (subst V c.as_slice.ensures (c.have_types.ensures.ranges ok)) within (subst E c.in_ok-args.ensures c.in_ok-enter_over.ensures.ok)
