use Rattle.std.proofs.Common.{◌≡◌, List, Some, All, slice_get, sym, ap, subst, ◌∙◌}
use Rattle.wasm_values.specs.declared.number.Val.{Val}
use Rattle.wasm_typing.specs.Valid.{ValInRange}
use Rattle.wasm_store.specs.declared.store.FuncInst.{FuncInst}
use Rattle.wasm_store.specs.Configuration.{Configuration}
use Rattle.wasm_store.specs.Control.{type_of_inst}
use Rattle.type_safety.specs.Shapes.{types}
use Rattle.wasm_instantiate.specs.words.Acting.{LeavesWith}
use Rattle.wasm_instantiate.proofs.SearchLemmas.{fails}
use Rattle.wasm_instantiate.proofs.ActLemmas.{host_frame, return_refused, return_done}
use Rattle.wasm_instantiate.proofs.acting.give_back.Goals as goal

pub returns-then-not-have_types : goal.returns-then-not-have_types
returns-then-not-have_types c = λ policy.
    let now = c.args.config.now in
    let func = c.in-Some.func in
    let S : Configuration → Type 0 = λ x. (inst : FuncInst) → slice_get x.store.funcs func ≡ Some inst → c.type_at-ty.result.now ≡ type_of_inst inst in
    return_refused policy now func c.args.values.now c.type_at-ty.result.now c.requires.typed (host_frame now.frames func (sym c.host_top.ensures ∙ c.in-Some.is)) (subst S c.config.view_is c.type_at-ty.ensures) (
    fails c.have_types.result (λ h. c.have_types.ensures.same.1 (ap types c.as_slice.ensures ∙ h ∙ sym c.as_slice-2.ensures)) c.if-not-have_types.true
    )

pub returns : goal.returns
returns c = λ policy.
    let now = c.args.config.now in
    let func = c.in-Some.func in
    let ok = c.if-not-have_types.false in
    let S : Configuration → Type 0 = λ x. (inst : FuncInst) → slice_get x.store.funcs func ≡ Some inst → c.type_at-ty.result.now ≡ type_of_inst inst in
    let V : List Val → Type 0 = λ v. All ValInRange v in
    let L : List Val → Type 0 = λ v. LeavesWith now v c.leave.new.config in
    let same = ap types (sym c.as_slice.ensures) ∙ c.have_types.ensures.same.0 ok ∙ c.as_slice-2.ensures in
    return_done policy now func c.args.values.now c.type_at-ty.result.now c.requires.typed (host_frame now.frames func (sym c.host_top.ensures ∙ c.in-Some.is)) (subst S c.config.view_is c.type_at-ty.ensures) c.leave.new.config c.told_of_return.result c.requires.host same (subst V c.as_slice.ensures (c.have_types.ensures.ranges ok)) (subst L c.in_ok-values.ensures c.in_ok-leave.ensures.ok) c.told_of_return.ensures
