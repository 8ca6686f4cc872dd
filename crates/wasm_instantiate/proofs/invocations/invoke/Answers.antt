use Rattle.std.proofs.Common.{◌≡◌, List, Some, All, slice_get, refl, sym, ap, subst, ◌∙◌}
use Rattle.wasm_values.specs.declared.number.Val.{Val}
use Rattle.wasm_typing.specs.Valid.{ValInRange}
use Rattle.wasm_store.specs.declared.store.FuncInst.{FuncInst}
use Rattle.wasm_store.specs.Configuration.{Configuration}
use Rattle.wasm_store.specs.Control.{type_of_inst}
use Rattle.type_safety.specs.Shapes.{types}
use Rattle.wasm_sessions.specs.Instantiation.{Invoked}
use Rattle.wasm_instantiate.specs.Answers.{EntersAlone}
use Rattle.wasm_instantiate.proofs.EnteringLemmas.{invoked, differ}
use Rattle.wasm_instantiate.proofs.invocations.invoke.Goals as goal

pub returns-then-not-have_types-clause-answers : goal.returns-then-not-have_types-clause-answers
returns-then-not-have_types-clause-answers c =
    let h = c.have_types.ensures in
    (differ c.config.inside c.args.config.now c.args.target.now c.in-Func.address c.as_slice.result.now c.args.args.now.items c.as_slice-in-Func.result.now c.type_at-ty.result.now c.have_types.result c.config.view_is c.in-Func.is c.requires.exists c.as_slice.ensures.value c.as_slice-in-Func.ensures c.type_at-ty.ensures h.same.1 c.if-not-have_types.true, refl)

-- The arguments are entered as they are.
given : (c : goal.In_ok-enter_alone-in-Func) → EntersAlone c.args.config.now c.in-Func.address c.args.args.now.items c.enter_alone.new.config
given c =
    let same = c.from_vec-args.ensures ∙ c.in_ok-from_slice-in-Func.ensures.items ∙ c.as_slice-in-Func-2.ensures.value in
    let P : List Val → Type 0 = λ v. EntersAlone c.args.config.now c.in-Func.address v c.enter_alone.new.config in
    subst P same c.in_ok-enter_alone-in-Func.ensures.ok

is_invoked : (c : goal.In_ok-enter_alone-in-Func) → Invoked c.args.config.now c.args.target.now c.args.args.now.items c.enter_alone.new.config
is_invoked c =
    let h = c.have_types.ensures in
    let ok = c.if-not-have_types.false in
    let all = c.as_slice.ensures.value in
    let S : Configuration → Type 0 = λ x. (inst : FuncInst) → slice_get x.store.funcs c.in-Func.address ≡ Some inst → c.type_at-ty.result.now ≡ type_of_inst inst in
    let R : List Val → Type 0 = λ l. All ValInRange l in
    invoked c.args.config.now c.enter_alone.new.config c.args.target.now c.in-Func.address c.args.args.now.items c.as_slice-in-Func.result.now c.type_at-ty.result.now c.in-Func.is c.requires.at_rest
    (ap types (sym all) ∙ h.same.0 ok) (subst R all (h.ranges ok)) c.as_slice-in-Func.ensures (subst S c.config.view_is c.type_at-ty.ensures) (given c)

pub returns-in_ok-enter_alone-in-Func-clause-answers : goal.returns-in_ok-enter_alone-in-Func-clause-answers
returns-in_ok-enter_alone-in-Func-clause-answers c = is_invoked c

pub returns-in_ok-enter_alone-in-Func-clause-typed : goal.returns-in_ok-enter_alone-in-Func-clause-typed
returns-in_ok-enter_alone-in-Func-clause-typed c =
    c.invocations_keep_types.ensures c.args.target.now c.args.args.now.items c.args.config.now c.enter_alone.new.config c.requires.typed (is_invoked c)
