use Rattle.std.proofs.Common.{subst, sym, ap, ◌∙◌, length}
use Rattle.wasm_syntax.specs.declared.module.Module.{Module}
use Rattle.wasm_store.specs.Configuration.{Configuration}
use Rattle.type_safety.specs.Stores.{StoreTyped}
use Rattle.wasm_sessions.specs.Instantiation.{initialized, Starts, Instantiated}
use Rattle.module_instances.specs.words.Putting.{with_parts, IsReady}
use Rattle.wasm_sessions.proofs.Allocating.{allocated_typed}
use Rattle.module_instances.proofs.StartingLemmas.{ready_of, refused_of, passed_on, start_exists, instantiated}
use Rattle.module_instances.proofs.instantiation.instantiate.Goals as goal
use Rattle.module_instances.proofs.instantiation.instantiate.Goals.{In_ok-parts}

pub returns-in_err-parts-clause-answers : goal.returns-in_err-parts-clause-answers
returns-in_err-parts-clause-answers c =
    let refused = refused_of c.args.policy.now c.config.inside c.args.config.now c.module-module.result.now c.args.module.now c.as_slice.result.now c.args.externs.now.items c.in_err-parts.field-0.0 c.config.view_is c.module-module.ensures.same c.as_slice.ensures.value c.in_err-parts.ensures in
    passed_on c.args.policy.now c.args.config.now c.args.module.now c.args.externs.now.items c.from_residual.result c.in_err-parts.field-0.0 c.from_residual.ensures.1 refused

-- All is ready before anything is put in.
ready : (c : In_ok-parts) → IsReady c.args.policy.now c.args.config.now.store c.args.module.now c.args.externs.now.items c.in_ok-parts.parts
ready c = ready_of c.args.policy.now c.config.inside c.args.config.now c.module-module.result.now c.args.module.now c.as_slice.result.now c.args.externs.now.items c.in_ok-parts.parts c.config.view_is c.module-module.ensures.same c.as_slice.ensures.value c.in_ok-parts.ensures

pub put_in-requires-clause-typed : goal.put_in-requires-clause-typed
put_in-requires-clause-typed c =
    let r = ready (goal.at.put_in-requires-clause-typed c).In_ok-parts in
    subst StoreTyped (sym r.parts.store) (allocated_typed c.args.config.now.store c.requires.typed.store c.args.module.now c.module-module.ensures.valid c.args.externs.now.items r.matching)

pub put_in-requires-clause-exists : goal.put_in-requires-clause-exists
put_in-requires-clause-exists c =
    let r = ready (goal.at.put_in-requires-clause-exists c).In_ok-parts in
    start_exists c.args.config.now.store c.requires.typed.store c.args.module.now c.module-module.ensures.valid c.args.externs.now.items r.matching c.in_ok-parts.parts r.parts

-- What was put in is an instantiation.
is_instantiated : (c : goal.In_ok-put_in) → IsReady c.args.policy.now c.args.config.now.store c.args.module.now c.args.externs.now.items c.in_ok-parts.parts → Instantiated c.args.config.now c.args.module.now c.args.externs.now.items c.put_in.new.config
is_instantiated c r =
    let p = c.in_ok-parts.parts in
    let M : Module → Type 0 = λ m. Starts (initialized (with_parts c.args.config.now.store p) p.instance m) p.instance m.start c.put_in.new.config in
    instantiated c.args.config.now c.put_in.new.config c.args.module.now c.args.externs.now.items p c.requires.at_rest r.matching r.in_bounds r.parts (subst M c.module-module.ensures.same c.in_ok-put_in.ensures.ok)

pub returns-clause-answers : goal.returns-clause-answers
returns-clause-answers c =
    let r = ready (goal.at.returns-clause-answers c).In_ok-parts in
    (is_instantiated c r, c.len-number.ensures ∙ ap (λ (x : Configuration). length x.store.instances) c.config.view_is, r.within)

pub returns-clause-typed : goal.returns-clause-typed
returns-clause-typed c =
    let r = ready (goal.at.returns-clause-typed c).In_ok-parts in
    c.instantiations_keep_types.ensures c.args.module.now c.args.externs.now.items c.module-module.ensures.valid c.args.config.now c.put_in.new.config c.requires.typed (is_instantiated c r)
