-- Functions of a typed store can be entered.
use Rattle.std.proofs.Common.{◌≡◌, ℕ, ◌<◌, Some, length, slice_get, ap, ◌∙◌}
use Rattle.wasm_store.specs.declared.store.FuncInst.{FuncInst}
use Rattle.wasm_store.specs.declared.store.FuncInst.TheVariants.{Code, Host}
use Rattle.wasm_store.specs.declared.store.Store.{Store}
use Rattle.wasm_store.specs.Seen.{func_in}
use Rattle.wasm_store.specs.Control.{IsEnterable}
use Rattle.type_safety.specs.Shapes.{shape_of}
use Rattle.type_safety.specs.Stores.{FuncInstTyped, StoreTyped}
use Rattle.type_safety.proofs.Lists.{there, all-get}

enterable_inst : (s : Store) (inst : FuncInst) → FuncInstTyped (shape_of s) inst → IsEnterable s.instances inst
enterable_inst s (Code ty instance code) t = let f = t.1 in (f.fn, ap (λ i. func_in i code) f.inst_there ∙ f.fn_there)
enterable_inst s (Host ty) t = tt

-- The function at an address is there, and its code is.
pub enterable : (s : Store) (a : ℕ) → StoreTyped s → a < length s.funcs → (inst : FuncInst) × (slice_get s.funcs a ≡ Some inst) × IsEnterable s.instances inst
enterable s a typed within =
    let f = there s.funcs a within in
    (f.0, f.1, enterable_inst s f.0 (all-get (FuncInstTyped (shape_of s)) s.funcs a f.0 typed.funcs f.1))
