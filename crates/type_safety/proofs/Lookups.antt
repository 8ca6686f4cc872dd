-- What code of a typed frame names is there.
use Rattle.std.proofs.Common.{◌≡◌, ℕ, ◌<◌, Some, map, length, slice_get, sym, ap, ◌∙◌, subst}
use Rattle.wasm_syntax.specs.declared.module.FuncType.{FuncType}
use Rattle.wasm_syntax.specs.declared.module.GlobalType.{GlobalType}
use Rattle.wasm_typing.specs.Typing.{Context}
use Rattle.wasm_store.specs.declared.store.FuncInst.{FuncInst}
use Rattle.wasm_store.specs.declared.store.TableInst.{TableInst}
use Rattle.wasm_store.specs.declared.store.MemInst.{MemInst}
use Rattle.wasm_store.specs.declared.store.GlobalInst.{GlobalInst}
use Rattle.wasm_store.specs.declared.store.Instance.{Instance}
use Rattle.wasm_store.specs.declared.store.Store.{Store}
use Rattle.wasm_store.specs.Control.{type_of_inst}
use Rattle.type_safety.specs.Shapes.{shape_of, func_type_at, IsContextOf}
use Rattle.type_safety.specs.Stores.{StoreTyped, InstanceTyped}
use Rattle.type_safety.proofs.Lists.{of_get, get-map, of_option_map, all-get, there}

-- The function with an index, its address, and that it has the type of the context.
pub record FuncThere (s : Store) (i : Instance) (x : ℕ) (ty : FuncType) : Type 0 where
  pub address : ℕ
  pub address_is : slice_get i.funcs x ≡ Some address
  pub inst : FuncInst
  pub inst_there : slice_get s.funcs address ≡ Some inst
  pub type_is : type_of_inst inst ≡ ty

pub func_there : (s : Store) (i : Instance) (c : Context) → IsContextOf (shape_of s) i c → (x : ℕ) (ty : FuncType) → slice_get c.funcs x ≡ Some ty → FuncThere s i x ty
func_there s i c is x ty h =
    let mapped : slice_get (map (func_type_at (shape_of s)) i.funcs) x ≡ Some (Some ty) =
    ap (λ l. slice_get l x) (sym is.funcs) ∙ get-map (λ t. Some t) c.funcs x ty h
    in
    let a = of_get (func_type_at (shape_of s)) i.funcs x (Some ty) mapped in
    let f = of_option_map type_of_inst (slice_get s.funcs a.0) ty a.2 in
    record { address = a.0; address_is = a.1; inst = f.0; inst_there = f.1; type_is = f.2 }

-- The global with an index.
pub record GlobalThere (s : Store) (i : Instance) (x : ℕ) (ty : GlobalType) : Type 0 where
  pub address : ℕ
  pub address_is : slice_get i.globals x ≡ Some address
  pub global : GlobalInst
  pub global_is : slice_get s.globals address ≡ Some global
  pub type_is : global.ty ≡ ty

pub global_there : (s : Store) (i : Instance) (c : Context) → IsContextOf (shape_of s) i c → (x : ℕ) (ty : GlobalType) → slice_get c.globals x ≡ Some ty → GlobalThere s i x ty
global_there s i c is x ty h =
    let mapped : slice_get (map (slice_get (shape_of s).globals) i.globals) x ≡ Some (Some ty) =
    ap (λ l. slice_get l x) (sym is.globals) ∙ get-map (λ t. Some t) c.globals x ty h
    in
    let a = of_get (slice_get (shape_of s).globals) i.globals x (Some ty) mapped in
    let g = of_get (λ (g : GlobalInst). g.ty) s.globals a.0 ty a.2 in
    record { address = a.0; address_is = a.1; global = g.0; global_is = g.1; type_is = g.2 }

-- The memory of an instance that has one.
pub record MemoryThere (s : Store) (i : Instance) : Type 0 where
  pub address : ℕ
  pub address_is : slice_get i.memories 0 ≡ Some address
  pub memory : MemInst
  pub memory_is : slice_get s.memories address ≡ Some memory

pub memory_there : (s : Store) → StoreTyped s → (n : ℕ) (i : Instance) (c : Context) → slice_get s.instances n ≡ Some i → IsContextOf (shape_of s) i c → 0 < length c.memories → MemoryThere s i
memory_there s store n i c here is some =
    let typed : InstanceTyped (shape_of s) i = all-get (InstanceTyped (shape_of s)) s.instances n i store.instances here in
    let few : 0 < length i.memories = subst (λ k. 0 < k) is.memories some in
    let a = there i.memories 0 few in
    let below : a.0 < length s.memories = all-get (λ m. m < length s.memories) i.memories 0 a.0 typed.memories a.1 in
    let m = there s.memories a.0 below in
    record { address = a.0; address_is = a.1; memory = m.0; memory_is = m.1 }

-- The table of an instance that has one.
pub record TableThere (s : Store) (i : Instance) : Type 0 where
  pub address : ℕ
  pub address_is : slice_get i.tables 0 ≡ Some address
  pub table : TableInst
  pub table_is : slice_get s.tables address ≡ Some table

pub table_there : (s : Store) → StoreTyped s → (n : ℕ) (i : Instance) (c : Context) → slice_get s.instances n ≡ Some i → IsContextOf (shape_of s) i c → 0 < length c.tables → TableThere s i
table_there s store n i c here is some =
    let typed : InstanceTyped (shape_of s) i = all-get (InstanceTyped (shape_of s)) s.instances n i store.instances here in
    let few : 0 < length i.tables = subst (λ k. 0 < k) is.tables some in
    let a = there i.tables 0 few in
    let below : a.0 < length s.tables = all-get (λ m. m < length s.tables) i.tables 0 a.0 typed.tables a.1 in
    let m = there s.tables a.0 below in
    record { address = a.0; address_is = a.1; table = m.0; table_is = m.1 }
