-- Typed stores (Core Specification, appendix 'Soundness', 'Store Validity').
use Rattle.std.specs.Prelude.{◌≡◌, ℕ, ◌*◌, ◌<◌, ◌≤◌, ◌++◌, Some, IfSome, length, reverse, slice_get, All}
use Rattle.wasm_values.specs.Operators.{type_of}
use Rattle.wasm_syntax.specs.declared.module.FuncType.{FuncType}
use Rattle.wasm_syntax.specs.declared.module.Func.{Func}
use Rattle.wasm_syntax.specs.Trees.{sequence_of}
use Rattle.wasm_typing.specs.Typing.{Context, BodyTyped}
use Rattle.wasm_typing.specs.Valid.{TypeValid, ValInRange, SequenceInRange}
use Rattle.wasm_store.specs.declared.store.FuncInst.{FuncInst}
use Rattle.wasm_store.specs.declared.store.FuncInst.TheVariants.{Code, Host}
use Rattle.wasm_store.specs.declared.store.TableInst.{TableInst}
use Rattle.wasm_store.specs.declared.store.MemInst.{MemInst}
use Rattle.wasm_store.specs.declared.store.GlobalInst.{GlobalInst}
use Rattle.wasm_store.specs.declared.store.Instance.{Instance}
use Rattle.wasm_store.specs.declared.store.Store.{Store}
use Rattle.type_safety.specs.Shapes.{Shape, shape_of, IsContextOf, ExternExists}

-- A function of code has its type in its instance, and its body is valid there ('Function Instances').
pub record FuncTyped (s : Shape) (ty : FuncType) (instance code : ℕ) : Type 0 where
  pub inst : Instance
  pub inst_there : slice_get s.instances instance ≡ Some inst
  pub fn : Func
  pub fn_there : slice_get inst.code code ≡ Some fn
  pub type_is : slice_get inst.types fn.ty ≡ Some ty
  pub context : Context
  pub context_is : IsContextOf s inst context
  pub locals : context.locals ≡ ty.params ++ fn.locals
  pub results : context.results ≡ reverse ty.results
  pub body : BodyTyped context (sequence_of fn.body)
  pub ranges : SequenceInRange (sequence_of fn.body)

-- A function of code is typed as above; one of a host has any type with at most one result ('Host Function
-- Instances').
abbrev pub FuncInstTyped : Shape → FuncInst → Type 0
FuncInstTyped s (Code ty instance code) = TypeValid ty × FuncTyped s ty instance code
FuncInstTyped s (Host ty) = TypeValid ty

-- A table's entries are empty or functions that exist, at most 4,294,967,295 of them and at most its maximum ('Table
-- Instances').
pub record TableTyped (s : Shape) (t : TableInst) : Type 0 where
  pub entries : All (λ entry. IfSome entry (λ a. a < length s.funcs)) t.entries
  pub few : length t.entries ≤ 4294967295
  pub max : IfSome t.max (λ max. length t.entries ≤ max)

-- A memory is bytes, a whole number of pages, at most 65,536 and at most its maximum ('Memory Instances').
pub record MemoryTyped (m : MemInst) : Type 0 where
  pub bytes : All (λ b. b < 256) m.bytes
  pub pages : ℕ
  pub whole : length m.bytes ≡ pages * 65536
  pub few : pages ≤ 65536
  pub max : IfSome m.max (λ max. pages ≤ max)

-- A global's value has its type ('Global Instances').
abbrev pub GlobalTyped : GlobalInst → Type 0
GlobalTyped g = (type_of g.value ≡ g.ty.value) × ValInRange g.value

-- An instance's types have at most one result each, and its addresses and exports name what exists ('Module
-- Instances'). It has at most one table and one memory. The functions of its element segments exist.
pub record InstanceTyped (s : Shape) (i : Instance) : Type 0 where
  pub types : All TypeValid i.types
  pub funcs : All (λ a. a < length s.funcs) i.funcs
  pub tables : All (λ a. a < s.tables) i.tables
  pub one_table : length i.tables ≤ 1
  pub memories : All (λ a. a < s.memories) i.memories
  pub one_memory : length i.memories ≤ 1
  pub globals : All (λ a. a < length s.globals) i.globals
  pub exports : All (λ e. ExternExists s e.1) i.exports
  pub elems : All (λ a. a < length s.funcs) i.elems

-- A store is typed: each of its parts is.
pub record StoreTyped (s : Store) : Type 0 where
  pub funcs : All (FuncInstTyped (shape_of s)) s.funcs
  pub tables : All (TableTyped (shape_of s)) s.tables
  pub memories : All MemoryTyped s.memories
  pub globals : All GlobalTyped s.globals
  pub instances : All (InstanceTyped (shape_of s)) s.instances
