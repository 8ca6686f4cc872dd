-- What typing reads of a store, and the contexts of instances (Core Specification, appendix 'Soundness').
use Rattle.std.specs.Prelude.{◌≡◌, ℕ, ◌<◌, List, Option, Some, length, map, option_map, slice_get, All}
use Rattle.wasm_values.specs.declared.number.Val.{Val}
use Rattle.wasm_values.specs.declared.number.ValType.{ValType}
use Rattle.wasm_values.specs.Operators.{type_of}
use Rattle.wasm_syntax.specs.declared.module.FuncType.{FuncType}
use Rattle.wasm_syntax.specs.declared.module.GlobalType.{GlobalType}
use Rattle.wasm_typing.specs.Typing.{Context}
use Rattle.wasm_typing.specs.Valid.{ValInRange}
use Rattle.wasm_store.specs.declared.store.FuncInst.{FuncInst}
use Rattle.wasm_store.specs.declared.store.GlobalInst.{GlobalInst}
use Rattle.wasm_store.specs.declared.store.Extern.{Extern}
use Rattle.wasm_store.specs.declared.store.Extern.TheVariants.{Func, Table, Memory, Global}
use Rattle.wasm_store.specs.declared.store.Instance.{Instance}
use Rattle.wasm_store.specs.declared.store.Store.{Store}
use Rattle.wasm_store.specs.Control.{type_of_inst}

-- The types of values.
abbrev pub types : List Val → List ValType
types values = map type_of values

-- Values have these types, and each lies in the range of its type (sections 2.2.2 and 2.3.1).
abbrev pub HaveTypes : List Val → List ValType → Type 0
HaveTypes values ts = (types values ≡ ts) × All ValInRange values

-- What typing reads of a store: its functions and instances, the types of its globals, and how many tables and memories
-- there are. No write and no growth changes it.
pub record Shape : Type 0 where
  pub funcs : List FuncInst
  pub instances : List Instance
  pub globals : List GlobalType
  pub tables : ℕ
  pub memories : ℕ

-- The shape of a store.
abbrev pub shape_of : Store → Shape
shape_of s =
    record {
      funcs = s.funcs;
      instances = s.instances;
      globals = map (λ (g : GlobalInst). g.ty) s.globals;
      tables = length s.tables;
      memories = length s.memories;
    }

-- The type of the function at an address, if there is one.
abbrev pub func_type_at : Shape → ℕ → Option FuncType
func_type_at s a = option_map type_of_inst (slice_get s.funcs a)

-- A context is that of an instance: it has the instance's types, the types of the functions and globals at the instance's
-- addresses, all of which exist, and as many tables and memories (section 3.1.1; 'Store Validity', module instances). The limits of
-- tables and memories may be any, since no rule for code reads them.
pub record IsContextOf (s : Shape) (i : Instance) (c : Context) : Type 0 where
  pub types : c.types ≡ i.types
  pub funcs : map (λ t. Some t) c.funcs ≡ map (func_type_at s) i.funcs
  pub globals : map (λ g. Some g) c.globals ≡ map (slice_get s.globals) i.globals
  pub tables : length c.tables ≡ length i.tables
  pub memories : length c.memories ≡ length i.memories

-- What an extern names exists ('Store Validity', export instances).
abbrev pub ExternExists : Shape → Extern → Type 0
ExternExists s (Func a) = a < length s.funcs
ExternExists s (Table a) = a < s.tables
ExternExists s (Memory a) = a < s.memories
ExternExists s (Global a) = a < length s.globals
