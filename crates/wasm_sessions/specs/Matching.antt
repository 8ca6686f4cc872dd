-- Which externs match which imports (Core Specification, section 4.5.2).
use Rattle.std.specs.Prelude.{◌≡◌, ℕ, Bool, true, false, ◌&&◌, nat_le, List, length, slice_get, Option, Some, None, IsTrue}
use Rattle.wasm_syntax.specs.declared.module.FuncType.{FuncType}
use Rattle.wasm_syntax.specs.declared.module.GlobalType.{GlobalType}
use Rattle.wasm_syntax.specs.declared.module.Limits.{Limits}
use Rattle.wasm_syntax.specs.declared.module.Import.{Import}
use Rattle.wasm_syntax.specs.declared.module.ImportKind.{ImportKind}
use Rattle.wasm_syntax.specs.declared.module.ImportKind.TheVariants as import
use Rattle.wasm_syntax.specs.declared.module.Module.{Module}
use Rattle.wasm_store.specs.declared.store.FuncInst.{FuncInst}
use Rattle.wasm_store.specs.declared.store.TableInst.{TableInst}
use Rattle.wasm_store.specs.declared.store.MemInst.{MemInst}
use Rattle.wasm_store.specs.declared.store.GlobalInst.{GlobalInst}
use Rattle.wasm_store.specs.declared.store.Extern.{Extern}
use Rattle.wasm_store.specs.declared.store.Extern.TheVariants.{Func, Table, Memory, Global}
use Rattle.wasm_store.specs.declared.store.Store.{Store}
use Rattle.wasm_store.specs.Memory.{pages_of}
use Rattle.wasm_values.specs.Types.{is_same_type}
use Rattle.wasm_store.specs.Control.{type_of_inst, is_same_func_type}

-- A function has the wanted type (section 4.5.2.2).
abbrev pub is_func_of_type : Option FuncInst → Option FuncType → Bool
is_func_of_type None wanted = false
is_func_of_type (Some f) None = false
is_func_of_type (Some f) (Some wanted) = is_same_func_type (type_of_inst f) wanted

-- Where a greatest size is wanted, there is one that isn't larger (section 4.5.2.1).
abbrev pub is_max_within : (max wanted : Option ℕ) → Bool
is_max_within max None = true
is_max_within None (Some wanted) = false
is_max_within (Some max) (Some wanted) = nat_le max wanted

-- A size and its maximum lie within the wanted limits (section 4.5.2.1).
abbrev pub is_size_within : (size : ℕ) → (max : Option ℕ) → Limits → Bool
is_size_within size max wanted = nat_le wanted.min size && is_max_within max wanted.max

-- A table has a current size within the wanted limits (section 4.5.2.3).
abbrev pub is_table_within : Option TableInst → Limits → Bool
is_table_within None wanted = false
is_table_within (Some t) wanted = is_size_within (length t.entries) t.max wanted

-- A memory has a current size within the wanted limits (section 4.5.2.4).
abbrev pub is_memory_within : Option MemInst → Limits → Bool
is_memory_within None wanted = false
is_memory_within (Some m) wanted = is_size_within (pages_of m) m.max wanted

-- Two flags are the same.
abbrev pub is_same_flag : Bool → Bool → Bool
is_same_flag true true = true
is_same_flag false false = true
is_same_flag _ _ = false

-- A global has the wanted type, its mutability included (section 4.5.2.5).
abbrev pub is_global_of_type : Option GlobalInst → GlobalType → Bool
is_global_of_type None wanted = false
is_global_of_type (Some g) wanted = is_same_type g.ty.value wanted.value && is_same_flag g.ty.mutable wanted.mutable

-- An extern matches an import of a module with these types: what it names is there, and as wanted (section 4.5.2).
abbrev pub does_match : Store → List FuncType → Extern → ImportKind → Bool
does_match s types (Func a) (import.Func t) = is_func_of_type (slice_get s.funcs a) (slice_get types t)
does_match s types (Table a) (import.Table l) = is_table_within (slice_get s.tables a) l
does_match s types (Memory a) (import.Memory l) = is_memory_within (slice_get s.memories a) l
does_match s types (Global a) (import.Global g) = is_global_of_type (slice_get s.globals a) g
does_match s types _ _ = false

-- Externs match a module's imports: there are as many, and each matches its import (section 4.5.4, steps 3 and 4).
pub record MatchImports (s : Store) (m : Module) (externs : List Extern) : Type 0 where
  pub count : length externs ≡ length m.imports
  pub each : (k : ℕ) (e : Extern) (i : Import) → slice_get externs k ≡ Some e → slice_get m.imports k ≡ Some i → IsTrue (does_match s m.types e i.kind)
