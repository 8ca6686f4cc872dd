-- What a host or the embedder can lay hands on. These words are the project's own; the standard's embedder may do anything
-- with what it is given (Core Specification, appendix 'Embedding').
use Rattle.std.specs.Prelude.{◌≡◌, ℕ, List, Some, ◌⊎◌, slice_get}
use Rattle.wasm_syntax.specs.declared.module.FuncType.{FuncType}
use Rattle.wasm_store.specs.declared.store.FuncInst.TheVariants.{Host}
use Rattle.wasm_store.specs.declared.store.Extern.{Extern}
use Rattle.wasm_store.specs.declared.store.Extern.TheVariants.{Func, Table}
use Rattle.wasm_store.specs.declared.store.Instance.{Instance}
use Rattle.wasm_store.specs.declared.store.Store.{Store}

-- Some instance exports an extern. The instances whose start trapped are among them (section 4.2.5, exports).
pub record IsExported (s : Store) (e : Extern) : Type 0 where
  pub number : ℕ
  pub instance : Instance
  pub there : slice_get s.instances number ≡ Some instance
  pub place : ℕ
  pub name : List ℕ
  pub export_there : slice_get instance.exports place ≡ Some (name, e)

-- An extern is a function of a host.
abbrev pub IsHostFunc : Store → Extern → Type 0
IsHostFunc s (Func a) = (ty : FuncType) × (slice_get s.funcs a ≡ Some (Host ty))
IsHostFunc s _ = ⊥

-- An extern is in the pool: some instance exports it, or it is a function of a host.
abbrev pub InPool : Store → Extern → Type 0
InPool s e = IsExported s e ⊎ IsHostFunc s e

-- The element segments of some instance name a function, and that instance's table is in the pool. The function stays
-- within reach where the entry was overwritten.
pub record IsSharedByTable (s : Store) (a : ℕ) : Type 0 where
  pub number : ℕ
  pub instance : Instance
  pub there : slice_get s.instances number ≡ Some instance
  pub table : ℕ
  pub table_is : slice_get instance.tables 0 ≡ Some table
  pub in_pool : InPool s (Table table)
  pub place : ℕ
  pub named : slice_get instance.elems place ≡ Some a

-- A function is within reach: it is in the pool, or shared by a table in the pool.
abbrev pub InReach : Store → (a : ℕ) → Type 0
InReach s a = InPool s (Func a) ⊎ IsSharedByTable s a
