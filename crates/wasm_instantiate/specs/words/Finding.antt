-- Words for what is looked for among exports and instances.
use Rattle.std.specs.Prelude.{◌≡◌, ℕ, List, Some, slice_get}
use Rattle.wasm_store.specs.declared.store.Extern.{Extern}
use Rattle.wasm_store.specs.declared.store.Extern.TheVariants.{Func, Table, Memory, Global}
use Rattle.wasm_store.specs.declared.store.Instance.{Instance}
use Rattle.wasm_store.specs.declared.store.Store.{Store}

-- An extern stands among these exports.
pub record IsAmong (exports : List (List ℕ × Extern)) (e : Extern) : Type 0 where
  pub place : ℕ
  pub name : List ℕ
  pub there : slice_get exports place ≡ Some (name, e)

-- An instance has a table, and its element segments name a function.
pub record Shares (i : Instance) (table a : ℕ) : Type 0 where
  pub table_is : slice_get i.tables 0 ≡ Some table
  pub place : ℕ
  pub named : slice_get i.elems place ≡ Some a

-- Some instance with a table shares a function.
pub record IsSharedBy (s : Store) (table a : ℕ) : Type 0 where
  pub number : ℕ
  pub instance : Instance
  pub there : slice_get s.instances number ≡ Some instance
  pub shares : Shares instance table a

-- What is exported brings a function within reach: it is that function, or a table that shares it.
abbrev pub Reaches : Store → Extern → (a : ℕ) → Type 0
Reaches s (Func own) a = own ≡ a
Reaches s (Table table) a = IsSharedBy s table a
Reaches s (Memory m) a = ⊥
Reaches s (Global g) a = ⊥

-- One of these exports brings a function within reach.
pub record ReachesAmong (s : Store) (exports : List (List ℕ × Extern)) (a : ℕ) : Type 0 where
  pub extern : Extern
  pub among : IsAmong exports extern
  pub reaches : Reaches s extern a

-- An export of some instance brings a function within reach.
pub record IsReached (s : Store) (a : ℕ) : Type 0 where
  pub number : ℕ
  pub instance : Instance
  pub there : slice_get s.instances number ≡ Some instance
  pub reaches : ReachesAmong s instance.exports a
