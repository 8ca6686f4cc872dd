-- What hosts and the embedder do (Core Specification, section 4.4.7, 'Host Functions'). The standard lets a host
-- function change the store in any way that keeps it valid; which ways these are here is the project's own.
use Rattle.std.specs.Prelude.{◌≡◌, ℕ, ◌+◌, ◌<◌, ◌≤◌, ◌⊎◌, Bool, true, ◌&&◌, nat_le, List, [], ◌∷◌, ◌++◌, All, length, reverse, replicate, slice_get, slice_set, slice_index, Option, Some, None, IsTrue}
use Rattle.wasm_values.specs.declared.number.Val.{Val}
use Rattle.wasm_syntax.specs.declared.module.FuncType.{FuncType}
use Rattle.wasm_syntax.specs.declared.module.Module.{Module}
use Rattle.wasm_typing.specs.Valid.{Valid}
use Rattle.wasm_store.specs.declared.store.FuncInst.{FuncInst}
use Rattle.wasm_store.specs.declared.store.FuncInst.TheVariants.{Host}
use Rattle.wasm_store.specs.declared.store.TableInst.{TableInst}
use Rattle.wasm_store.specs.declared.store.MemInst.{MemInst}
use Rattle.wasm_store.specs.declared.store.GlobalInst.{GlobalInst}
use Rattle.wasm_store.specs.declared.store.Extern.{Extern}
use Rattle.wasm_store.specs.declared.store.Extern.TheVariants.{Table, Memory, Global}
use Rattle.wasm_store.specs.declared.store.Instance.{Instance}
use Rattle.wasm_store.specs.declared.store.Store.{Store}
use Rattle.wasm_store.specs.declared.config.Outcome.{Outcome}
use Rattle.wasm_store.specs.declared.config.Outcome.TheVariants.{Running, Done, Trapped}
use Rattle.wasm_store.specs.Configuration.{Layer, OfCode, OfHost, Configuration, trapped}
use Rattle.wasm_store.specs.Numeric.{with_global}
use Rattle.wasm_values.specs.Types.{is_at_most}
use Rattle.wasm_store.specs.Memory.{with_bytes, can_grow, grown_bytes}
use Rattle.wasm_store.specs.Control.{type_of_inst, given_to, IsFrameOf}
use Rattle.wasm_store.specs.Step.{Step}
use Rattle.type_safety.specs.Shapes.{HaveTypes}
use Rattle.wasm_sessions.specs.Matching.{MatchImports}
use Rattle.wasm_sessions.specs.Pool.{InPool, InReach}
use Rattle.wasm_sessions.specs.Instantiation.{IsAtRest, made_instance, allocated, segments_fit, initialized}

-- ---- a new host function

-- The configuration isn't running, and has one more function afterwards: a host's, of a type with at most one result
-- (section 4.5.3.2).
abbrev pub HostAdded : Configuration → FuncType → Configuration → Type 0
HostAdded c ty d =
    IsAtRest c.outcome × (length ty.results ≤ 1)
    × (d ≡ record c { store = record c.store { funcs = c.store.funcs ++ Host ty ∷ [] } })

-- ---- writes

-- The top frame is a host's.
abbrev pub HasHostOnTop : List Layer → Type 0
HasHostOnTop [] = ⊥
HasHostOnTop (OfCode f ∷ below) = ⊥
HasHostOnTop (OfHost func args given ∷ below) = Unit {0}

-- The host or the embedder has control: nothing runs, or the top frame is a host's.
abbrev pub HostHasControl : Outcome → List Layer → Type 0
HostHasControl Running frames = HasHostOnTop frames
HostHasControl (Done values) frames = Unit {0}
HostHasControl Trapped frames = Unit {0}

-- The five kinds of writes: a byte of a memory, the value of a global, an entry of a table, and the growth of a memory by
-- pages and of a table by entries.
pub data Write : Type 0 where
  Byte : (memory at value : ℕ) → Write
  Value : (global : ℕ) → (value : Val) → Write
  Entry : (table at : ℕ) → (func : Option ℕ) → Write
  Grow : (memory pages : ℕ) → Write
  GrowTable : (table entries : ℕ) → Write

-- The store with other entries in a table.
abbrev pub with_entries : Store → ℕ → TableInst → List (Option ℕ) → Store
with_entries s t table entries = record s { tables = slice_set s.tables t (record table { entries = entries }) }

-- A table can grow by so many entries: there are then at most 4,294,967,295, and at most its maximum.
abbrev pub can_grow_table : TableInst → (entries : ℕ) → Bool
can_grow_table table entries =
    nat_le (length table.entries + entries) 4294967295 && is_at_most (length table.entries + entries) table.max

-- An entry may be set empty, or to a function within reach.
abbrev pub IsEntryInReach : Store → Option ℕ → Type 0
IsEntryInReach s None = Unit {0}
IsEntryInReach s (Some a) = InReach s a

-- A write turns one store into another: what it writes to is in the pool, it stays within what is there and within the types,
-- and a growth keeps to its bounds.
abbrev pub WritesStore : Store → Write → Store → Type 0
WritesStore s (Byte m at value) t =
    (mem : MemInst) × InPool s (Memory m) × (slice_get s.memories m ≡ Some mem) × (at < length mem.bytes) × (value < 256)
    × (t ≡ with_bytes s m mem (slice_set mem.bytes at value))
WritesStore s (Value a value) t =
    (g : GlobalInst) × InPool s (Global a) × (slice_get s.globals a ≡ Some g) × (g.ty.mutable ≡ true) × HaveTypes (value ∷ []) (g.ty.value ∷ [])
    × (t ≡ with_global s a g value)
WritesStore s (Entry a at func) t =
    (table : TableInst) × InPool s (Table a) × (slice_get s.tables a ≡ Some table) × (at < length table.entries) × IsEntryInReach s func
    × (t ≡ with_entries s a table (slice_set table.entries at func))
WritesStore s (Grow m pages) t =
    (mem : MemInst) × InPool s (Memory m) × (slice_get s.memories m ≡ Some mem) × IsTrue (can_grow mem pages)
    × (t ≡ with_bytes s m mem (grown_bytes mem pages))
WritesStore s (GrowTable a entries) t =
    (table : TableInst) × InPool s (Table a) × (slice_get s.tables a ≡ Some table) × IsTrue (can_grow_table table entries)
    × (t ≡ with_entries s a table (table.entries ++ replicate entries None))

-- The host or the embedder, which has control, makes this write, and nothing else changes.
abbrev pub HostMakes : Configuration → Write → Configuration → Type 0
HostMakes c write d =
    (t : Store) × HostHasControl c.outcome c.frames × WritesStore c.store write t × (d ≡ record c { store = t })

-- The host or the embedder makes one write of the five kinds.
abbrev pub HostWrite : Configuration → Configuration → Type 0
HostWrite c d = (write : Write) × HostMakes c write d

-- ---- calls, returns and traps of a host's frame

-- The host whose frame is on top calls a function within reach with values of its parameter types: that function's frame is
-- put on top.
abbrev pub HostCall : Configuration → (a : ℕ) → (values : List Val) → Configuration → Type 0
HostCall c a values d =
    (inst : FuncInst) × (layer : Layer) × (c.outcome ≡ Running) × HasHostOnTop c.frames × InReach c.store a
    × (slice_get c.store.funcs a ≡ Some inst) × HaveTypes values (type_of_inst inst).params
    × IsFrameOf c.store.instances a values inst layer × (d ≡ record c { frames = layer ∷ c.frames })

-- The host whose frame is on top leaves it with values of its function's result types.
abbrev pub HostReturn : Configuration → (values : List Val) → Configuration → Type 0
HostReturn c values d =
    (func : ℕ) × (args given : List Val) × (below : List Layer) × (ty : FuncType) × (c.outcome ≡ Running) × (c.frames ≡ OfHost func args given ∷ below)
    × (slice_get c.store.funcs func ≡ Some (Host ty)) × HaveTypes values ty.results
    × (d ≡ given_to c.store (reverse values) below)

-- The host whose frame is on top traps: all frames go, and the store stays.
abbrev pub HostTrap : Configuration → Configuration → Type 0
HostTrap c d = (c.outcome ≡ Running) × HasHostOnTop c.frames × (d ≡ trapped c.store)

-- ---- traps that are caught, and modules that a host loads

-- A configuration can trap: some step of it does, or the top frame is a host's.
abbrev pub CanTrap : Configuration → Type 0
CanTrap c = ((d : Configuration) × Step c d × (d.outcome ≡ Trapped)) ⊎ HasHostOnTop c.frames

-- A host whose frame isn't the top one catches a trap: the frames above its own go, and it was given nothing. It may be any of
-- the hosts below the top frame. A trap that nobody catches ends the run.
pub record HostCatch (c d : Configuration) : Type 0 where
  pub running : c.outcome ≡ Running
  pub can_trap : CanTrap c
  pub top : Layer
  pub above : List Layer
  pub func : ℕ
  pub args : List Val
  pub given : List Val
  pub below : List Layer
  pub frames : c.frames ≡ top ∷ above ++ OfHost func args given ∷ below
  pub after : d ≡ record { store = c.store; frames = OfHost func args [] ∷ below; outcome = Running }

-- The start function of a new instance is entered over the frames that are there, where there is one; they run on.
abbrev pub StartsOver : Store → Instance → (start : Option ℕ) → List Layer → Configuration → Type 0
StartsOver s i None frames d = d ≡ record { store = s; frames = frames; outcome = Running }
StartsOver s i (Some x) frames d =
    (inst : FuncInst) × (layer : Layer) × (slice_get s.funcs (slice_index i.funcs x) ≡ Some inst)
    × IsFrameOf s.instances (slice_index i.funcs x) [] inst layer × (d ≡ record { store = s; frames = layer ∷ frames; outcome = Running })

-- The host whose frame is on top has a valid module instantiated with externs of the pool: they match its imports, and all
-- segments lie in bounds; then the new instance is as the embedder's would be, and its start function goes on top.
pub record HostInstantiates (c : Configuration) (m : Module) (externs : List Extern) (d : Configuration) : Type 0 where
  pub running : c.outcome ≡ Running
  pub host : HasHostOnTop c.frames
  pub matching : MatchImports c.store m externs
  pub valid : Valid m
  pub pool : All (InPool c.store) externs
  pub in_bounds : IsTrue (segments_fit (allocated c.store m externs) (made_instance c.store m externs) m)
  pub starts : StartsOver (initialized (allocated c.store m externs) (made_instance c.store m externs) m) (made_instance c.store m externs) m.start c.frames d
