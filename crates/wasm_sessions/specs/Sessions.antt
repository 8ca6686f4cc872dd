-- Sessions: runs of any modules together, with hosts and an embedder (Core Specification, sections 4.4, 4.5.4 and 4.5.5).
-- That exactly these configurations are moments is the project's own.
use Rattle.std.specs.Prelude.{◌≡◌, ℕ, ◌+◌, ◌⊎◌, List, Some, slice_get, All}
use Rattle.wasm_values.specs.declared.number.Val.{Val}
use Rattle.wasm_syntax.specs.declared.module.FuncType.{FuncType}
use Rattle.wasm_syntax.specs.declared.module.Module.{Module}
use Rattle.wasm_typing.specs.Valid.{Valid}
use Rattle.wasm_store.specs.declared.store.Extern.{Extern}
use Rattle.wasm_store.specs.Configuration.{Configuration, started}
use Rattle.wasm_store.specs.Step.{Step}
use Rattle.wasm_sessions.specs.Pool.{InPool}
use Rattle.wasm_sessions.specs.Instantiation.{Instantiated, Invoked}
use Rattle.wasm_sessions.specs.Hosts.{HostAdded, Write, HostMakes, HostCall, HostReturn, HostTrap, HostCatch, HostInstantiates}

-- What can come next in a session.
pub data Action : Type 0 where
  Steps : Action
  Instantiates : Module → (externs : List Extern) → Action
  Invokes : Extern → (values : List Val) → Action
  AddsHost : FuncType → Action
  HostWrites : Write → Action
  HostCalls : (func : ℕ) → (values : List Val) → Action
  HostReturns : (values : List Val) → Action
  HostTraps : Action
  HostCatches : Action
  HostLoads : Module → (externs : List Extern) → Action

-- An action leads from one configuration to the next: a step with any choice of `memory.grow`, an instantiation of a valid
-- module with externs of the pool, an invocation of a function of the pool, or something that a host or the embedder does. That
-- a host catches a trap, or has a module instantiated, is among these.
abbrev pub Acts : Configuration → Action → Configuration → Type 0
Acts c Steps d = Step c d
Acts c (Instantiates m externs) d = Valid m × All (InPool c.store) externs × Instantiated c m externs d
Acts c (Invokes e values) d = InPool c.store e × Invoked c e values d
Acts c (AddsHost ty) d = HostAdded c ty d
Acts c (HostWrites write) d = HostMakes c write d
Acts c (HostCalls a values) d = HostCall c a values d
Acts c (HostReturns values) d = HostReturn c values d
Acts c HostTraps d = HostTrap c d
Acts c HostCatches d = HostCatch c d
Acts c (HostLoads m externs) d = HostInstantiates c m externs d

-- Some action leads from one configuration to the next.
abbrev pub Follows : Configuration → Configuration → Type 0
Follows c d = (action : Action) × Acts c action d

-- Configurations are a session, in the order of time: the first has nothing in it, and each next one follows from the one
-- before. A refused action adds nothing. A moment is a position in the list.
pub record IsSession (moments : List Configuration) : Type 0 where
  pub first : slice_get moments 0 ≡ Some started
  pub next : (k : ℕ) (c d : Configuration) → slice_get moments k ≡ Some c → slice_get moments (k + 1) ≡ Some d → Follows c d

-- At a moment of a session there is this configuration.
abbrev pub IsMoment : List Configuration → (k : ℕ) → Configuration → Type 0
IsMoment moments k c = slice_get moments k ≡ Some c

-- A module is instantiated with externs of the pool, by the embedder or by a host.
abbrev pub Makes : Configuration → Module → List Extern → Configuration → Type 0
Makes c m externs d = (Valid m × All (InPool c.store) externs × Instantiated c m externs d) ⊎ HostInstantiates c m externs d
