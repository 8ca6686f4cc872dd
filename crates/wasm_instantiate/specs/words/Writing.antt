-- Words for a write, as it is made in a store.
use Rattle.std.specs.Prelude.{◌≡◌, Bool, true, false, [], Result, Ok, Err}
use Rattle.wasm_store.specs.declared.store.Store.{Store}
use Rattle.wasm_reduce.specs.declared.policy.Policy.{Policy}
use Rattle.wasm_reduce.specs.declared.moved.Moved.{Moved}
use Rattle.wasm_reduce.specs.declared.moved.Moved.TheVariants.{Went}
use Rattle.wasm_sessions.specs.Hosts.{WritesStore}
use Rattle.wasm_sessions.specs.Hosts as write
use Rattle.wasm_instantiate.specs.declared.acts.HostAct.{HostAct}
use Rattle.wasm_instantiate.specs.declared.acts.HostAct.TheVariants.{Byte, Global, Entry, Grow, GrowTable, Call, Return, Trap}
use Rattle.wasm_instantiate.specs.declared.faults.HostFault.{HostFault}
use Rattle.wasm_instantiate.specs.HostAnswers.{IsActRefused, IsActAllowed}

-- The act writes to a store: the write that it names.
abbrev pub ActWrites : Store → HostAct → Store → Type 0
ActWrites s (Byte memory at value) t = WritesStore s (write.Byte memory at value) t
ActWrites s (Global global value) t = WritesStore s (write.Value global value) t
ActWrites s (Entry table at func) t = WritesStore s (write.Entry table at func) t
ActWrites s (Grow memory pages) t = WritesStore s (write.Grow memory pages) t
ActWrites s (GrowTable table entries) t = WritesStore s (write.GrowTable table entries) t
ActWrites s _ t = ⊥

-- The act is a write.
abbrev pub is_write : HostAct → Bool
is_write (Call func args) = false
is_write (Return values) = false
is_write Trap = false
is_write _ = true

-- An act that writes is done in a store, or refused for the first reason that holds. Neither reads the frames.
abbrev pub WriteAnswers : {A : Type 0} → Policy → (s : Store) → HostAct → (t : Store) → Result A HostFault → Type 0
WriteAnswers policy s act t (Ok done) = IsActAllowed policy s [] act × ActWrites s act t
WriteAnswers policy s act t (Err f) = IsActRefused policy s [] act f × (t ≡ s)

-- What an act that writes tells, by what came of the write.
abbrev pub went_of : {A : Type 0} → Result A HostFault → Result Moved HostFault
went_of (Ok done) = Ok Went
went_of (Err f) = Err f
