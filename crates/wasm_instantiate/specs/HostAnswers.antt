-- What an act of a host, or of the embedder, does and answers. The acts, their refusals and the order of these are the project's
-- own; that a host function may change the store is Core Specification, section 4.4.7, 'Host Functions'.
use Rattle.std.specs.Prelude.{◌≡◌, ◌≢◌, ℕ, ◌+◌, ◌<◌, ◌≤◌, ◌⊎◌, Bool, false, ◌&&◌, nat_le, List, [], ◌∷◌, length, slice_get, Option, Some, None, Result, Ok, Err}
use Rattle.wasm_values.specs.declared.number.Val.{Val}
use Rattle.wasm_values.specs.Operators.{type_of}
use Rattle.wasm_values.specs.Types.{is_at_most}
use Rattle.wasm_store.specs.declared.store.FuncInst.{FuncInst}
use Rattle.wasm_store.specs.declared.store.TableInst.{TableInst}
use Rattle.wasm_store.specs.declared.store.MemInst.{MemInst}
use Rattle.wasm_store.specs.declared.store.GlobalInst.{GlobalInst}
use Rattle.wasm_store.specs.declared.store.Extern.TheVariants as extern
use Rattle.wasm_store.specs.declared.store.Store.{Store}
use Rattle.wasm_store.specs.Configuration.{Layer, OfHost, Configuration}
use Rattle.wasm_store.specs.Control.{type_of_inst}
use Rattle.type_safety.specs.Shapes.{types}
use Rattle.wasm_reduce.specs.declared.policy.Policy.{Policy}
use Rattle.wasm_reduce.specs.declared.moved.Moved.{Moved}
use Rattle.wasm_reduce.specs.declared.moved.Moved.TheVariants as moved
use Rattle.wasm_reduce.specs.Policies.{lets_grow}
use Rattle.wasm_sessions.specs.Pool.{InPool, InReach}
use Rattle.wasm_sessions.specs.Hosts.{HasHostOnTop, HostHasControl, HostMakes, HostCall, HostReturn, HostTrap}
use Rattle.wasm_sessions.specs.Hosts as write
use Rattle.module_instances.specs.Refusals.{entries_in}
use Rattle.wasm_instantiate.specs.declared.acts.HostAct.{HostAct}
use Rattle.wasm_instantiate.specs.declared.acts.HostAct.TheVariants.{Byte, Global, Entry, Grow, GrowTable, Call, Return, Trap}
use Rattle.wasm_instantiate.specs.declared.faults.HostFault.{HostFault}
use Rattle.wasm_instantiate.specs.declared.faults.HostFault.TheVariants as fault

-- Who may act: the host or the embedder, which has control, may write; a call, a return and a trap are a host's, whose frame is
-- on top.
abbrev pub MayAct : Configuration → HostAct → Type 0
MayAct c (Call func args) = HasHostOnTop c.frames
MayAct c (Return values) = HasHostOnTop c.frames
MayAct c Trap = HasHostOnTop c.frames
MayAct c _ = HostHasControl c.outcome c.frames

-- What an act does: the write that it names, or a call, a return or a trap of the host.
abbrev pub Performs : Configuration → HostAct → Configuration → Type 0
Performs c (Byte memory at value) d = HostMakes c (write.Byte memory at value) d
Performs c (Global global value) d = HostMakes c (write.Value global value) d
Performs c (Entry table at func) d = HostMakes c (write.Entry table at func) d
Performs c (Grow memory pages) d = HostMakes c (write.Grow memory pages) d
Performs c (GrowTable table entries) d = HostMakes c (write.GrowTable table entries) d
Performs c (Call func args) d = HostCall c func args d
Performs c (Return values) d = HostReturn c values d
Performs c Trap d = HostTrap c d

-- A return is `Done` where it leaves the last frame.
abbrev pub told_of_return : (after : List Layer) → Moved
told_of_return [] = moved.Done
told_of_return (l ∷ below) = moved.Went

-- What an act tells, by the frames after it: a trap is `Trapped`, a return that leaves the last frame `Done`, all else `Went`.
abbrev pub told_of : HostAct → (after : List Layer) → Moved
told_of Trap after = moved.Trapped
told_of (Return values) after = told_of_return after
told_of _ after = moved.Went

-- ---- refusals, in their order

-- The function for an entry is not within reach, if there is one.
abbrev pub IsEntryOutOfReach : Store → Option ℕ → Type 0
IsEntryOutOfReach s None = ⊥
IsEntryOutOfReach s (Some a) = InReach s a → ⊥

-- 1. What is written isn't in the pool, or the function isn't within reach.
abbrev pub IsNotExported : Store → HostAct → Type 0
IsNotExported s (Byte memory at value) = InPool s (extern.Memory memory) → ⊥
IsNotExported s (Global global value) = InPool s (extern.Global global) → ⊥
IsNotExported s (Entry table at func) = (InPool s (extern.Table table) → ⊥) ⊎ IsEntryOutOfReach s func
IsNotExported s (Grow memory pages) = InPool s (extern.Memory memory) → ⊥
IsNotExported s (GrowTable table entries) = InPool s (extern.Table table) → ⊥
IsNotExported s (Call func args) = InReach s func → ⊥
IsNotExported s _ = ⊥

-- 2. The global is immutable.
abbrev pub IsImmutable : Store → HostAct → Type 0
IsImmutable s (Global global value) = (g : GlobalInst) × (slice_get s.globals global ≡ Some g) × (g.ty.mutable ≡ false)
IsImmutable s _ = ⊥

-- Values haven't the result types of the host's function whose frame is on top, in number or types.
abbrev pub ResultsDiffer : Store → List Layer → List Val → Type 0
ResultsDiffer s (OfHost func args given ∷ below) values =
    (inst : FuncInst) × (slice_get s.funcs func ≡ Some inst) × (types values ≢ (type_of_inst inst).results)
ResultsDiffer s _ values = ⊥

-- 3. The value's type isn't the global's; or number or types of arguments or results differ.
abbrev pub IsOfWrongType : Store → List Layer → HostAct → Type 0
IsOfWrongType s frames (Global global value) = (g : GlobalInst) × (slice_get s.globals global ≡ Some g) × (type_of value ≢ g.ty.value)
IsOfWrongType s frames (Call func args) = (inst : FuncInst) × (slice_get s.funcs func ≡ Some inst) × (types args ≢ (type_of_inst inst).params)
IsOfWrongType s frames (Return values) = ResultsDiffer s frames values
IsOfWrongType s frames _ = ⊥

-- 4. The position isn't below the length.
abbrev pub IsPastTheEnd : Store → HostAct → Type 0
IsPastTheEnd s (Byte memory at value) = (mem : MemInst) × (slice_get s.memories memory ≡ Some mem) × (length mem.bytes ≤ at)
IsPastTheEnd s (Entry table at func) = (t : TableInst) × (slice_get s.tables table ≡ Some t) × (length t.entries ≤ at)
IsPastTheEnd s _ = ⊥

-- A table may grow by so many entries: they are then at most its maximum, and those of the whole store at most 1,000,000.
abbrev pub lets_grow_table : Store → TableInst → (entries : ℕ) → Bool
lets_grow_table s t entries = is_at_most (length t.entries + entries) t.max && nat_le (entries_in s + entries) 1000000

-- 5. The growth of a memory passes 65,536 pages, its maximum, or the policy's pages over the whole store; that of a table passes
-- its maximum, or 1,000,000 entries over the whole store; the call makes more frames than the policy's number.
abbrev pub PassesLimit : Policy → Store → List Layer → HostAct → Type 0
PassesLimit policy s frames (Grow memory pages) = lets_grow policy s (slice_get s.memories memory) pages ≡ false
PassesLimit policy s frames (GrowTable table entries) = (t : TableInst) × (slice_get s.tables table ≡ Some t) × (lets_grow_table s t entries ≡ false)
PassesLimit policy s frames (Call func args) = policy.frames < length frames + 1
PassesLimit policy s frames _ = ⊥

-- An act is refused for the first of these reasons that holds. Want of memory is free.
abbrev pub IsActRefused : Policy → Store → List Layer → HostAct → HostFault → Type 0
IsActRefused policy s frames act fault.NotExported = IsNotExported s act
IsActRefused policy s frames act fault.Immutable = (IsNotExported s act → ⊥) × IsImmutable s act
IsActRefused policy s frames act fault.WrongType =
    (IsNotExported s act → ⊥) × (IsImmutable s act → ⊥) × IsOfWrongType s frames act
IsActRefused policy s frames act fault.Bounds =
    (IsNotExported s act → ⊥) × (IsImmutable s act → ⊥) × (IsOfWrongType s frames act → ⊥) × IsPastTheEnd s act
IsActRefused policy s frames act fault.Limit =
    (IsNotExported s act → ⊥) × (IsImmutable s act → ⊥) × (IsOfWrongType s frames act → ⊥) × (IsPastTheEnd s act → ⊥) × PassesLimit policy s frames act
IsActRefused policy s frames act fault.OutOfMemory = Unit {0}

-- None of the reasons to refuse an act holds.
pub record IsActAllowed (policy : Policy) (s : Store) (frames : List Layer) (act : HostAct) : Type 0 where
  pub exported : IsNotExported s act → ⊥
  pub mutable : IsImmutable s act → ⊥
  pub typed : IsOfWrongType s frames act → ⊥
  pub in_bounds : IsPastTheEnd s act → ⊥
  pub within : PassesLimit policy s frames act → ⊥

-- An act is done where no reason to refuse it holds, and tells what came of it; or it is refused for the first that does, and
-- nothing changes.
abbrev pub HostActAnswers : Policy → (c : Configuration) → HostAct → (d : Configuration) → Result Moved HostFault → Type 0
HostActAnswers policy c act d (Ok word) =
    IsActAllowed policy c.store c.frames act × Performs c act d × (word ≡ told_of act d.frames)
HostActAnswers policy c act d (Err f) = IsActRefused policy c.store c.frames act f × (d ≡ c)
