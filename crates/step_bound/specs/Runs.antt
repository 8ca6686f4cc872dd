-- Runs of a function from its entry on (Core Specification, sections 4.2 and 4.4.7).
use Rattle.std.specs.Prelude.{◌≡◌, ℕ, ◌+◌, List, [], ◌∷◌, Some, ◌⊎◌, length, slice_get}
use Rattle.wasm_values.specs.declared.number.Val.{Val}
use Rattle.wasm_syntax.specs.declared.module.FuncType.{FuncType}
use Rattle.wasm_syntax.specs.declared.module.Module.{Module}
use Rattle.wasm_store.specs.declared.store.FuncInst.TheVariants.{Code}
use Rattle.wasm_store.specs.declared.store.Instance.{Instance}
use Rattle.wasm_store.specs.declared.store.Store.{Store}
use Rattle.wasm_store.specs.declared.config.Outcome.TheVariants.{Trapped}
use Rattle.wasm_store.specs.Configuration.{Layer, Configuration}
use Rattle.wasm_store.specs.Control.{IsFrameOf, given_to}
use Rattle.wasm_store.specs.Step.{Step, CanStep}
use Rattle.type_safety.specs.Typed.{Typed}
use Rattle.step_bound.specs.Bounds.{imported_funcs, FunctionBound}

-- The instance at an address is of a module: its types and code are the module's, and past the module's function imports
-- each entry of its function list is its own function with the code of that place (section 4.2.5).
pub record IsInstanceOf (m : Module) (s : Store) (address : ℕ) : Type 0 where
  pub inst : Instance
  pub there : slice_get s.instances address ≡ Some inst
  pub types : inst.types ≡ m.types
  pub code : inst.code ≡ m.funcs
  pub funcs : (k a : ℕ) → slice_get inst.funcs (imported_funcs m + k) ≡ Some a → (ty : FuncType) × (slice_get s.funcs a ≡ Some (Code ty address k))

-- The top frame, over these others, has just been entered for the function with a place in the code of an instance of a
-- module (section 4.4.7, invocation of function address).
pub record HasEntered (m : Module) (k : ℕ) (c : Configuration) (below : List Layer) : Type 0 where
  pub instance : ℕ
  pub of_module : IsInstanceOf m c.store instance
  pub address : ℕ
  pub ty : FuncType
  pub there : slice_get c.store.funcs address ≡ Some (Code ty instance k)
  pub args : List Val
  pub top : Layer
  pub entered : IsFrameOf c.store.instances address args (Code ty instance k) top
  pub frames : c.frames ≡ top ∷ below

-- The frame over these others has left: they have been given its results, or the run has come to them (section 4.4.7,
-- returning from a function).
abbrev pub HasLeft : List Layer → Configuration → Type 0
HasLeft below d = (s : Store) × (results : List Val) × (d ≡ given_to s results below)

-- Each of these configurations comes by a step from the one before it, the first of them from this one.
abbrev pub AreSteps : Configuration → List Configuration → Type 0
AreSteps c [] = Unit {0}
AreSteps c (d ∷ ds) = Step c d × AreSteps d ds

-- In one of these configurations the frame over these others has left, or the outcome is a trap.
abbrev pub LeavesIn : List Layer → List Configuration → Type 0
LeavesIn below ds = (n : ℕ) × (d : Configuration) × (slice_get ds n ≡ Some d) × (HasLeft below d ⊎ (d.outcome ≡ Trapped))

-- In every list of as many steps as the bound of a function says, from the entry of a frame for that function on, the frame
-- has left, or there is a trap. The configuration may be any, and so may the other modules and hosts in it.
abbrev pub BoundsHold : Type 0
BoundsHold =
    (m : Module) (k bound : ℕ) (c : Configuration) (below : List Layer) (ds : List Configuration)
    → FunctionBound m k bound → HasEntered m k c below → AreSteps c ds → length ds ≡ bound → LeavesIn below ds

-- The last of these configurations, or this one where there are none.
abbrev pub last_of : Configuration → List Configuration → Configuration
last_of c [] = c
last_of c (d ∷ ds) = last_of d ds

-- From a typed configuration on, after every list of steps from the entry of a frame for a bounded function on, the frame has
-- left, or there is a trap, or there is a next step.
abbrev pub RunsGoOn : Type 0
RunsGoOn =
    (m : Module) (k bound : ℕ) (c : Configuration) (below : List Layer) (ds : List Configuration)
    → FunctionBound m k bound → Typed c → HasEntered m k c below → AreSteps c ds → LeavesIn below ds ⊎ CanStep (last_of c ds)
