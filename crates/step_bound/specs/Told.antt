-- What is told of a function's bound.
use Rattle.std.specs.Prelude.{◌≡◌, ℕ, ◌<◌, ◌≤◌, List, Some, length, slice_get}
use Rattle.wasm_syntax.specs.declared.module.Module.{Module}
use Rattle.step_bound.specs.declared.bound.Bound.{Bound}
use Rattle.step_bound.specs.declared.bound.Bound.TheVariants.{Steps, Over, Unbounded}
use Rattle.step_bound.specs.declared.bound.TheConstants.{MAX_STEPS}
use Rattle.step_bound.specs.Bounds.{FunctionBound}

-- This is the bound of a function, or the bound passes the greatest that is told, or there is none.
abbrev pub IsBoundOf : Module → (k : ℕ) → Bound → Type 0
IsBoundOf m k (Steps n) = FunctionBound m k n × (n ≤ MAX_STEPS)
IsBoundOf m k Over = (n : ℕ) × FunctionBound m k n × (MAX_STEPS < n)
IsBoundOf m k Unbounded = (n : ℕ) → FunctionBound m k n → ⊥

-- These are the bounds of the functions that a module defines, in the module's order.
pub record AreBoundsOf (m : Module) (bounds : List Bound) : Type 0 where
  pub count : length bounds ≡ length m.funcs
  pub each : (k : ℕ) (b : Bound) → slice_get bounds k ≡ Some b → IsBoundOf m k b
