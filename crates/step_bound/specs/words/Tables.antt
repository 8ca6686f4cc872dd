-- What is known of bounds while they are sought.
use Rattle.std.specs.Prelude.{◌≡◌, ℕ, ◌<◌, nat_le, Bool, true, false, if◌then◌else◌, List, Option, Some, None, is_none, length, count_by, slice_get}
use Rattle.wasm_syntax.specs.declared.module.Func.{Func}
use Rattle.wasm_syntax.specs.declared.module.Module.{Module}
use Rattle.step_bound.specs.declared.bound.Bound.{Bound}
use Rattle.step_bound.specs.declared.bound.Bound.TheVariants.{Steps, Over, Unbounded}
use Rattle.step_bound.specs.declared.bound.TheConstants.{MAX_STEPS}
use Rattle.step_bound.specs.Bounds.{imported_funcs, FunctionBound}
use Rattle.step_bound.specs.words.Sums.{capped, known_at, called, body_bound}

-- What is known of a module's functions is right: there is an entry for each, and a number there is the function's bound, or
-- one above the greatest that is told.
pub record IsRight (m : Module) (bounds : List (Option ℕ)) : Type 0 where
  pub count : length bounds ≡ length m.funcs
  pub each : (k n : ℕ) → known_at bounds k ≡ Some n → (b : ℕ) × FunctionBound m k b × (n ≡ capped b)

-- A function is settled: its bound is known, or a `loop`, a `call_indirect` or a call of a function of which none is known
-- stands in its body.
abbrev pub IsSettled : Module → List (Option ℕ) → ℕ → Type 0
IsSettled m bounds k =
    (f : Func) → slice_get m.funcs k ≡ Some f → known_at bounds k ≡ None → body_bound (called (imported_funcs m) bounds) f.body ≡ None

-- How many bounds are not known.
abbrev pub missing : List (Option ℕ) → ℕ
missing bounds = count_by is_none bounds

-- What is known after a function was tried: one bound more, or nothing more, and the function was settled.
abbrev pub Settles : (found : Bool) → Module → (old new : List (Option ℕ)) → ℕ → Type 0
Settles true m old new k = missing new < missing old
Settles false m old new k = (new ≡ old) × IsSettled m old k

-- What is known after all functions before one were tried: more than before, or nothing more, and they are settled.
abbrev pub Rounds : (found : Bool) → Module → (old new : List (Option ℕ)) → ℕ → Type 0
Rounds true m old new k = missing new < missing old
Rounds false m old new k = (new ≡ old) × ((j : ℕ) → j < k → IsSettled m old j)

-- What is told of what is known.
abbrev pub told_of : Option ℕ → Bound
told_of None = Unbounded
told_of (Some n) = if nat_le n MAX_STEPS then Steps n else Over
