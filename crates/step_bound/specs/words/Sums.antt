-- Sums of the steps of code, as a walk over its items makes them. A sum stops one above the greatest bound that is told.
use Rattle.std.specs.Prelude.{ℕ, ◌+◌, ◌-◌, min, max, nat_le, if◌then◌else◌, List, [], ◌∷◌, reverse, slice_get, Option, Some, None, option_map, option_and_then}
use Rattle.wasm_syntax.specs.declared.instr.Instr.{Instr, Call, CallIndirect}
use Rattle.wasm_syntax.specs.declared.flat.Flat.{Flat}
use Rattle.wasm_syntax.specs.declared.flat.Flat.TheVariants as flat
use Rattle.wasm_syntax.specs.Trees as tree
use Rattle.wasm_syntax.specs.Trees.{Instruction, Sequence, Empty, Then, IfElse, sequence_of}
use Rattle.step_bound.specs.declared.bound.TheConstants.{MAX_STEPS}
use Rattle.step_bound.specs.declared.walk.Part.{Part}
use Rattle.step_bound.specs.declared.walk.Walk.{Walk}

-- A number of steps, or one above the greatest that is told.
abbrev pub capped : ℕ → ℕ
capped n = min n (MAX_STEPS + 1)

-- A sum with more steps.
unfoldable pub added : (sum n : ℕ) → ℕ
added sum n = capped (sum + n)

-- The sum after a part: 2 more, and the greater of its two sides.
abbrev pub joined : (before first second : ℕ) → ℕ
joined before first second = added (added before 2) (max first second)

-- What is known of the function with a place.
abbrev pub known_at : List (Option ℕ) → (k : ℕ) → Option ℕ
known_at bounds k = option_and_then (λ bound. bound) (slice_get bounds k)

-- What is known of the function with a number.
abbrev pub called : (imported : ℕ) → List (Option ℕ) → (x : ℕ) → Option ℕ
called imported bounds x = if nat_le imported x then known_at bounds (x - imported) else None

-- ---- over trees, by what is known of the functions that are called

abbrev mutual
  -- The sum after an instruction, if it has a bound.
  pub sum_with : (ℕ → Option ℕ) → Instruction → (sum : ℕ) → Option ℕ
  sum_with known (tree.Block ty body) sum = option_map (joined sum 0) (sum_over known body 0)
  sum_with known (tree.Loop ty body) sum = None
  sum_with known (tree.If ty first) sum = option_map (joined sum 0) (sum_over known first 0)
  sum_with known (IfElse ty first second) sum =
      option_and_then (λ n. option_map (joined sum n) (sum_over known second 0)) (sum_over known first 0)
  sum_with known (tree.Call x) sum = option_map (added (added sum 1)) (known x)
  sum_with known (tree.CallIndirect x) sum = None
  sum_with known _ sum = Some (added sum 1)

  -- The sum after a sequence, if it has a bound.
  pub sum_over : (ℕ → Option ℕ) → Sequence → (sum : ℕ) → Option ℕ
  sum_over known Empty sum = Some sum
  sum_over known (Then i rest) sum = option_and_then (λ n. sum_over known rest n) (sum_with known i sum)

-- The bound of a function with this body, if it has one.
abbrev pub body_bound : (ℕ → Option ℕ) → List Instr → Option ℕ
body_bound known body = option_map (λ n. added n 1) (sum_over known (sequence_of body) 0)

-- ---- over items

-- The sum of the innermost part so far, and the parts around it, the innermost first.
pub record Sums : Type 0 where
  pub steps : ℕ
  pub around : List Part

-- What a walk has summed.
abbrev pub sums_of : Walk → Sums
sums_of w = record { steps = w.steps; around = reverse w.around }

-- The sum after an instruction that holds no others, if it has a bound.
abbrev pub stepped : (ℕ → Option ℕ) → Instr → (sum : ℕ) → Option ℕ
stepped known (Call x) sum = option_map (added (added sum 1)) (known x)
stepped known (CallIndirect x) sum = None
stepped known _ sum = Some (added sum 1)

-- A part begins.
abbrev pub begun : Sums → Sums
begun s = record { steps = 0; around = record { before = s.steps; first = 0 } ∷ s.around }

-- The first side of the innermost part is over.
abbrev pub turned : (steps : ℕ) → List Part → Sums
turned steps [] = record { steps = steps; around = [] }
turned steps (p ∷ ps) = record { steps = 0; around = record { before = p.before; first = steps } ∷ ps }

-- The innermost part is over.
abbrev pub closed : (steps : ℕ) → List Part → Sums
closed steps [] = record { steps = steps; around = [] }
closed steps (p ∷ ps) = record { steps = joined p.before p.first steps; around = ps }

-- What is summed after an item, if there is a bound.
abbrev pub walked : (ℕ → Option ℕ) → Sums → Flat → Option Sums
walked known s (flat.One i) = option_map (λ n. record { steps = n; around = s.around }) (stepped known i s.steps)
walked known s (flat.Block ty) = Some (begun s)
walked known s (flat.Loop ty) = None
walked known s (flat.If ty) = Some (begun s)
walked known s flat.Else = Some (turned s.steps s.around)
walked known s flat.End = Some (closed s.steps s.around)

-- What is summed after all these items.
abbrev pub walked_all : (ℕ → Option ℕ) → Sums → List Flat → Option Sums
walked_all known s [] = Some s
walked_all known s (x ∷ xs) = option_and_then (λ next. walked_all known next xs) (walked known s x)

-- What is summed before a body.
abbrev pub begin : Sums
begin = record { steps = 0; around = [] }
