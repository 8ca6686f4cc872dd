-- Steps under a policy, which settles the one free choice of a step (Core Specification, section 4.4.4, memory.grow) and
-- limits the frames. Policies are the project's own.
use Rattle.std.specs.Prelude.{◌≡◌, ℕ, ◌+◌, ◌<◌, Bool, false, ◌&&◌, nat_le, List, [], ◌∷◌, length, sum_by, slice_get, Option, Some, None, option_and_then}
use Rattle.wasm_values.specs.declared.number.Val.{Val}
use Rattle.wasm_values.specs.Operators.{number_of}
use Rattle.wasm_store.specs.declared.store.MemInst.{MemInst}
use Rattle.wasm_store.specs.declared.store.Store.{Store}
use Rattle.wasm_store.specs.declared.config.Outcome.{Outcome}
use Rattle.wasm_store.specs.declared.config.Outcome.TheVariants.{Running, Done, Trapped}
use Rattle.wasm_store.specs.Configuration.{Activation, Layer, OfCode, OfHost, Configuration}
use Rattle.wasm_store.specs.Memory.{pages_of, memory_address, can_grow}
use Rattle.wasm_store.specs.Step.{StepBy}
use Rattle.wasm_reduce.specs.declared.policy.Policy.{Policy}
use Rattle.wasm_reduce.specs.declared.moved.Moved.{Moved}
use Rattle.wasm_reduce.specs.declared.moved.Moved.TheVariants as moved

-- The pages of all memories of a store together.
abbrev pub pages_in : Store → ℕ
pages_in s = sum_by pages_of s.memories

-- A policy lets a memory grow by so many pages: it can grow so, and the pages of the whole store, counted after the growth,
-- are at most the policy's.
abbrev pub lets_grow : Policy → Store → Option MemInst → (pages : ℕ) → Bool
lets_grow policy s None pages = false
lets_grow policy s (Some mem) pages = can_grow mem pages && nat_le (pages_in s + pages) policy.pages

-- The memory of a frame's instance.
abbrev pub memory_of : Store → Activation → Option MemInst
memory_of s f = option_and_then (λ m. slice_get s.memories m) (memory_address s f)

-- The number on top of some operands, or 0 without operands.
abbrev pub top_number : List Val → ℕ
top_number [] = 0
top_number (v ∷ operands) = number_of v

-- Whether `memory.grow` succeeds under a policy, where it is the next instruction of the top frame.
abbrev pub grows_next : Policy → Store → List Layer → Bool
grows_next policy s [] = false
grows_next policy s (OfCode f ∷ below) = lets_grow policy s (memory_of s f) (top_number f.operands)
grows_next policy s (OfHost func args given ∷ below) = false

-- A step in which `memory.grow` succeeds exactly where the policy lets the memory grow. It may take the frames past the
-- policy's number.
abbrev pub PolicyStep : Policy → Configuration → Configuration → Type 0
PolicyStep policy c d = StepBy (grows_next policy c.store c.frames) c d

-- The step would enter a frame, and there would then be more frames than the policy's number.
abbrev pub PassesFrames : Policy → Configuration → Type 0
PassesFrames policy c =
    (d : Configuration) × PolicyStep policy c d × (length c.frames < length d.frames) × (policy.frames < length d.frames)

-- The word for an outcome.
abbrev pub Tells : Outcome → Moved → Type 0
Tells Running word = word ≡ moved.Went
Tells (Done values) word = word ≡ moved.Done
Tells Trapped word = word ≡ moved.Trapped
