-- What an instruction did to its frame, and what it leaves to the frames around. These words are the project's own: by them
-- the parts of a step state their contracts.
use Rattle.std.specs.Prelude.{◌≡◌, ℕ, ◌≤◌, Bool, List, drop, length}
use Rattle.wasm_syntax.specs.declared.instr.Instr.{Instr}
use Rattle.wasm_syntax.specs.Trees.{Instruction}
use Rattle.wasm_syntax.specs.Places.{rest_at}
use Rattle.wasm_store.specs.declared.config.CodeFrame.{CodeFrame}
use Rattle.wasm_store.specs.declared.store.Store.{Store}
use Rattle.wasm_store.specs.Configuration.{Activation, Layer, Configuration, going, trapped}
use Rattle.wasm_store.specs.Seen.{body_of, seen_code}
use Rattle.wasm_store.specs.Control.{Leaves, Enters}
use Rattle.wasm_store.specs.Step.{InstructionStep, Moves}
use Rattle.wasm_reduce.specs.declared.effect.Effect.{Effect}
use Rattle.wasm_reduce.specs.declared.effect.Effect.TheVariants.{Went, Trap, Leave, Enter}
use Rattle.wasm_reduce.specs.declared.policy.Policy.{Policy}
use Rattle.wasm_reduce.specs.Policies.{lets_grow, memory_of, top_number}

-- What may come of a step, over the frames below.
abbrev pub Outcomes : Type 1
Outcomes = List Layer → Configuration → Type 0

-- Something may come of it.
abbrev pub Can : Outcomes → Type 0
Can R = (below : List Layer) × (d : Configuration) × R below d

-- The body that a frame runs.
abbrev pub body_in : Store → CodeFrame → List Instr
body_in s f = body_of s.funcs s.instances f.func

-- A frame as this store's code makes it.
abbrev pub seen_in : Store → CodeFrame → Activation
seen_in s f = seen_code (body_in s f) f

-- The frame with the rest of its code at another position.
abbrev pub moved_to : Store → CodeFrame → ℕ → Activation
moved_to s f on = record (seen_in s f) { rest = rest_at (body_in s f) on }

-- The frame without so many operands on top.
abbrev pub under : Activation → ℕ → Activation
under f above = record f { operands = drop above f.operands }

-- What may come of an instruction after which the frame goes on at a position.
abbrev pub Does : Bool → Instruction → Store → CodeFrame → ℕ → Outcomes
Does grows i s f on = λ below d. InstructionStep grows s (moved_to s f on) below d i

-- Whether a growth succeeds in a frame, under a policy.
abbrev pub grows_in : Policy → Store → Activation → Bool
grows_in policy s f = lets_grow policy s (memory_of s f) (top_number f.operands)

-- What may come of a step of this frame, under a policy.
abbrev pub moves_of : Policy → Store → CodeFrame → Outcomes
moves_of policy s f = λ below d. Moves (grows_in policy s (seen_in s f)) s (seen_in s f) below d (seen_in s f).rest

-- What came of it is one of R's: in the store and frame after it, or as the effect says, which is then possible.
abbrev pub CameOf : Outcomes → Store → CodeFrame → Store → CodeFrame → Effect → Type 0
CameOf R s f s' f' Went = (below : List Layer) → R below (going s' (seen_in s' f') below)
CameOf R s f s' f' Trap = (s' ≡ s) × ((below : List Layer) → R below (trapped s))
CameOf R s f s' f' (Leave above) =
    (s' ≡ s) × (f' ≡ f) × (above ≤ length f.operands) × Can (λ below d. Leaves s (under (seen_in s f) above) below d)
    × ((below : List Layer) (d : Configuration) → Leaves s (under (seen_in s f) above) below d → R below d)
CameOf R s f s' f' (Enter func above on) =
    (s' ≡ s) × (f' ≡ f) × (above ≤ length f.operands) × Can (λ below d. Enters s (under (moved_to s f on) above) below d func)
    × ((below : List Layer) (d : Configuration) → Enters s (under (moved_to s f on) above) below d func → R below d)

-- The code that frames run is the same in both stores.
abbrev pub SameCode : Store → Store → Type 0
SameCode s s' = (s'.funcs ≡ s.funcs) × (s'.instances ≡ s.instances)
