-- What type safety gives the laws on steps: ranges, and the types of operands.
use Rattle.std.specs.Prelude.{◌≡◌, ℕ, []}
use Rattle.wasm_syntax.specs.Trees.{Instruction, Sequence, Then}
use Rattle.wasm_typing.specs.Typing.{Types}
use Rattle.wasm_typing.specs.Valid.{globals_of}
use Rattle.wasm_store.specs.declared.store.Store.{Store}
use Rattle.wasm_store.specs.Configuration.{Activation}
use Rattle.type_safety.specs.Shapes.{shape_of}
use Rattle.type_safety.specs.Stores.{StoreTyped}
use Rattle.type_safety.specs.Frames.{FrameTyped}
use Rattle.outline_rules.specs.Settings.{Setting}
use Rattle.outline_rules.specs.States.{State}
use Rattle.outline_rules.specs.Meets.{held_by}
use Rattle.outline_steps.specs.words.Known.{InRange}
use Rattle.outline_steps.specs.words.Steps.{IsApart, Suits}

-- A typed frame of an instance of the module holds values in their ranges, and suits the instruction that it is at, where the
-- globals that a state speaks of have addresses of their own.
abbrev pub TypedFrameSuits : Type 0
TypedFrameSuits =
    (c : Setting) (s : State) (store : Store) (f : Activation) (i : Instruction) (rest : Sequence) (results : Types)
    → StoreTyped store → (t : FrameTyped (shape_of store) f [] results) → t.context.globals ≡ globals_of c.code
    → f.rest ≡ Then i rest → ((x : ℕ) → IsApart s store f x)
    → InRange c (held_by store f) × Suits c s store (record f { rest = rest }) i
