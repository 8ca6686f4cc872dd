-- A step of the machine at an instruction with its note: the moves, then the instruction.
use Rattle.std.specs.Prelude.{◌≡◌, ℕ, [], ℤ, List, Ok, ◌⊎◌}
use Rattle.wasm_syntax.specs.Trees.{Instruction, Sequence, Then}
use Rattle.wasm_typing.specs.Typing.{Types}
use Rattle.wasm_typing.specs.Valid.{globals_of}
use Rattle.wasm_store.specs.declared.store.Store.{Store}
use Rattle.wasm_store.specs.Configuration.{Activation, Layer, Configuration, going}
use Rattle.wasm_store.specs.Step.{Step}
use Rattle.type_safety.specs.Shapes.{shape_of}
use Rattle.type_safety.specs.Stores.{StoreTyped}
use Rattle.type_safety.specs.Frames.{FrameTyped}
use Rattle.outline_rules.specs.Conditions.{IsStateOf}
use Rattle.outline_rules.specs.Settings.{Setting}
use Rattle.outline_rules.specs.States.{State}
use Rattle.outline_rules.specs.Flows.{Flow}
use Rattle.outline_rules.specs.Branches.{Label}
use Rattle.outline_rules.specs.Body.{after_note}
use Rattle.outline_rules.specs.Uses.{use_at}
use Rattle.outline_rules.specs.words.Laws.{LemmasAreRight}
use Rattle.outline_rules.specs.Meets.{held_by}
use Rattle.outline_meaning.specs.Pieces.{Piece}
use Rattle.outline_meaning.specs.Beside.{MeetsBeside, MeetsBesideLater}
use Rattle.outline_steps.specs.words.Steps.{Stays, IsApart, GoesOn, Traps}

-- What a step comes to: the state once the moves are made is one of the function and meets what is held before; and either
-- the run has trapped, and the outline demands of that state what a trap demands, or it goes on, and the state after the
-- instruction is one of the function and meets what is held then.
pub record NotedOutcome (c : Setting) (func number : ℕ) (i : Instruction) (flow : Flow) (store : Store) (f after : Activation) (below : List Layer) (d : Configuration) (n : List ℤ) (others : List Piece) : Type 0 where
  pub made : State
  pub of_function : IsStateOf c func made
  pub meets : MeetsBesideLater c made (held_by store f) n others
  pub outcome : Traps c (use_at c func number) made store i d ⊎ ((g : GoesOn c flow after below d n others) × IsStateOf c func g.state)

-- Each step of a typed frame of the module at an instruction that stays in its frame.
abbrev pub NotedStepKeeps : Type 0
NotedStepKeeps =
    (c : Setting) (func number : ℕ) (ls : List Label) (i : Instruction) (rest : Sequence) (s : State) (flow : Flow)
    (store : Store) (f : Activation) (results : Types) (below : List Layer) (d : Configuration) (n : List ℤ) (others : List Piece)
    → LemmasAreRight c → StoreTyped store → (t : FrameTyped (shape_of store) f [] results) → t.context.globals ≡ globals_of c.code
    → f.rest ≡ Then i rest → Stays i → ((x : ℕ) → IsApart s store f x) → IsStateOf c func s
    → MeetsBeside c s (held_by store f) n others → Step (going store f below) d → after_note c func ls number i s ≡ Ok flow
    → NotedOutcome c func number i flow store f (record f { rest = rest }) below d n others
