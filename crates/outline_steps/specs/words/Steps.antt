-- A step of the machine at an instruction that stays in its frame and opens no label keeps meaning.
use Rattle.std.specs.Prelude.{◌≡◌, ℕ, Bool, ◌∷◌, ℤ, List, Some, is_some, slice_get, Ok, ◌⊎◌}
use Rattle.wasm_values.specs.declared.number.Val.{Val}
use Rattle.wasm_values.specs.declared.number.Val.TheVariants.{I32}
use Rattle.wasm_values.specs.Operators.{type_of}
use Rattle.wasm_syntax.specs.declared.instr.Plain.{Plain}
use Rattle.wasm_syntax.specs.declared.instr.Plain.TheVariants.{Return, Select}
use Rattle.wasm_syntax.specs.Trees as tree
use Rattle.wasm_syntax.specs.Trees.{Instruction, Sequence, Then}
use Rattle.wasm_store.specs.declared.store.Store.{Store}
use Rattle.wasm_store.specs.Configuration.{Activation, Layer, Configuration, going, trapped}
use Rattle.wasm_store.specs.Numeric.{global_address}
use Rattle.wasm_store.specs.Step.{InstructionStep, Step}
use Rattle.term_trees.specs.declared.term.Term.{Term}
use Rattle.notes.specs.declared.uses.Use.{Use}
use Rattle.outline_rules.specs.Settings.{Setting, global_type, is_memory_private}
use Rattle.outline_rules.specs.States.{State, popped}
use Rattle.outline_rules.specs.Flows.{Flow, Live}
use Rattle.outline_rules.specs.Branches.{Label}
use Rattle.outline_rules.specs.Body.{after}
use Rattle.outline_rules.specs.Meets.{held_by}
use Rattle.outline_meaning.specs.Pieces.{Piece}
use Rattle.outline_meaning.specs.Beside.{MeetsBeside, MeetsBesideLater}
use Rattle.outline_steps.specs.words.Known.{InRange, TrapIsAllowed}

-- ---- which instructions

-- An instruction without immediates that stays in its frame.
abbrev pub PlainStays : Plain → Type 0
PlainStays Return = ⊥
PlainStays _ = Unit {0}

-- An instruction stays in its frame and opens no label; or it traps.
abbrev pub Stays : Instruction → Type 0
Stays (tree.Plain op) = PlainStays op
Stays (tree.Num op) = Unit {0}
Stays (tree.Const value) = Unit {0}
Stays (tree.LocalGet x) = Unit {0}
Stays (tree.LocalSet x) = Unit {0}
Stays (tree.LocalTee x) = Unit {0}
Stays (tree.GlobalGet x) = Unit {0}
Stays (tree.GlobalSet x) = Unit {0}
Stays (tree.Load op align offset) = Unit {0}
Stays (tree.Store op align offset) = Unit {0}
Stays _ = ⊥

-- How many operands an instruction that may trap takes.
abbrev pub trap_takes : Instruction → ℕ
trap_takes (tree.Num op) = 2
trap_takes (tree.Load op align offset) = 1
trap_takes (tree.Store op align offset) = 2
trap_takes _ = 0

-- ---- what is wanted of the frame and the store

-- A global that is set has an address of its own among those of which the state says something.
abbrev pub IsApart : State → Store → Activation → (x : ℕ) → Type 0
IsApart s store f x =
    (k : ℕ) (t : Term) (a : ℕ) → slice_get s.globals k ≡ Some (Some t) → (k ≡ x → ⊥)
    → global_address store f x ≡ Some a → global_address store f k ≡ Some a → ⊥

-- The types of operands, as the validity of the code gives them, and the address of a global that is set.
abbrev pub PlainSuits : Activation → Plain → Type 0
PlainSuits f Select =
    (k : ℕ) (first second : Val) (vs : List Val) → f.operands ≡ I32 k ∷ second ∷ first ∷ vs → type_of second ≡ type_of first
PlainSuits f _ = Unit {0}

abbrev pub Suits : Setting → State → Store → Activation → Instruction → Type 0
Suits c s store f (tree.Plain op) = PlainSuits f op
Suits c s store f (tree.LocalSet x) =
    (v w : Val) (vs : List Val) → f.operands ≡ v ∷ vs → slice_get f.locals x ≡ Some w → type_of v ≡ type_of w
Suits c s store f (tree.LocalTee x) =
    (v w : Val) (vs : List Val) → f.operands ≡ v ∷ vs → slice_get f.locals x ≡ Some w → type_of v ≡ type_of w
Suits c s store f (tree.GlobalSet x) =
    ((v : Val) (vs : List Val) → f.operands ≡ v ∷ vs → type_of v ≡ global_type c x) × IsApart s store f x
Suits c s store f _ = Unit {0}

-- ---- what comes of a step

-- The run goes on in the same frame, at the code after the instruction, and the state after the instruction meets what is
-- held then.
pub record GoesOn (c : Setting) (flow : Flow) (f : Activation) (below : List Layer) (d : Configuration) (n : List ℤ) (others : List Piece) : Type 0 where
  pub store : Store
  pub frame : Activation
  pub is : d ≡ going store frame below
  pub instance : frame.instance ≡ f.instance
  pub func : frame.func ≡ f.func
  pub labels : frame.labels ≡ f.labels
  pub rest : frame.rest ≡ f.rest
  pub state : State
  pub lives : flow ≡ Live state
  pub meets : MeetsBesideLater c state (held_by store frame) n others

-- The run has ended in a trap, and the outline demands there what a trap demands.
abbrev pub Traps : Setting → Use → State → Store → Instruction → Configuration → Type 0
Traps c u s store i d = (d ≡ trapped store) × TrapIsAllowed c u (popped (trap_takes i) s)

-- A state meets what a frame, whose rest is the code after an instruction, and a store hold, and suits the instruction.
pub record Before (c : Setting) (s : State) (store : Store) (f : Activation) (i : Instruction) (n : List ℤ) (others : List Piece) : Type 0 where
  pub meets : MeetsBeside c s (held_by store f) n others
  pub range : InRange c (held_by store f)
  pub pages : is_some s.pages ≡ is_memory_private c
  pub suits : Suits c s store f i

-- An instruction keeps meaning: each of its outcomes is a trap that the outline allows, or the state after it meets what is
-- held.
abbrev pub InstructionKeeps : Type 0
InstructionKeeps =
    (c : Setting) (func : ℕ) (ls : List Label) (i : Instruction) (u : Use) (s : State) (flow : Flow)
    (grows : Bool) (store : Store) (f : Activation) (below : List Layer) (d : Configuration) (n : List ℤ) (others : List Piece)
    → Stays i → Before c s store f i n others → InstructionStep grows store f below d i → after c func ls i u s ≡ Ok flow
    → Traps c u s store i d ⊎ GoesOn c flow f below d n others

-- A step of a configuration whose top frame is at such an instruction.
abbrev pub StepKeeps : Type 0
StepKeeps =
    (c : Setting) (func : ℕ) (ls : List Label) (i : Instruction) (rest : Sequence) (u : Use) (s : State) (flow : Flow)
    (store : Store) (f : Activation) (below : List Layer) (d : Configuration) (n : List ℤ) (others : List Piece)
    → Stays i → f.rest ≡ Then i rest → Before c s store (record f { rest = rest }) i n others → Step (going store f below) d → after c func ls i u s ≡ Ok flow
    → Traps c u s store i d ⊎ GoesOn c flow (record f { rest = rest }) below d n others
