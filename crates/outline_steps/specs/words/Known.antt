-- What a state says of what is held apart from memory, and what is held after an effect.
use Rattle.std.specs.Prelude.{◌≡◌, ℕ, ◌*◌, ◌<◌, ◌≤◌, ℤ, List, ◌++◌, length, slice_get, Option, Some, Ok, All}
use Rattle.wasm_values.specs.declared.number.Val.{Val}
use Rattle.wasm_values.specs.Operators.{type_of}
use Rattle.wasm_typing.specs.Valid.{ValInRange}
use Rattle.term_trees.specs.declared.term.Term.{Term}
use Rattle.bitvector_rules.specs.Truth.{AllHold}
use Rattle.notes.specs.declared.uses.With.{With}
use Rattle.notes.specs.declared.uses.Use.{Use}
use Rattle.notes.specs.declared.uses.Use.TheVariants as used
use Rattle.outline_rules.specs.Settings.{Setting, global_type}
use Rattle.outline_rules.specs.States.{State}
use Rattle.outline_rules.specs.Calls.{trapping}
use Rattle.outline_rules.specs.Meets.{numbers_of, IsNamed, EntriesMeet, GlobalsMeet, Held}

-- ---- what is held

-- What is held, with other operands.
abbrev pub with_operands : Held → List Val → Held
with_operands h vs = record h { operands = vs }

-- What is held, with other locals.
abbrev pub with_locals : Held → List Val → Held
with_locals h vs = record h { locals = vs }

-- What is held, with other globals.
abbrev pub with_globals : Held → (ℕ → Option Val) → Held
with_globals h globals = record h { globals = globals }

-- What is held, with another memory.
abbrev pub with_memory : Held → Option (List ℕ) → Held
with_memory h memory = record h { memory = memory }

-- What is held lies in its ranges: each value in that of its type, globals of the types that the module gives them, and the
-- memory in bytes, a whole number of pages of at most 65,536.
pub record InRange (c : Setting) (h : Held) : Type 0 where
  pub locals : All ValInRange h.locals
  pub operands : All ValInRange h.operands
  pub globals : (k : ℕ) (v : Val) → h.globals k ≡ Some v → (type_of v ≡ global_type c k) × ValInRange v
  pub memory : (bytes : List ℕ) → h.memory ≡ Some bytes → All (λ b. b < 256) bytes
  pub pages : (bytes : List ℕ) → h.memory ≡ Some bytes → (p : ℕ) × (length bytes ≡ 65536 * p) × (p ≤ 65536)

-- ---- what a state says of it

-- A state meets what is held apart from memory, under numbers for its variables.
pub record Known (c : Setting) (s : State) (h : Held) (n : List ℤ) : Type 0 where
  pub counted : length n ≡ s.vars
  pub named : IsNamed s
  pub facts : AllHold (numbers_of n) s.facts
  pub locals : EntriesMeet (numbers_of n) s.locals h.locals
  pub operands : EntriesMeet (numbers_of n) s.operands h.operands
  pub globals : GlobalsMeet c (numbers_of n) s.globals h.globals

-- The state t after s meets what is held apart from memory under numbers that extend these, and says of memory what s says.
pub record Kept (c : Setting) (s t : State) (h : Held) (n : List ℤ) : Type 0 where
  pub more : List ℤ
  pub known : Known c t h (n ++ more)
  pub pages : t.pages ≡ s.pages
  pub chunks : t.chunks ≡ s.chunks

-- ---- effects

-- Globals after one of them is set: it has the value, and others of which the state says something are as before.
pub record GlobalIsSet (s : State) (before after : ℕ → Option Val) (x : ℕ) (v : Val) : Type 0 where
  pub there : after x ≡ Some v
  pub others : (k : ℕ) (t : Term) → slice_get s.globals k ≡ Some (Some t) → (k ≡ x → ⊥) → after k ≡ before k

-- What an outline demands where an instruction traps: its use is a `trap`, and the state without the operands entails the
-- invariant by its `with`.
abbrev pub TrapIsAllowed : Setting → Use → State → Type 0
TrapIsAllowed c u s = (w : With) × (u ≡ used.Trap w) × (trapping c w s ≡ Ok tt)
