-- What instructions leave as it is in a state: the terms of arguments, which globals and page count have terms, the types of
-- locals.
use Rattle.std.specs.Prelude.{◌≡◌, ℕ, ℤ, Bool, List, map, is_some, Some, Ok}
use Rattle.wasm_values.specs.declared.number.Val.{Val}
use Rattle.wasm_syntax.specs.Trees.{Instruction}
use Rattle.notes.specs.declared.uses.Use.{Use}
use Rattle.notes.specs.declared.assertion.Assertion.{Assertion}
use Rattle.outline_rules.specs.Conditions.{IsStateOf}
use Rattle.outline_rules.specs.Settings.{Setting, private_globals}
use Rattle.outline_rules.specs.States.{State}
use Rattle.outline_rules.specs.Flows.{Live}
use Rattle.outline_rules.specs.Renewal.{Renewing, renewed}
use Rattle.outline_rules.specs.Branches.{Label}
use Rattle.outline_rules.specs.Blocks.{Changes, resumed}
use Rattle.outline_rules.specs.Entry.{entry_state}
use Rattle.outline_rules.specs.Meets.{Held}
use Rattle.outline_meaning.specs.Pieces.{Piece}
use Rattle.outline_meaning.specs.Beside.{MeetsBeside}
use Rattle.outline_steps.specs.words.Renewals.{Pending}
use Rattle.outline_steps.specs.words.Tested.{HasStable}
use Rattle.outline_rules.specs.Body.{after}
use Rattle.outline_steps.specs.words.Labels.{HasPlaces}
use Rattle.outline_steps.specs.words.Steps.{Stays}

-- Two states have the same arguments and given terms, terms for the same globals and for the page count, and locals of the
-- same types.
pub record SameShape (s t : State) : Type 0 where
  pub args : t.args ≡ s.args
  pub given : t.given ≡ s.given
  pub globals : map is_some t.globals ≡ map is_some s.globals
  pub pages : is_some t.pages ≡ is_some s.pages
  pub locals : map (λ e. e.0) t.locals ≡ map (λ e. e.0) s.locals

-- An instruction that stays in its frame leaves them.
abbrev pub ShapeStays : Type 0
ShapeStays =
    (c : Setting) (func : ℕ) (ls : List Label) (i : Instruction) (u : Use) (s t : State)
    → Stays i → after c func ls i u s ≡ Ok (Live t) → SameShape s t

-- So the state has the places of the one before, and is one of the function where that is.
abbrev pub ShapeHasPlaces : Type 0
ShapeHasPlaces = (s t : State) → SameShape s t → HasPlaces s t

abbrev pub ShapeOfFunction : Type 0
ShapeOfFunction = (c : Setting) (f : ℕ) (s t : State) → IsStateOf c f s → SameShape s t → IsStateOf c f t

-- Renewals leave them, where the state has what is stable.
abbrev pub RenewedShape : Type 0
RenewedShape =
    (c : Setting) (r : Renewing) (a : Assertion) (s t : State)
    → HasStable c s → r.globals ≡ private_globals c → renewed r a s ≡ Ok t → SameShape s t

abbrev pub ResumedShape : Type 0
ResumedShape = (c : Setting) (changes : Changes) (l : Label) (entry t : State) → HasStable c entry → resumed c changes l entry ≡ Ok t → SameShape entry t

-- A function's entry state is one of the function.
abbrev pub EntryIsState : Type 0
EntryIsState = (c : Setting) (f : ℕ) (t : State) → entry_state c f ≡ Ok t → IsStateOf c f t

-- The private globals are held, where a state that has what is stable meets what is held.
abbrev pub PrivateIsHeld : Type 0
PrivateIsHeld =
    (c : Setting) (s : State) (h : Held) (n : List ℤ) (others : List Piece) (part : ℕ → Bool) (k : ℕ)
    → MeetsBeside c s h n others → HasStable c s → Pending part (private_globals c) k → (v : Val) × (h.globals k ≡ Some v)
