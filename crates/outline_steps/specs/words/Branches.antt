-- Steps of the machine that arrive at a label: a branch to it, and the end of its block.
use Rattle.std.specs.Prelude.{◌≡◌, true, ℤ, List, ◌∷◌, ◌++◌, length, Option, Some, None, option_to_list, is_some, Ok}
use Rattle.wasm_values.specs.declared.number.Val.{Val}
use Rattle.wasm_syntax.specs.Trees.{Sequence}
use Rattle.wasm_store.specs.declared.store.Store.{Store}
use Rattle.wasm_store.specs.Configuration.{OpenBlock, Activation, Layer, Configuration, going}
use Rattle.wasm_store.specs.Control.{count_of, Closes, Branches}
use Rattle.notes.specs.declared.uses.With.{With}
use Rattle.outline_rules.specs.Settings.{Setting, private_globals, is_memory_private}
use Rattle.outline_rules.specs.States.{State}
use Rattle.outline_rules.specs.Branches.{Label, reaches}
use Rattle.outline_rules.specs.Blocks.{Changes, label_has_leaves, resumed}
use Rattle.outline_rules.specs.Meets.{numbers_of, Extends, Held, held_by}
use Rattle.outline_meaning.specs.Pieces.{Piece}
use Rattle.outline_meaning.specs.Beside.{MeetsBeside, MeetsBesideLater}
use Rattle.outline_steps.specs.words.Known.{Known}
use Rattle.outline_steps.specs.words.Blocks.{LocalsRenewed}
use Rattle.outline_steps.specs.words.Labels.{HasPlaces}
use Rattle.outline_steps.specs.words.Renewals.{GlobalsRenewed, PagesRenewed, ResultFits}

-- Where the code goes on after a branch to a block: after it, or at the beginning of a loop.
abbrev pub goes_on_at : OpenBlock → (again : Option Sequence) → Sequence
goes_on_at ob None = ob.rest
goes_on_at ob (Some body) = body

-- What is wanted of a label, of the entry of its block, and of what is held where control goes to it.
pub record CanArrive (c : Setting) (changes : Changes) (l : Label) (w : With) (entry s t : State) (before h : Held) (first n : List ℤ) (others : List Piece) (v : Option Val) : Type 0 where
  pub entered : Known c entry before first
  pub private : is_some entry.pages ≡ is_memory_private c
  pub scope : label_has_leaves entry l ≡ true
  pub meets : MeetsBeside c s h n others
  pub extends : Extends n first
  pub also_private : is_some s.pages ≡ is_memory_private c
  pub places : HasPlaces entry s
  pub fits : ResultFits l.takes v
  pub locals : LocalsRenewed changes.locals before.locals h.locals
  pub globals : GlobalsRenewed c entry changes.globals (private_globals c) before.globals h.globals
  pub pages : PagesRenewed (numbers_of first) entry.pages changes.pages h.memory
  pub reached : reaches l w s ≡ Ok tt
  pub merged : resumed c changes l entry ≡ Ok t

-- A branch to the innermost of these labels, whose block has the label's arity and the height of the entry's operands, finds
-- the state there met.
abbrev pub BranchArrives : Type 0
BranchArrives =
    (c : Setting) (changes : Changes) (l : Label) (w : With) (entry s t : State) (before : Held) (first n : List ℤ) (others : List Piece) (v : Option Val)
    (store : Store) (f : Activation) (below : List Layer) (d : Configuration) (ob : OpenBlock) (obs : List OpenBlock) (between : List Val)
    → CanArrive c changes l w entry s t before (held_by store f) first n others v
    → ob.arity ≡ count_of l.takes → ob.height ≡ length before.operands → f.operands ≡ option_to_list v ++ (between ++ before.operands)
    → Branches store f below d (ob ∷ obs) 0
    → (g : Activation) × (d ≡ going store g below) × (g.rest ≡ goes_on_at ob ob.again) × MeetsBesideLater c t (held_by store g) first others

-- The end of a block, with its result on the operands of the entry, finds the state after it met.
abbrev pub EndArrives : Type 0
EndArrives =
    (c : Setting) (changes : Changes) (l : Label) (w : With) (entry s t : State) (before : Held) (first n : List ℤ) (others : List Piece) (v : Option Val)
    (store : Store) (f : Activation) (below : List Layer) (d : Configuration) (ob : OpenBlock) (obs : List OpenBlock)
    → CanArrive c changes l w entry s t before (held_by store f) first n others v
    → f.operands ≡ option_to_list v ++ before.operands
    → Closes store f below d (ob ∷ obs)
    → (g : Activation) × (d ≡ going store g below) × (g.rest ≡ ob.rest) × (g.labels ≡ obs) × MeetsBesideLater c t (held_by store g) first others
