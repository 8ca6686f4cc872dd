-- Labels: what their test for `scope` gives, and that control that goes to a label finds the state there met.
use Rattle.std.specs.Prelude.{◌≡◌, ℕ, Bool, true, ℤ, List, ◌++◌, slice_get, Option, Some, None, option_and_then, option_to_list, is_some, Ok, ◌⊎◌}
use Rattle.wasm_values.specs.declared.number.Val.{Val}
use Rattle.term_trees.specs.declared.term.Term.{Term}
use Rattle.notes.specs.declared.uses.With.{With}
use Rattle.outline_rules.specs.Settings.{Setting, private_globals, is_memory_private}
use Rattle.outline_rules.specs.States.{State}
use Rattle.outline_rules.specs.Branches.{Label, reaches}
use Rattle.outline_rules.specs.Blocks.{Changes, label_has_leaves, resumed}
use Rattle.outline_rules.specs.Meets.{numbers_of, Extends, Held}
use Rattle.outline_meaning.specs.Pieces.{Piece}
use Rattle.outline_meaning.specs.Beside.{MeetsBeside, MeetsBesideLater}
use Rattle.outline_steps.specs.words.Known.{with_operands, Known, InRange}
use Rattle.outline_steps.specs.words.Renewals.{Pending, GlobalsRenewed, PagesRenewed, ResultFits}
use Rattle.outline_steps.specs.words.Blocks.{LocalsRenewed}
use Rattle.outline_steps.specs.words.Openings.{IsPassed}

-- A state has a term for each local, global and page count for which another has one.
pub record HasPlaces (s t : State) : Type 0 where
  pub locals : (k : ℕ) → is_some (slice_get s.locals k) ≡ true → is_some (slice_get t.locals k) ≡ true
  pub globals : (k : ℕ) → is_some (option_and_then (λ (o : Option Term). o) (slice_get s.globals k)) ≡ true → is_some (option_and_then (λ (o : Option Term). o) (slice_get t.globals k)) ≡ true
  pub pages : is_some s.pages ≡ true → is_some t.pages ≡ true

-- Where control goes from a state to a label, the state there is met by what is held, with the operands of the entry and
-- the result that is passed on, under numbers that extend those of the entry. What the code of the block can't change is
-- as at the entry. The pieces that the assertion doesn't take are given up.
abbrev pub ArrivalKeeps : Type 0
ArrivalKeeps =
    (c : Setting) (changes : Changes) (l : Label) (w : With) (entry s t : State) (before h : Held) (first n : List ℤ) (others : List Piece) (v : Option Val)
    → Known c entry before first → is_some entry.pages ≡ is_memory_private c → label_has_leaves entry l ≡ true
    → MeetsBeside c s h n others → Extends n first → is_some s.pages ≡ is_memory_private c → HasPlaces entry s
    → IsPassed l.takes h.operands v → ResultFits l.takes v
    → LocalsRenewed changes.locals before.locals h.locals
    → GlobalsRenewed c entry changes.globals (private_globals c) before.globals h.globals
    → PagesRenewed (numbers_of first) entry.pages changes.pages h.memory
    → reaches l w s ≡ Ok tt → resumed c changes l entry ≡ Ok t
    → MeetsBesideLater c t (with_operands h (option_to_list v ++ before.operands)) first others

-- What is held before and after lies in its ranges, each private global that takes part is there, and each other global of
-- which the state says something is as before: then globals are renewed so.
abbrev pub GlobalsAreRenewed : Type 0
GlobalsAreRenewed =
    (c : Setting) (s : State) (part : ℕ → Bool) (before after : Held)
    → InRange c after → ((k : ℕ) → Pending part (private_globals c) k → (v : Val) × (after.globals k ≡ Some v))
    → ((k : ℕ) (t : Term) → slice_get s.globals k ≡ Some (Some t) → (before.globals k ≡ after.globals k) ⊎ Pending part (private_globals c) k)
    → GlobalsRenewed c s part (private_globals c) before.globals after.globals

-- A loop starts: where its label's assertion is entailed, the state at the start of its body is met by the same.
abbrev pub LoopStarts : Type 0
LoopStarts =
    (c : Setting) (changes : Changes) (l : Label) (w : With) (s t : State) (h : Held) (n : List ℤ) (others : List Piece)
    → MeetsBeside c s h n others → InRange c h → is_some s.pages ≡ is_memory_private c
    → ((k : ℕ) → Pending changes.globals (private_globals c) k → (v : Val) × (h.globals k ≡ Some v))
    → l.takes ≡ None → label_has_leaves s l ≡ true → reaches l w s ≡ Ok tt → resumed c changes l s ≡ Ok t
    → MeetsBesideLater c t h n others
