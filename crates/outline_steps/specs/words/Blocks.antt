-- The state after a block, and at the start of a loop's body, is met by what is held there.
use Rattle.std.specs.Prelude.{◌≡◌, ℕ, Bool, true, false, ℤ, pos, List, [], ◌++◌, length, slice_get, Option, Some, None, option_map, option_to_list, is_some}
use Rattle.wasm_values.specs.declared.number.Val.{Val}
use Rattle.wasm_values.specs.Operators.{type_of, number_of}
use Rattle.wasm_typing.specs.Valid.{ValInRange}
use Rattle.outline_rules.specs.Settings.{Setting, private_globals, is_memory_private}
use Rattle.outline_rules.specs.States.{State, with_chunks}
use Rattle.outline_rules.specs.Branches.{Label}
use Rattle.outline_rules.specs.Blocks.{Changes, block_renewing}
use Rattle.outline_rules.specs.words.Plain.{plain_locals, plain_resumed}
use Rattle.outline_rules.specs.Meets.{numbers_of, Held}
use Rattle.outline_meaning.specs.Pieces.{Piece}
use Rattle.outline_meaning.specs.Beside.{MeetsBesideLater}
use Rattle.outline_steps.specs.words.Known.{Known}
use Rattle.outline_steps.specs.words.Assertions.{numbers_at, HoldsBeside, asserted_leaves, AssertionIsNamed}
use Rattle.outline_steps.specs.words.Renewals.{GlobalsRenewed, PagesRenewed, ResultFits, before_assertion, own_terms}

-- Each local that takes part has a value of its type, and each other its value of before.
pub record LocalsRenewed (part : ℕ → Bool) (before after : List Val) : Type 0 where
  pub same : (i : ℕ) → part i ≡ false → slice_get before i ≡ slice_get after i
  pub none : (i : ℕ) → slice_get before i ≡ None → slice_get after i ≡ None
  pub values : (i : ℕ) → part i ≡ true → (w : Val) → slice_get before i ≡ Some w → (v : Val) × (slice_get after i ≡ Some v) × (type_of v ≡ type_of w) × ValInRange v

-- the state before the renewal after a block
abbrev pub without_locals : Changes → State → State
without_locals changes entry = with_chunks [] (plain_locals changes.locals 0 entry.locals entry)

-- The state after a block or `if`, and at the start of a loop's body, meets what is held there: locals, globals and pages
-- that the code can't change are as at the entry, operands are those of the entry with the result on top, and the label's
-- assertion holds, for the variables of the entry.
abbrev pub ResumedKeeps : Type 0
ResumedKeeps =
    (c : Setting) (changes : Changes) (l : Label) (entry : State) (before after : Held) (n own : List ℤ) (others : List Piece) (v : Option Val)
    → Known c entry before n → is_some entry.pages ≡ is_memory_private c
    → LocalsRenewed changes.locals before.locals after.locals
    → after.operands ≡ option_to_list v ++ before.operands → ResultFits l.takes v
    → GlobalsRenewed c entry changes.globals (private_globals c) before.globals after.globals
    → PagesRenewed (numbers_of n) entry.pages changes.pages after.memory
    → length own ≡ l.assertion.own
    → AssertionIsNamed
    (asserted_leaves entry.vars (before_assertion (block_renewing c changes l.takes) (without_locals changes entry)).1
    (own_terms (block_renewing c changes l.takes) l.assertion (without_locals changes entry)) []
    (before_assertion (block_renewing c changes l.takes) (without_locals changes entry)).0) l.assertion
    → HoldsBeside l.assertion (numbers_at n own after [] (option_map (λ x. pos (number_of x)) v)) (is_memory_private c) after.memory others
    → MeetsBesideLater c (plain_resumed c changes l entry) after n others
