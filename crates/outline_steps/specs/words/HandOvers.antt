-- Between frames: what a tested assertion says doesn't depend on the frame, and arguments are handed over.
use Rattle.std.specs.Prelude.{◌≡◌, ℕ, ◌≤◌, Bool, ℤ, pos, List, length, map, take, drop, reverse, Option, None}
use Rattle.wasm_values.specs.Operators.{number_of}
use Rattle.wasm_syntax.specs.declared.module.FuncType.{FuncType}
use Rattle.term_trees.specs.Meaning.{value}
use Rattle.notes.specs.declared.assertion.Assertion.{Assertion}
use Rattle.outline_rules.specs.Settings.{Setting, is_memory_private}
use Rattle.outline_rules.specs.States.{State}
use Rattle.outline_rules.specs.Tests.{assertion_reason, leaf_test}
use Rattle.outline_rules.specs.Calls.{arguments, without_arguments}
use Rattle.outline_rules.specs.Meets.{numbers_of, Held}
use Rattle.outline_meaning.specs.Pieces.{Piece}
use Rattle.outline_meaning.specs.Beside.{MeetsBeside}
use Rattle.outline_steps.specs.words.Known.{with_operands}
use Rattle.outline_steps.specs.words.Assertions.{numbers_at, HoldsBeside, AreNamed}

-- A tested assertion (the invariant, a precondition, a postcondition) holds in one frame as in another that shares globals and
-- memory with it, under any numbers for variables.
abbrev pub HandedOver : Type 0
HandedOver =
    (c : Setting) (a : Assertion) (own_count arg_count : ℕ) (has_result : Bool) (n m own args : List ℤ) (result : Option ℤ) (from to : Held) (others : List Piece)
    → assertion_reason c (leaf_test c own_count arg_count has_result) a ≡ None
    → ((k : ℕ) → to.globals k ≡ from.globals k) → to.memory ≡ from.memory
    → HoldsBeside a (numbers_at n own from args result) (is_memory_private c) from.memory others
    → HoldsBeside a (numbers_at m own to args result) (is_memory_private c) to.memory others

-- The terms of a call's arguments have the numbers of the operands that the machine takes, and the state without them meets
-- what the waiting frame holds.
abbrev pub ArgumentsAre : Type 0
ArgumentsAre =
    (c : Setting) (ty : FuncType) (s : State) (h : Held) (n : List ℤ) (others : List Piece)
    → MeetsBeside c s h n others → length ty.params ≤ length h.operands
    → (map (value (numbers_of n)) (arguments ty s) ≡ map (λ v. pos (number_of v)) (reverse (take (length ty.params) h.operands)))
    × AreNamed s.vars (arguments ty s) × (length (arguments ty s) ≡ length ty.params)
    × MeetsBeside c (without_arguments ty s) (with_operands h (drop (length ty.params) h.operands)) n others
