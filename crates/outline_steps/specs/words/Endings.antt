-- The end of a function whose contract is tested, and the numbers that its contract is read under.
use Rattle.std.specs.Prelude.{◌≡◌, ℕ, ℤ, pos, List, ◌++◌, length, map, Option, option_map, Ok}
use Rattle.wasm_values.specs.declared.number.Val.{Val}
use Rattle.wasm_values.specs.Operators.{number_of}
use Rattle.term_trees.specs.Meaning.{value}
use Rattle.notes.specs.declared.uses.With.{With}
use Rattle.outline_rules.specs.Conditions.{IsStateOf}
use Rattle.outline_rules.specs.Settings.{Setting, func_type, result_type_of, contract_of, is_memory_private}
use Rattle.outline_rules.specs.States.{State}
use Rattle.outline_rules.specs.Entailment.{Wanted}
use Rattle.outline_rules.specs.Branches.{wanted_at_return, leaves_function}
use Rattle.outline_rules.specs.Tests.{invariant_tested, contract_tested}
use Rattle.outline_rules.specs.Meets.{numbers_of, Extends, Held}
use Rattle.outline_meaning.specs.Pieces.{Piece}
use Rattle.outline_meaning.specs.Beside.{MeetsBeside}
use Rattle.outline_steps.specs.words.Assertions.{numbers_at, HoldsBeside}
use Rattle.outline_steps.specs.words.Openings.{IsPassed}
use Rattle.outline_steps.specs.words.Shapes.{SameShape}

-- Where a function whose contract is tested is left, its postcondition, or the invariant, holds of what is held.
abbrev pub TestedLeftHolds : Type 0
TestedLeftHolds =
    (c : Setting) (func : ℕ) (w : With) (s : State) (h : Held) (n : List ℤ) (others : List Piece) (v : Option Val)
    → MeetsBeside c s h n others → IsStateOf c func s → invariant_tested c ≡ Ok tt → contract_tested c func ≡ Ok tt
    → IsPassed (result_type_of (func_type c func)) h.operands v → leaves_function c func w s ≡ Ok tt
    → (let want : Wanted = wanted_at_return c func (contract_of c func) s in
    (own : List ℤ) × (left : List Piece) × (length own ≡ want.assertion.own)
    × HoldsBeside want.assertion
    (numbers_at n (map (value (numbers_of n)) want.fixed ++ own) h (map (value (numbers_of n)) want.args) (option_map (λ x. pos (number_of x)) v))
    (is_memory_private c) h.memory (left ++ others))

-- A later state with the same arguments and given terms has the same numbers for them.
abbrev pub ContractNumbersStay : Type 0
ContractNumbersStay =
    (c : Setting) (s t : State) (h : Held) (n m : List ℤ) (others : List Piece)
    → MeetsBeside c s h n others → Extends m n → SameShape s t
    → (map (value (numbers_of m)) t.args ≡ map (value (numbers_of n)) s.args) × (map (value (numbers_of m)) t.given ≡ map (value (numbers_of n)) s.given)
