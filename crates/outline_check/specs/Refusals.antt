-- The first refusal of tests that stand in a row, and its place.
use Rattle.std.specs.Prelude.{◌≡◌, ℕ, Bool, true, false, Option, Result, Ok, Err}
use Rattle.outline_check.specs.declared.answer.Answer.{Answer}
use Rattle.outline_check.specs.declared.answer.Answer.TheVariants as answer
use Rattle.outline_check.specs.declared.answer.CheckFault.{CheckFault}
use Rattle.outline_check.specs.declared.answer.CheckFault.TheVariants as fault
use Rattle.wasm_values.specs.declared.limit.LimitWord.{LimitWord}
use Rattle.wasm_values.specs.Answers as answers
use Rattle.outline_check.specs.declared.answer.Reason.{Reason}
use Rattle.outline_check.specs.declared.stop.Why.{Why}
use Rattle.outline_check.specs.declared.stop.Why.TheVariants as why
use Rattle.outline_check.specs.declared.stop.Refusal.{Refusal}
use Rattle.wasm_values.specs.declared.error.OrMemory.{OrMemory}
use Rattle.wasm_values.specs.declared.error.OrMemory.TheVariants as stop

-- What the outline of a module is: verified, failed at a place (in a function, where one is meant) for a reason, or past
-- a limit at a place.
pub data Outline : Type 0 where
  Verified : Outline
  Failed : ℕ → Option ℕ → Reason → Outline
  Limit : ℕ → LimitWord → Outline

-- What comes after a success; a refusal stands.
abbrev pub and_then : {A B E : Type 0} → Result A E → (A → Result B E) → Result B E
and_then (Ok a) next = next a
and_then (Err e) next = Err e

-- A test that is met goes on, one that isn't is refused for the reason.
abbrev pub test_for : Reason → Bool → Result (Unit {0}) Why
test_for reason true = Ok tt
test_for reason false = Err (why.Reason reason)

-- A result with its place, where it is a refusal.
abbrev pub placed : {A : Type 0} → ℕ → Option ℕ → Result A Why → Result A Refusal
placed at function (Ok a) = Ok a
placed at function (Err reason) = Err (record { at = at; function = function; why = reason })

-- What a refusal at a place says of the outline.
abbrev pub failed_by : ℕ → Option ℕ → Why → Outline
failed_by at function (why.Reason reason) = Failed at function reason
failed_by at function (why.Limit word) = Limit at word

-- The same of a refusal with its place.
abbrev pub failed : Refusal → Outline
failed refusal = failed_by refusal.at refusal.function refusal.why

-- The outline by the tests of a whole module.
abbrev pub answered : Result (Unit {0}) Refusal → Outline
answered (Ok _) = Verified
answered (Err refusal) = failed refusal

-- A result is as the definition says, or want of memory.
abbrev pub IsSaid : {A W : Type 0} → Result A (OrMemory W) → Result A W → Type 0
IsSaid result said = answers.Gives answers.fault_of (λ a. a) result said

-- A result isn't want of memory.
abbrev pub HasMemory : {A W : Type 0} → Result A (OrMemory W) → Type 0
HasMemory result = answers.HasMemory answers.fault_of result

-- An answer is the outline that is said, or want of memory.
abbrev pub IsAnswer : Result Answer CheckFault → Outline → Type 0
IsAnswer (Ok answer.Verified) said = said ≡ Verified
IsAnswer (Ok (answer.Failed at function reason)) said = said ≡ Failed at function reason
IsAnswer (Err (fault.Limit at word)) said = said ≡ Limit at word
IsAnswer (Err fault.OutOfMemory) said = Unit {0}

-- A result with its place; want of memory has none.
abbrev pub stops_at : {A : Type 0} → ℕ → Option ℕ → Result A (OrMemory Why) → Result A (OrMemory Refusal)
stops_at at function (Ok a) = Ok a
stops_at at function (Err (stop.Fault reason)) = Err (stop.Fault (record { at = at; function = function; why = reason }))
stops_at at function (Err stop.OutOfMemory) = Err stop.OutOfMemory
