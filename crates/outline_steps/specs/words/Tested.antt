-- What the tests of the invariant and of contracts give: their leaves have terms in every state of a function.
use Rattle.std.specs.Prelude.{◌≡◌, ℕ, true, List, [], ◌++◌, length, slice_get, Option, None, option_and_then, is_some, Ok}
use Rattle.wasm_syntax.specs.declared.module.FuncType.{FuncType}
use Rattle.term_trees.specs.declared.term.Term.{Term}
use Rattle.notes.specs.declared.assertion.Contract.{Contract}
use Rattle.outline_rules.specs.Settings.{Setting, invariant_of, stability_of, is_memory_private}
use Rattle.outline_rules.specs.States.{State}
use Rattle.outline_rules.specs.Tests.{global_reason, has_result, invariant_tested, pre_tested, post_tested}
use Rattle.outline_steps.specs.words.Assertions.{asserted_leaves, AssertionIsNamed}

-- A state has a term for each stable global and for the page count of a private memory.
pub record HasStable (c : Setting) (s : State) : Type 0 where
  pub globals : (k : ℕ) → global_reason (stability_of c k) ≡ None → is_some (option_and_then (λ (o : Option Term). o) (slice_get s.globals k)) ≡ true
  pub pages : is_memory_private c ≡ true → is_some s.pages ≡ true

-- The tested invariant.
abbrev pub InvariantIsNamed : Type 0
InvariantIsNamed =
    (c : Setting) (vars : ℕ) (s : State) (own : List Term) → HasStable c s → invariant_tested c ≡ Ok tt → length own ≡ (invariant_of c).own
    → AssertionIsNamed (asserted_leaves vars s own [] None) (invariant_of c)

-- A tested precondition.
abbrev pub PreIsNamed : Type 0
PreIsNamed =
    (c : Setting) (ty : FuncType) (contract : Contract) (vars : ℕ) (s : State) (own args : List Term)
    → HasStable c s → pre_tested c ty contract ≡ Ok tt → length own ≡ contract.pre.own → length args ≡ length ty.params
    → AssertionIsNamed (asserted_leaves vars s own args None) contract.pre

-- A tested postcondition.
abbrev pub PostIsNamed : Type 0
PostIsNamed =
    (c : Setting) (ty : FuncType) (contract : Contract) (vars : ℕ) (s : State) (given own args : List Term) (result : Option Term)
    → HasStable c s → post_tested c ty contract ≡ Ok tt → length given ≡ contract.pre.own → length own ≡ contract.post.own → length args ≡ length ty.params
    → (has_result ty ≡ true → is_some result ≡ true)
    → AssertionIsNamed (asserted_leaves vars s (given ++ own) args result) contract.post
