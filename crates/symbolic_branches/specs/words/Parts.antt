-- Parts of what branches do.
use Rattle.std.specs.Prelude.{ℕ, List, [], Option, Some, None, Ok}
use Rattle.term_trees.specs.declared.term.Term.{Term}
use Rattle.notes.specs.declared.assertion.Assertion.{Assertion}
use Rattle.notes.specs.declared.assertion.Contract.{Contract}
use Rattle.notes.specs.declared.uses.With.{With}
use Rattle.notes.specs.declared.uses.Take.{Take}
use Rattle.outline_rules.specs.Refusals.{Ruling, ◌>>=◌, ◌>>◌}
use Rattle.outline_rules.specs.Settings.{Setting, invariant_of}
use Rattle.outline_rules.specs.States.{State, fact_added}
use Rattle.outline_rules.specs.Entailment.{entailed}
use Rattle.outline_rules.specs.Moves.{moved}
use Rattle.outline_rules.specs.Branches.{Label, reaches, leaves_function, branches, takes_branch, is_zero, is_not_zero}

-- the state entails an assertion, with these terms for its arguments, its result and its first own variables
abbrev pub entails_with : Assertion → (args : List Term) → (passed_on : Option Term) → (fixed : List Term) → With → State → Ruling (Unit {0})
entails_with a args r fixed w s = entailed s (record { assertion = a; args = args; result = r; fixed = fixed }) w >> Ok tt

-- what is entailed where the function is left with a result, by its contract, or of the invariant without one
abbrev pub leaves_by : Setting → Option Contract → (passed_on : Option Term) → With → State → Ruling (Unit {0})
leaves_by c None r w s = entails_with (invariant_of c) [] r [] w s
leaves_by c (Some contract) r w s = entails_with contract.post s.args r s.given w s

-- control goes to a label, or leaves the function where there is none
abbrev pub branches_to : Setting → (func : ℕ) → Option Label → With → State → Ruling (Unit {0})
branches_to c f None w s = leaves_function c f w s
branches_to c f (Some l) w s = reaches l w s

-- the moves of a take are made, and then the branch is taken
abbrev pub branches_moved : Setting → (func : ℕ) → List Label → (k : ℕ) → Take → State → Ruling (Unit {0})
branches_moved c f ls k t s = moved c t.moves s >>= λ v. branches c f ls k t.with v

-- what a `br_if` on a condition does, once it is taken off
abbrev pub branches_on : Setting → (func : ℕ) → List Label → (k : ℕ) → (condition : Term) → Take → State → Ruling State
branches_on c f ls k condition t s = takes_branch c f ls k (is_not_zero condition) t s >> fact_added (is_zero condition) s
