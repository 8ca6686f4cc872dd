-- What well-formed notes have is well formed.
use Rattle.std.proofs.Common.{◌≡◌, ℕ, Bool, true, false, List, [], ◌∷◌, Option, Some, None, IsTrue, refl, ap, ◌∙◌}
use Rattle.std.specs.Prelude.{find, if◌then◌else◌, ◌==◌, option_and_then}
use Rattle.std.specs.List.{list_all}
use Rattle.term_trees.proofs.Truths.{both}
use Rattle.notes.specs.declared.assertion.Contract.{Contract}
use Rattle.notes.specs.declared.outline.FuncNotes.{FuncNotes}
use Rattle.notes.specs.WellFormed.{where_there, well_formed_assertion, well_formed_contract, well_formed_initial, well_formed_func, well_formed_note, well_formed_notes}
use Rattle.outline_rules.specs.Settings.{Setting, notes_of, contract_of, invariant_of}

-- what is found in a list passes what all of the list passes
found-passes : {A : Type 0} (p q : A → Bool) (xs : List A) → IsTrue (list_all q xs) → IsTrue (where_there q (find p xs))
found-passes p q [] all = refl
found-passes p q (x ∷ xs) all = by_test (p x) (found-passes p q xs (both (q x) (list_all q xs) all).1)
  where
    by_test : (b : Bool) → IsTrue (where_there q (find p xs)) → IsTrue (where_there q (if b then Some x else find p xs))
    by_test true later = (both (q x) (list_all q xs) all).0
    by_test false later = later

noted : (o : Option FuncNotes) → IsTrue (where_there well_formed_func o) → IsTrue (where_there well_formed_contract (option_and_then (λ (n : FuncNotes). n.contract) o))
noted None well = refl
noted (Some n) well = (both (where_there well_formed_contract n.contract) (list_all well_formed_note n.notes) well).0

pub contract-well-formed : (c : Setting) (f : ℕ) (o : Option Contract) → IsTrue (well_formed_notes c.notes) → o ≡ contract_of c f → IsTrue (where_there well_formed_contract o)
contract-well-formed c f o well is =
    let after_first = (both (well_formed_assertion c.notes.invariant) _ well).1 in
    let after_second = (both (well_formed_initial c.notes.initial) _ after_first).1 in
    let funcs = (both (list_all well_formed_func c.notes.funcs) _ after_second).0 in
    ap (where_there well_formed_contract) is
    ∙ noted (notes_of c f) (found-passes (λ (n : FuncNotes). n.func == f) well_formed_func c.notes.funcs funcs)

pub invariant-well-formed : (c : Setting) → IsTrue (well_formed_notes c.notes) → IsTrue (well_formed_assertion (invariant_of c))
invariant-well-formed c well = (both (well_formed_assertion c.notes.invariant) _ well).0

pub precondition-well-formed : (contract : Contract) → IsTrue (well_formed_contract contract) → IsTrue (well_formed_assertion contract.pre)
precondition-well-formed contract well = (both (well_formed_assertion contract.pre) _ well).0

pub ruleset contracts = (contract-well-formed)

pub ruleset assertions = (invariant-well-formed, precondition-well-formed)
