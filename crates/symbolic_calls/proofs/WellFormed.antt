-- What calls read off well-formed notes is well formed.
use Rattle.std.proofs.Common.{◌≡◌, ℕ, Bool, true, false, List, [], ◌∷◌, Option, Some, None, IsTrue, refl, subst}
use Rattle.std.specs.Prelude.{◌==◌, find, if◌then◌else◌, option_and_then, Ok}
use Rattle.std.specs.List.{list_all}
use Rattle.term_trees.proofs.Truths.{both}
use Rattle.wasm_syntax.specs.declared.module.FuncType.{FuncType}
use Rattle.notes.specs.declared.reason.Reason.TheVariants as reason
use Rattle.notes.specs.declared.assertion.Contract.{Contract}
use Rattle.notes.specs.declared.outline.FuncNotes.{FuncNotes}
use Rattle.notes.specs.declared.uses.With.{With}
use Rattle.notes.specs.declared.uses.Use.{Use}
use Rattle.notes.specs.declared.uses.Use.TheVariants as used
use Rattle.notes.specs.WellFormed.{where_there, well_formed_assertion, well_formed_contract, well_formed_initial, well_formed_func, well_formed_with, well_formed_use, well_formed_notes}
use Rattle.escape_analysis.specs.Exposure.{has_private_table}
use Rattle.outline_rules.specs.Refusals.{wanted, ◌>>◌}
use Rattle.outline_rules.specs.Settings.{Setting, notes_of, contract_of, invariant_of}
use Rattle.outline_rules.specs.Calls.{same_contract, candidates, judged_by, judged}
use Rattle.outline_rules.specs.Uses.{trap_of}

-- ---- the invariant

pub invariant-well : (c : Setting) → IsTrue (well_formed_notes c.notes) → IsTrue (well_formed_assertion (invariant_of c))
invariant-well c well = (both (well_formed_assertion c.notes.invariant) _ well).0

pub ruleset invariants = (invariant-well)

-- ---- contracts

found-well : {A : Type 0} (p q : A → Bool) (xs : List A) → IsTrue (list_all q xs) → IsTrue (where_there q (find p xs))
found-well p q [] all = refl
found-well p q (y ∷ ys) all = by_test (p y) (found-well p q ys (both (q y) (list_all q ys) all).1)
  where
    by_test : (b : Bool) → IsTrue (where_there q (find p ys)) → IsTrue (where_there q (if b then Some y else find p ys))
    by_test true later = (both (q y) (list_all q ys) all).0
    by_test false later = later

noted-well : (o : Option FuncNotes) → IsTrue (where_there well_formed_func o) → IsTrue (where_there well_formed_contract (option_and_then (λ (n : FuncNotes). n.contract) o))
noted-well None well = refl
noted-well (Some n) well = (both (where_there well_formed_contract n.contract) _ well).0

pub contract-well : (c : Setting) (f : ℕ) → IsTrue (well_formed_notes c.notes) → IsTrue (where_there well_formed_contract (contract_of c f))
contract-well c f well =
    let n = c.notes in
    let after_first = (both (well_formed_assertion n.invariant) _ well).1 in
    let after_second = (both (well_formed_initial n.initial) _ after_first).1 in
    let funcs = (both (list_all well_formed_func n.funcs) _ after_second).0 in
    noted-well (notes_of c f) (found-well (λ (k : FuncNotes). k.func == f) well_formed_func n.funcs funcs)

-- ---- what an indirect call is judged by

module _ (c : Setting) (ty : FuncType) (well : IsTrue (well_formed_notes c.notes)) (o : Option Contract) where
  same-well : (p : Option Contract) → p ≡ o → IsTrue (where_there well_formed_contract p) → IsTrue (where_there well_formed_contract o)
  same-well p same here = let P : Option Contract → Type 0 = λ q. IsTrue (where_there well_formed_contract q) in subst P same here

  first-well : (f : ℕ) (b : Bool) → (wanted reason.Target b >> Ok (contract_of c f)) ≡ Ok o → IsTrue (where_there well_formed_contract o)
  first-well f true is = same-well (contract_of c f) (let same : contract_of c f ≡ o = cc in same) (contract-well c f well)
  first-well f false is = cc

  by-candidates : (fs : List ℕ) → judged_by c fs ≡ Ok o → IsTrue (where_there well_formed_contract o)
  by-candidates [] is = cc
  by-candidates (f ∷ fs) is = first-well f (list_all (λ g. same_contract (contract_of c g) (contract_of c f)) fs) is

  by-table : (b : Bool) → (if b then judged_by c (candidates c ty) else Ok None) ≡ Ok o → IsTrue (where_there well_formed_contract o)
  by-table true is = by-candidates (candidates c ty) is
  by-table false is = same-well None (let same : None ≡ o = cc in same) refl

  pub judged-well : judged c ty ≡ Ok o → IsTrue (where_there well_formed_contract o)
  judged-well is = by-table (has_private_table c.code) is

-- ---- uses

module _ (w : With) where
  pub trap-well : (u : Use) → IsTrue (well_formed_use u) → trap_of u ≡ Ok w → IsTrue (well_formed_with w)
  trap-well (used.Trap x) well is = let same : x ≡ w = cc in let P : With → Type 0 = λ y. IsTrue (well_formed_with y) in subst P same well
  trap-well _ well is = cc

pub ruleset contracts = (contract-well)

pub ruleset judgements = (judged-well)

pub ruleset traps = (trap-well)
