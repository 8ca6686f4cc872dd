-- The facts that a step of a derivation may refer to.
use Rattle.std.specs.Prelude.{ℕ, ◌≤◌, Bool, true, false, List, [], ◌∷◌, ◌++◌, map, take, drop, length, slice_get, Option, Some, None}
use Rattle.std.specs.Option.{option_map, option_and_then}
use Rattle.std.specs.List.{All}
use Rattle.term_trees.specs.declared.term.Term.{Term}
use Rattle.term_trees.specs.declared.term.Formula.{Formula}
use Rattle.term_logic.specs.declared.formula.IdFormula.{IdFormula}
use Rattle.term_logic.specs.Formulas.{formula_bound, formula_of}
use Rattle.term_trees.specs.Ground.{both}
use Rattle.bitvector_rules.specs.declared.step.Ref.{Ref}
use Rattle.bitvector_rules.specs.declared.step.Ref.TheVariants.{Hyp, Earlier}
use Rattle.bitvector_rules.specs.declared.facts.Facts.{Facts}

-- ---- lists

-- Whether a list has no items.
abbrev pub is_empty : {A : Type 0} → List A → Bool
is_empty [] = true
is_empty (x ∷ xs) = false

-- The item of a list of one.
abbrev pub one_of : {A : Type 0} → List A → Option A
one_of (x ∷ []) = Some x
one_of _ = None

-- The items of a list of two.
abbrev pub two_of : {A : Type 0} → List A → Option (A × A)
two_of (x ∷ y ∷ []) = Some (x, y)
two_of _ = None

-- ---- premises

-- The fact that a reference names, where it names one.
abbrev pub fact_at : List Formula → List Formula → Ref → Option Formula
fact_at hyps earlier (Hyp k) = slice_get hyps k
fact_at hyps earlier (Earlier k) = slice_get earlier k

-- The premise of a rule that has one: there is exactly one reference, and it names a fact.
abbrev pub one_premise : List Formula → List Formula → List Ref → Option Formula
one_premise hyps earlier refs = option_and_then (fact_at hyps earlier) (one_of refs)

-- The premises of a rule that has two, in the order of the references.
abbrev pub two_premises : List Formula → List Formula → List Ref → Option (Formula × Formula)
two_premises hyps earlier refs = option_and_then (λ r. both (fact_at hyps earlier r.0) (fact_at hyps earlier r.1)) (two_of refs)

-- The premises of a rule that has any number, in the order of the references: each of these names a fact.
abbrev pub premises : List Formula → List Formula → List Ref → Option (List Formula)
premises hyps earlier [] = Some []
premises hyps earlier (r ∷ rs) = option_and_then (λ f. option_map (λ fs. f ∷ fs) (premises hyps earlier rs)) (fact_at hyps earlier r)

-- ---- facts over a table

-- The hypotheses: those that are given, and the first of the added facts.
abbrev pub hyps_of : List Term → Facts → List Formula
hyps_of ts f = map (formula_of ts) (f.hyps.now ++ take f.base f.added.now)

-- The conclusions of the earlier steps: the other added facts.
abbrev pub earlier_of : List Term → Facts → List Formula
earlier_of ts f = map (formula_of ts) (drop f.base f.added.now)

-- All positions in the formulas are below n.
abbrev pub AllWithin : ℕ → List IdFormula → Type 0
AllWithin n fs = All (λ f. formula_bound f ≤ n) fs

-- The facts are over a table of n terms.
pub record FactsWithin (n : ℕ) (f : Facts) : Type 0 where
  pub base : f.base ≤ length f.added.now
  pub hyps : AllWithin n f.hyps.now
  pub added : AllWithin n f.added.now
