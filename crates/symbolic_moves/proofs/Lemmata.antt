-- Lemmas that are found, and facts that are their hypotheses.
use Rattle.std.proofs.Common.{◌≡◌, ℕ, ◌<◌, Bool, true, false, List, [], ◌∷◌, length, map, drop, Some, None, IsTrue, ap, ◌∙◌, arith}
use Rattle.std.specs.Prelude.{find, if◌then◌else◌}
use Rattle.std.proofs.lemmas.List.{drop_more}
use Rattle.std.specs.List.{list_all}
use Rattle.std.specs.Str.{bytes_eq}
use Rattle.term_trees.proofs.Truths.{both}
use Rattle.term_trees.specs.declared.term.Formula.{Formula}
use Rattle.term_trees.specs.Formulas.{well_formed_formula}
use Rattle.notes.specs.declared.outline.Lemma.{Lemma}
use Rattle.notes.specs.WellFormed.{well_formed_assertion, well_formed_initial, well_formed_func, well_formed_lemma, well_formed_notes}
use Rattle.outline_rules.specs.Settings.{Setting, lemma_named}
use Rattle.outline_rules.specs.States.{State}
use Rattle.outline_rules.specs.Moves.{are_facts}

found-has : {A : Type 0} (p q : A → Bool) (xs : List A) (x : A) → Some x ≡ find p xs → IsTrue (list_all q xs) → IsTrue (q x)
found-has p q [] x is all = let never : Some x ≡ None = is in cc
found-has p q (y ∷ ys) x is all =
    by_test (p y) is (λ later. found-has p q ys x later (both (q y) (list_all q ys) all).1)
  where
    by_test : (b : Bool) → Some x ≡ (if b then Some y else find p ys) → (Some x ≡ find p ys → IsTrue (q x)) → IsTrue (q x)
    by_test true is rest = let same : x ≡ y = cc in ap q same ∙ (both (q y) (list_all q ys) all).0
    by_test false is rest = rest is

pub lemma-goal : (c : Setting) (name : List ℕ) (l : Lemma) → IsTrue (well_formed_notes c.notes) → Some l ≡ lemma_named c name → IsTrue (well_formed_formula l.goal)
lemma-goal c name l well is =
    let n = c.notes in
    let after_first = (both (well_formed_assertion n.invariant) _ well).1 in
    let after_second = (both (well_formed_initial n.initial) _ after_first).1 in
    let lemmas = (both (list_all well_formed_func n.funcs) _ after_second).1 in
    let here : IsTrue (well_formed_lemma l) = found-has (λ (k : Lemma). bytes_eq k.name name) well_formed_lemma n.lemmas l is lemmas in
    (both (well_formed_formula l.goal) _ (both (list_all well_formed_formula l.hyps) _ here).1).0

-- ---- facts

-- more facts than hypotheses
pub none-left : (s : State) (facts : List ℕ) (i : ℕ) (instance : Formula → Formula) (fs : List Formula) → i < length facts → length fs ≡ 0 → are_facts s (drop i facts) (map instance fs) ≡ false
none-left s facts i instance [] low is = ap (λ ks. are_facts s ks []) (drop_more facts i 0 low)
none-left s facts i instance (f ∷ fs) low is = absurd (omega (arith, is))

pub ruleset finding = (lemma-goal)
