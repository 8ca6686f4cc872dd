-- Tests of one thing after another.
use Rattle.std.proofs.Common.{◌≡◌, refl, sym, ap, ◌∙◌, ℕ, suc, ◌+◌, ◌<◌, ◌≤◌, Bool, true, false, ◌&&◌, IsTrue, List, [], ◌∷◌, ◌++◌, length, drop, get_or, flat_map, map, Option, Some, None, IfSome, Ok, Err, add-one}
use Rattle.std.specs.Prelude.{nat_le}
use Rattle.std.specs.List.{list_all}
use Rattle.std.proofs.lemmas.Bool.{le-leb, lt-leb}
use Rattle.std.proofs.lemmas.List.{drop_all}
use Rattle.wasm_values.specs.declared.limit.LimitWord.TheVariants as limit
use Rattle.term_trees.specs.declared.term.Formula.{Formula}
use Rattle.term_trees.specs.Formulas.{formula_nodes}
use Rattle.term_trees.specs.Leaves.{Leaves, replaced_formula}
use Rattle.term_trees.specs.Scopes.{formula_in_scope, given}
use Rattle.term_trees.proofs.Truths.{both}
use Rattle.bitvector_rules.specs.declared.step.Step.{Step, out-Step, fold_out-Step}
use Rattle.notes.specs.declared.reason.Reason.TheVariants as reason
use Rattle.notes.specs.declared.outline.Lemma.{Lemma}
use Rattle.outline_rules.specs.Refusals.{Ruling, Refusal, ForReason, PastLimit, wanted, limited, ◌>>=◌, ◌>>◌}
use Rattle.outline_rules.specs.Leaves.{taken_formula, step_formulas, step_formulas_here, all_formulas_taken}
use Rattle.outline_rules.specs.Moves.{derived}
use Rattle.outline_rules.specs.Tests.{lemma_variables, lemma_formulas, lemma_tested, lemmas_tested}
use Rattle.outline_setting.proofs.Walks.{drop_at}
use Rattle.notes_tests.specs.words.Passing.{all_tests, passed, step_passed, lemma_passed}
use Rattle.notes_tests.proofs.Itself.{formula_stays}

-- ---- one formula

module _ (vars : ℕ) (f : Formula) where
  abbrev own : Leaves
  own = lemma_variables vars

  abbrev tested : Bool → Bool → Ruling (Unit {0})
  tested b few = (wanted reason.Scope b >> limited limit.Nodes few >> Ok (replaced_formula own f)) >> Ok tt

  counts : passed own f ≡ tested (formula_in_scope (given own) f) (nat_le (formula_nodes f) 4096)
  counts = ap (λ g. tested (formula_in_scope (given own) f) (nat_le (formula_nodes g) 4096)) (formula_stays vars f)

  pub passed_scope : formula_in_scope (given own) f ≡ false → passed own f ≡ Err (ForReason reason.Scope)
  passed_scope is = counts ∙ ap (λ b. tested b (nat_le (formula_nodes f) 4096)) is

  pub passed_limit : formula_in_scope (given own) f ≡ true → 4096 < formula_nodes f → passed own f ≡ Err (PastLimit limit.Nodes)
  passed_limit is many = counts ∙ ap (λ b. tested b (nat_le (formula_nodes f) 4096)) is ∙ ap (tested true) (lt-leb (formula_nodes f) 4096 many)

  pub passed_on : formula_in_scope (given own) f ≡ true → formula_nodes f ≤ 4096 → passed own f ≡ Ok tt
  passed_on is few = counts ∙ ap (λ b. tested b (nat_le (formula_nodes f) 4096)) is ∙ ap (tested true) (le-leb (formula_nodes f) 4096 few)

-- ---- a walk over things that are tested

module _ {X : Type 0} (test : X → Ruling (Unit {0})) (good well : X → Bool) where
  -- what is left comes to what the whole does
  pub record Walk (xs : List X) (i : ℕ) : Type 0 where
    pub comes : all_tests test xs ≡ all_tests test (drop i xs)
    pub fine : list_all good xs ≡ list_all good (drop i xs)
    pub formed : list_all well (drop i xs) ≡ true

  module _ (xs : List X) (i : ℕ) (x : X) (within : i < length xs) (is : x ≡ get_or xs i x) (walk : Walk xs i) where
    split : drop i xs ≡ x ∷ drop (suc i) xs
    split = drop_at xs i x within is

    parts : (well x ≡ true) × (list_all well (drop (suc i) xs) ≡ true)
    parts = both (well x) (list_all well (drop (suc i) xs)) (sym (ap (list_all well) split) ∙ walk.formed)

    pub well_formed_one : IsTrue (well x)
    well_formed_one = parts.0

    pub next : (u : Unit {0}) → test x ≡ Ok u → IsTrue (good x) → Walk xs (i + 1)
    next u met kept = record {
      comes = walk.comes ∙ ap (all_tests test) split ∙ ap (λ r. r >> all_tests test (drop (suc i) xs)) met ∙ ap (λ j. all_tests test (drop j xs)) (sym (add-one i));
      fine = walk.fine ∙ ap (list_all good) split ∙ ap (λ b. b && list_all good (drop (suc i) xs)) kept ∙ ap (λ j. list_all good (drop j xs)) (sym (add-one i));
      formed = ap (λ j. list_all well (drop j xs)) (add-one i) ∙ parts.1;
    }

    pub refused_one : (e : Refusal) → test x ≡ Err e → all_tests test xs ≡ Err e
    refused_one e met = walk.comes ∙ ap (all_tests test) split ∙ ap (λ r. r >> all_tests test (drop (suc i) xs)) met

    pub refused_any : (o : Option Refusal) → IfSome o (λ e. test x ≡ Err e) → IfSome o (λ e. all_tests test xs ≡ Err e)
    refused_any None h = tt
    refused_any (Some e) h = refused_one e h

  pub walk_ends : (xs : List X) (i : ℕ) → length xs ≤ i → Walk xs i → all_tests test xs ≡ Ok tt
  walk_ends xs i past walk = walk.comes ∙ ap (all_tests test) (drop_all i xs past)

  pub walk_good : (xs : List X) (i : ℕ) → length xs ≤ i → Walk xs i → IsTrue (list_all good xs)
  walk_good xs i past walk = walk.fine ∙ ap (list_all good) (drop_all i xs past)

-- ---- lists of formulas

then_then : {A B C : Type 0} (r : Ruling A) (s : Ruling B) (t : Ruling C) → ((r >> s) >> t) ≡ (r >> (s >> t))
then_then (Ok a) s t = refl
then_then (Err e) s t = refl

tests-append : {X : Type 0} (test : X → Ruling (Unit {0})) (xs ys : List X) → all_tests test (xs ++ ys) ≡ (all_tests test xs >> all_tests test ys)
tests-append test [] ys = refl
tests-append test (x ∷ xs) ys = ap (λ r. test x >> r) (tests-append test xs ys) ∙ sym (then_then (test x) (all_tests test xs) (all_tests test ys))

tests-flat : {X Y : Type 0} (test : Y → Ruling (Unit {0})) (f : X → List Y) (xs : List X) → all_tests test (flat_map f xs) ≡ all_tests (λ x. all_tests test (f x)) xs
tests-flat test f [] = refl
tests-flat test f (x ∷ xs) = tests-append test (f x) (flat_map f xs) ∙ ap (λ r. all_tests test (f x) >> r) (tests-flat test f xs)

tests-map : {X Y : Type 0} (test : Y → Ruling (Unit {0})) (f : X → Y) (xs : List X) → all_tests test (map f xs) ≡ all_tests (λ x. test (f x)) xs
tests-map test f [] = refl
tests-map test f (x ∷ xs) = ap (λ r. test (f x) >> r) (tests-map test f xs)

tests-same : {X : Type 0} (test other : X → Ruling (Unit {0})) → ((x : X) → test x ≡ other x) → (xs : List X) → all_tests test xs ≡ all_tests other xs
tests-same test other same [] = refl
tests-same test other same (x ∷ xs) = λ j. same x j >> tests-same test other same xs j

-- a step's formulas are its own and those of its sub-derivations
module _ (l : Leaves) where
  abbrev pub sub_passed : List Step → Ruling (Unit {0})
  sub_passed sub = all_tests (step_passed l) sub

  one_sub : (sub : List Step) → all_tests (passed l) (flat_map (λ fs. fs) (map step_formulas sub)) ≡ sub_passed sub
  one_sub sub = tests-flat (passed l) (λ fs. fs) (map step_formulas sub) ∙ tests-map (λ fs. all_tests (passed l) fs) step_formulas sub

  pub step_out : (s : Step) → step_passed l s ≡ (passed l (out-Step s).formula >> all_tests sub_passed (out-Step s).subs)
  step_out s =
      ap (all_tests (passed l)) (fold_out-Step (List Formula) step_formulas_here s)
      ∙ ap (λ r. passed l (out-Step s).formula >> r)
      (tests-flat (passed l) (λ (sub : List (List Formula)). flat_map (λ fs. fs) sub) (map (map step_formulas) (out-Step s).subs)
      ∙ tests-map (λ (sub : List (List Formula)). all_tests (passed l) (flat_map (λ fs. fs) sub)) (map step_formulas) (out-Step s).subs
      ∙ tests-same (λ sub. all_tests (passed l) (flat_map (λ fs. fs) (map step_formulas sub))) sub_passed one_sub (out-Step s).subs)

  -- formulas that are taken in their order
  one_taken : {C : Type 0} (t : Ruling Formula) (rest : Ruling (List Formula)) (tests : Ruling (Unit {0})) (r : Ruling C) → (rest >> r) ≡ (tests >> r)
      → ((t >>= λ g. (rest >>= λ gs. Ok (g ∷ gs))) >> r) ≡ (((t >> Ok (tt {0})) >> tests) >> r)
  one_taken (Ok g) (Ok gs) tests r same = same
  one_taken (Ok g) (Err e) tests r same = same
  one_taken (Err e) rest tests r same = refl

  pub all_taken_is : {C : Type 0} (fs : List Formula) (r : Ruling C) → (all_formulas_taken l fs >> r) ≡ (all_tests (passed l) fs >> r)
  all_taken_is [] r = refl
  all_taken_is (f ∷ fs) r = one_taken (taken_formula l f) (all_formulas_taken l fs) (all_tests (passed l) fs) r (all_taken_is fs r)

-- a lemma's tests are those of its parts
pub lemma_parts : (k : Lemma) → lemma_tested k ≡ lemma_passed k
lemma_parts k =
    all_taken_is (lemma_variables k.vars) (lemma_formulas k) (derived k.hyps k.goal k.steps)
    ∙ ap (λ r. r >> derived k.hyps k.goal k.steps)
    (tests-append (passed (lemma_variables k.vars)) k.hyps (k.goal ∷ flat_map step_formulas k.steps)
    ∙ sym (then_then (all_tests (passed (lemma_variables k.vars)) k.hyps) (passed (lemma_variables k.vars) k.goal) (all_tests (passed (lemma_variables k.vars)) (flat_map step_formulas k.steps)))
    ∙ ap (λ r. all_tests (passed (lemma_variables k.vars)) k.hyps >> passed (lemma_variables k.vars) k.goal >> r) (tests-flat (passed (lemma_variables k.vars)) step_formulas k.steps))

-- lemmas are tested one after another
pub lemmas_are : (ks : List Lemma) → lemmas_tested ks ≡ all_tests lemma_tested ks
lemmas_are [] = refl
lemmas_are (k ∷ ks) = ap (λ r. lemma_tested k >> r) (lemmas_are ks)
