-- Steps that are taken, formula by formula in text order.
use Rattle.std.proofs.Common.{◌≡◌, ℕ, zero, suc, ◌+◌, ◌<◌, ◌≤◌, Bool, true, false, ◌&&◌, List, [], ◌∷◌, ◌++◌, length, map, flat_map, drop, get_or, Option, Some, None, IfSome, IsTrue, refl, sym, ap, subst, ◌∙◌, arith}
use Rattle.std.specs.Prelude.{Ok, Err, nat_le}
use Rattle.std.specs.List.{list_all}
use Rattle.std.proofs.lemmas.Bool.{le-leb}
use Rattle.term_trees.proofs.Truths.{both}
use Rattle.term_trees.specs.declared.term.Formula.{Formula}
use Rattle.term_trees.specs.Formulas.{well_formed_formula, formula_nodes}
use Rattle.term_trees.specs.Leaves.{Leaves, replaced_formula}
use Rattle.bitvector_rules.specs.declared.step.Step.{Step, out-Step, roll-Step, roll-out-Step, fold_out-Step}
use Rattle.bitvector_rules.specs.Steps.{is_admissible_formula, is_admissible, admissible_here}
use Rattle.wasm_values.specs.declared.limit.LimitWord.TheVariants as limit
use Rattle.notes.specs.declared.reason.Reason.TheVariants as reason
use Rattle.notes.specs.WellFormed.{well_formed_step, well_formed_step_here}
use Rattle.outline_rules.specs.Refusals.{Ruling, Refusal, wanted, limited, ◌>>=◌, ◌>>◌}
use Rattle.outline_rules.specs.Leaves.{leaves_with, formula_has_leaves, taken_formula, all_formulas_taken, step_formulas, step_formulas_here, replaced_step, replaced_step_here, steps_taken}
use Rattle.outline_rules.specs.States.{State}
use Rattle.symbolic_state.specs.States.{Tracked}
use Rattle.symbolic_state.specs.Growth.{Grown}
use Rattle.symbolic_state.proofs.Grows.{grown-same, grown-then}
use Rattle.symbolic_state.proofs.Walks.{behind, walk-start, walk-next, walk-stop, walk-end}
use Rattle.symbolic_state.specs.words.Walks.{all_by}
use Rattle.symbolic_moves.specs.words.Walks.{step_taken, subs_taken, parts_taken}

-- ---- one after another

both-taken : {A B C D : Type 0} (x : Ruling A) (y : Ruling B) (g : A → B → C) (r : Ruling D) → ((x >>= λ a. y >>= λ b. Ok (g a b)) >> r) ≡ (x >> (y >> r))
both-taken (Ok a) (Ok b) g r = refl
both-taken (Ok a) (Err e) g r = refl
both-taken (Err e) y g r = refl

one-more : {A B C : Type 0} (x : Ruling A) (y : Ruling B) (c : C) (cs : List C) → (x >> (y >> Ok (c ∷ cs))) ≡ ((x >> Ok c) >>= λ d. (y >> Ok cs) >>= λ ds. Ok (d ∷ ds))
one-more (Ok a) (Ok b) c cs = refl
one-more (Ok a) (Err e) c cs = refl
one-more (Err e) y c cs = refl

module _ (l : Leaves) where
  taken-append : {D : Type 0} (fs gs : List Formula) (r : Ruling D) → (all_formulas_taken l (fs ++ gs) >> r) ≡ (all_formulas_taken l fs >> (all_formulas_taken l gs >> r))
  taken-append [] gs r = refl
  taken-append (f ∷ fs) gs r =
      both-taken (taken_formula l f) (all_formulas_taken l (fs ++ gs)) (λ g hs. g ∷ hs) r
      ∙ ap (λ rest. taken_formula l f >> rest) (taken-append fs gs r)
      ∙ sym (both-taken (taken_formula l f) (all_formulas_taken l fs) (λ g hs. g ∷ hs) (all_formulas_taken l gs >> r))

  -- items whose formulas are taken together are taken one by one
  module _ {A B : Type 0} (formulas : A → List Formula) (made : A → B) (test : A → Ruling B) (is : (a : A) → (all_formulas_taken l (formulas a) >> Ok (made a)) ≡ test a) where
    one-by-one : (xs : List A) → (all_formulas_taken l (flat_map formulas xs) >> Ok (map made xs)) ≡ all_by test xs
    one-by-one [] = refl
    one-by-one (x ∷ xs) =
        taken-append (formulas x) (flat_map formulas xs) (Ok (map made (x ∷ xs)))
        ∙ one-more (all_formulas_taken l (formulas x)) (all_formulas_taken l (flat_map formulas xs)) (made x) (map made xs)
        ∙ λ j. is x j >>= λ d. one-by-one xs j >>= λ ds. Ok (d ∷ ds)

  steps-are : (steps : List Step) → (all_formulas_taken l (flat_map step_formulas steps) >> Ok (map (replaced_step l) steps)) ≡ all_by (step_taken l) steps
  steps-are steps = one-by-one step_formulas (replaced_step l) (step_taken l) (λ s. refl) steps

  pub steps-one-by-one : (steps : List Step) → steps_taken l steps ≡ all_by (step_taken l) steps
  steps-one-by-one steps = passed (all_formulas_taken l (flat_map step_formulas steps)) (map (replaced_step l) steps) ∙ steps-are steps
    where
      passed : {A B : Type 0} (x : Ruling A) (b : B) → (x >>= λ a. Ok b) ≡ (x >> Ok b)
      passed (Ok a) b = refl
      passed (Err e) b = refl

  subs-are : (subs : List (List Step)) → (all_formulas_taken l (flat_map (λ sub. flat_map step_formulas sub) subs) >> Ok (map (map (replaced_step l)) subs)) ≡ subs_taken l subs
  subs-are subs = one-by-one (λ sub. flat_map step_formulas sub) (map (replaced_step l)) (all_by (step_taken l)) steps-are subs

  -- ---- a step and its parts

  flat-steps : (steps : List Step) → flat_map (λ (fs : List Formula). fs) (map step_formulas steps) ≡ flat_map step_formulas steps
  flat-steps [] = refl
  flat-steps (s ∷ ss) = ap (λ fs. step_formulas s ++ fs) (flat-steps ss)

  flat-subs : (subs : List (List Step)) → flat_map (λ (sub : List (List Formula)). flat_map (λ fs. fs) sub) (map (map step_formulas) subs) ≡ flat_map (λ sub. flat_map step_formulas sub) subs
  flat-subs [] = refl
  flat-subs (s ∷ ss) = λ j. flat-steps s j ++ flat-subs ss j

  formulas-out : (s : Step) → step_formulas s ≡ (out-Step s).formula ∷ flat_map (λ sub. flat_map step_formulas sub) (out-Step s).subs
  formulas-out s = fold_out-Step (List Formula) step_formulas_here s ∙ ap (λ fs. (out-Step s).formula ∷ fs) (flat-subs (out-Step s).subs)

  replaced-out : (s : Step) → replaced_step l s ≡ roll-Step (record (out-Step s) { formula = replaced_formula l (out-Step s).formula; subs = map (map (replaced_step l)) (out-Step s).subs })
  replaced-out s = fold_out-Step Step (replaced_step_here l) s

  -- a formula that is taken is the replaced one
  taken-is : {D : Type 0} (f : Formula) (next : Formula → Ruling D) → (taken_formula l f >> next (replaced_formula l f)) ≡ (taken_formula l f >>= next)
  taken-is {D} f next = by_tests (formula_has_leaves l f) (nat_le (formula_nodes (replaced_formula l f)) 4096)
    where
      by_tests : (b c : Bool) → ((wanted reason.Scope b >> limited limit.Nodes c >> Ok (replaced_formula l f)) >> next (replaced_formula l f)) ≡ ((wanted reason.Scope b >> limited limit.Nodes c >> Ok (replaced_formula l f)) >>= next)
      by_tests true true = refl
      by_tests true false = refl
      by_tests false c = refl

  subs-then : {B C D : Type 0} (x : Ruling B) (c : C) (next : C → D) → (x >> Ok (next c)) ≡ ((x >> Ok c) >>= λ d. Ok (next d))
  subs-then (Ok a) c next = refl
  subs-then (Err e) c next = refl

  -- a step over its parts, once they are taken
  over : Step → Formula → List (List Step) → Step
  over s f subs = roll-Step (record (out-Step s) { formula = f; subs = subs })

  by-parts : (s : Step) → step_taken l s ≡ (taken_formula l (out-Step s).formula >>= λ f. subs_taken l (out-Step s).subs >>= λ subs. Ok (over s f subs))
  unfolding over
  by-parts s =
      let subs = (out-Step s).subs in
      let rest = flat_map (λ sub. flat_map step_formulas sub) subs in
      let f = (out-Step s).formula in
      (λ j. all_formulas_taken l (formulas-out s j) >> Ok (replaced-out s j))
      ∙ both-taken (taken_formula l f) (all_formulas_taken l rest) (λ g hs. g ∷ hs) (Ok (over s (replaced_formula l f) (map (map (replaced_step l)) subs)))
      ∙ taken-is f (λ g. all_formulas_taken l rest >> Ok (over s g (map (map (replaced_step l)) subs)))
      ∙ (λ j. taken_formula l f >>= λ g. (subs-then (all_formulas_taken l rest) (map (map (replaced_step l)) subs) (over s g) ∙ ap (λ r. r >>= λ ss. Ok (over s g ss)) (subs-are subs)) j)

  abbrev pair : {A B : Type 0} → A → B → Ruling (A × B)
  pair a b = Ok (a, b)

  paired : {A B C : Type 0} (x : Ruling A) (y : Ruling B) (g : A → B → C) → (x >>= λ a. y >>= λ b. Ok (g a b)) ≡ ((x >>= λ a. y >>= λ b. pair a b) >>= λ p. Ok (g p.0 p.1))
  paired (Ok a) (Ok b) g = refl
  paired (Ok a) (Err d) g = refl
  paired (Err d) y g = refl

  from-parts : (s : Step) → step_taken l s ≡ (parts_taken l s >>= λ p. Ok (over s p.0 p.1))
  from-parts s = by-parts s ∙ paired (taken_formula l (out-Step s).formula) (subs_taken l (out-Step s).subs) (over s)

  pub step-gives : (s t : Step) (f : Formula) (subs : List (List Step)) → parts_taken l s ≡ Ok (f, subs) → out-Step t ≡ record (out-Step s) { formula = f; subs = subs } → step_taken l s ≡ Ok t
  unfolding over
  step-gives s t f subs gives is =
      from-parts s ∙ ap (λ r. r >>= λ p. Ok (over s p.0 p.1)) gives
      ∙ ap (λ u. Ok u) (ap roll-Step (sym is) ∙ roll-out-Step t)

  pub step-fails : (s : Step) (e : Refusal) → parts_taken l s ≡ Err e → step_taken l s ≡ Err e
  step-fails s e fails = from-parts s ∙ ap (λ r. r >>= λ p. Ok (over s p.0 p.1)) fails

  pub step-fail : (s : Step) (o : Option Refusal) → IfSome o (λ e. parts_taken l s ≡ Err e) → IfSome o (λ e. step_taken l s ≡ Err e)
  step-fail s None fails = tt
  step-fail s (Some e) fails = step-fails s e fails

-- ---- what a step asks of its parts

bools : {A : Type 0} (p : A → Bool) (xs : List A) → list_all (λ b. b) (map p xs) ≡ list_all p xs
bools p [] = refl
bools p (x ∷ xs) = ap (λ b. p x && b) (bools p xs)

all-bools : {A : Type 0} (p : A → Bool) (xss : List (List A)) → list_all (λ sub. list_all (λ b. b) sub) (map (map p) xss) ≡ list_all (list_all p) xss
all-bools p [] = refl
all-bools p (xs ∷ xss) = λ j. bools p xs j && all-bools p xss j

well-formed-out : (s : Step) → well_formed_step s ≡ (well_formed_formula (out-Step s).formula && list_all (list_all well_formed_step) (out-Step s).subs)
well-formed-out s = fold_out-Step Bool well_formed_step_here s ∙ ap (λ b. well_formed_formula (out-Step s).formula && b) (all-bools well_formed_step (out-Step s).subs)

pub formula-well-formed : (s : Step) → IsTrue (well_formed_step s) → IsTrue (well_formed_formula (out-Step s).formula)
formula-well-formed s h = (both _ _ (sym (well-formed-out s) ∙ h)).0

pub subs-well-formed : (s : Step) → IsTrue (well_formed_step s) → IsTrue (list_all (list_all well_formed_step) (out-Step s).subs)
subs-well-formed s h = (both (well_formed_formula (out-Step s).formula) _ (sym (well-formed-out s) ∙ h)).1

admissible-out : (s : Step) → is_admissible s ≡ (is_admissible_formula (out-Step s).formula && list_all (list_all is_admissible) (out-Step s).subs)
admissible-out s = fold_out-Step Bool admissible_here s ∙ ap (λ b. is_admissible_formula (out-Step s).formula && b) (all-bools is_admissible (out-Step s).subs)

pub step-admissible : (s : Step) → IsTrue (is_admissible_formula (out-Step s).formula) → IsTrue (list_all (list_all is_admissible) (out-Step s).subs) → IsTrue (is_admissible s)
step-admissible s first rest = admissible-out s ∙ (λ j. first j && rest j)

-- a step over admissible parts
pub parts-admissible : (s t : Step) (f : Formula) (subs : List (List Step)) → out-Step t ≡ record (out-Step s) { formula = f; subs = subs } → IsTrue (is_admissible_formula f) → IsTrue (list_all (list_all is_admissible) subs) → IsTrue (is_admissible t)
parts-admissible s t f subs is first rest =
    step-admissible t (subst (λ x. IsTrue (is_admissible_formula x.formula)) (sym is) first) (subst (λ x. IsTrue (list_all (list_all is_admissible) x.subs)) (sym is) rest)

-- a formula that is well formed and small may stand in a step
pub formula-admissible : (f g : Formula) → g ≡ f → formula_nodes f ≤ 4096 → IsTrue (well_formed_formula g) → IsTrue (is_admissible_formula g)
formula-admissible f g is small well =
    let low : formula_nodes g ≤ 4096 = subst (λ h. formula_nodes h ≤ 4096) (sym is) small in
    λ j. le-leb (formula_nodes g) 4096 low j && well j

pub ruleset admissions = (formula-admissible)

pub ruleset in_text_order = (steps-one-by-one)

-- ---- what a loop over steps or sub-derivations keeps

all-push : {B : Type 0} (p : B → Bool) (ys : List B) (y : B) → IsTrue (list_all p ys) → IsTrue (p y) → IsTrue (list_all p (ys ++ y ∷ []))
all-push p [] y all here = λ j. here j && true
all-push p (x ∷ xs) y all here = let parts = both (p x) (list_all p xs) all in λ j. parts.0 j && all-push p xs y parts.1 here j

pub all-at : {A : Type 0} (p : A → Bool) (xs : List A) (i : ℕ) (x : A) → i < length xs → x ≡ get_or xs i x → IsTrue (list_all p xs) → IsTrue (p x)
all-at p [] i x low at all = absurd (omega arith)
all-at p (y ∷ ys) zero x low at all = ap p at ∙ (both (p y) (list_all p ys) all).0
all-at p (y ∷ ys) (suc i) x low at all = all-at p ys i x (omega arith) at (both (p y) (list_all p ys) all).1

-- what is taken of the first items, over a state that only its table has grown of
pub record Taking {A B : Type 0} (test : State → A → Ruling B) (fit : B → Bool) (old new : Tracked) (xs : List A) (i : ℕ) (done : List B) : Type 0 where
  pub whole : all_by (test old.state) xs ≡ behind done (all_by (test old.state) (drop i xs))
  pub good : IsTrue (list_all fit done)
  pub state : new.state ≡ old.state
  pub grown : Grown old new

module _ {A B : Type 0} (test : State → A → Ruling B) (fit : B → Bool) where
  pub taking-start : (old : Tracked) (xs : List A) → Taking test fit old old xs 0 []
  taking-start old xs = record { whole = walk-start (test old.state) xs; good = refl; state = refl; grown = grown-same old }

  module _ (old mid : Tracked) (xs : List A) (i : ℕ) (done : List B) (so_far : Taking test fit old mid xs i done) where
    pub taking-end : length xs ≤ i → all_by (test old.state) xs ≡ Ok done
    taking-end high = walk-end (test old.state) (all_by (test old.state) xs) done xs i high so_far.whole

    module _ (x : A) (low : i < length xs) (at : x ≡ get_or xs i x) where
      pub taking-next : (new : Tracked) (y : B) → test mid.state x ≡ Ok y → IsTrue (fit y) → new.state ≡ mid.state → Grown mid new → Taking test fit old new xs (i + 1) (done ++ y ∷ [])
      taking-next new y gives fits same more = record {
        whole = walk-next (test old.state) (all_by (test old.state) xs) done xs i x low at so_far.whole y (ap (λ s. test s x) (sym so_far.state) ∙ gives);
        good = all-push fit done y so_far.good fits;
        state = same ∙ so_far.state;
        grown = grown-then old mid new so_far.grown more;
      }

      pub taking-stop : (o : Option Refusal) → IfSome o (λ e. test mid.state x ≡ Err e) → IfSome o (λ e. all_by (test old.state) xs ≡ Err e)
      taking-stop None fails = tt
      taking-stop (Some e) fails = walk-stop (test old.state) (all_by (test old.state) xs) done xs i x low at so_far.whole e (ap (λ s. test s x) (sym so_far.state) ∙ fails)

pub ruleset by_parts = (step-gives, parts-admissible)

pub ruleset taking = (taking-start, taking-end)

-- a formula that is taken, and then sub-derivations, over a state that is the same
module _ (v : ℕ) (old mid : State) (s : Step) (f : Formula) (xs : List (List Step)) (first : taken_formula (leaves_with v old) (out-Step s).formula ≡ Ok f) (same : mid ≡ old) (at : xs ≡ (out-Step s).subs) where
  second : parts_taken (leaves_with v old) s ≡ (subs_taken (leaves_with v mid) xs >>= λ ss. pair (leaves_with v old) f ss)
  second =
      ap (λ r. r >>= λ g. subs_taken (leaves_with v old) (out-Step s).subs >>= λ ss. pair (leaves_with v old) g ss) first
      ∙ (λ j. subs_taken (leaves_with v (sym same j)) (sym at j) >>= λ ss. pair (leaves_with v old) f ss)

  pub parts-give : (ss : List (List Step)) → subs_taken (leaves_with v mid) xs ≡ Ok ss → parts_taken (leaves_with v old) s ≡ Ok (f, ss)
  parts-give ss gives = second ∙ ap (λ r. r >>= λ ss. pair (leaves_with v old) f ss) gives

  pub parts-fail : (o : Option Refusal) → IfSome o (λ e. subs_taken (leaves_with v mid) xs ≡ Err e) → IfSome o (λ e. parts_taken (leaves_with v old) s ≡ Err e)
  parts-fail None fails = tt
  parts-fail (Some e) fails = second ∙ ap (λ r. r >>= λ ss. pair (leaves_with v old) f ss) fails
