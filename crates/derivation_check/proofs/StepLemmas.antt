-- What the parts of a check show.
use Rattle.std.proofs.Common.{◌≡◌, ◌≤◌, ℕ, zero, suc, ◌+◌, ◌-◌, ◌<◌, get_or, Bool, true, false, ◌&&◌, if◌then◌else◌, IsTrue, List, [], ◌∷◌, ◌++◌, map, length, take, slice_get, Option, Some, None, Result, Ok, Err, IfOk, refl, sym, ap, subst, ◌∙◌, arith, length-append}
use Rattle.std.specs.List.{list_all}
use Rattle.std.specs.Option.{option_map}
use Rattle.std.proofs.lemmas.List.{take-take}
use Rattle.std.proofs.Math.Seq.{take-append_seam}
use Rattle.term_trees.specs.declared.term.Term.{Term}
use Rattle.term_trees.specs.declared.term.Formula.{Formula}
use Rattle.term_logic.specs.Formulas.{formula_bound, formula_of}
use Rattle.term_logic.specs.Extends.{Extends}
use Rattle.derivation_check.specs.words.Facts.{hyps_at, earlier_at, facts_at}
use Rattle.derivation_check.proofs.FactLemmas.{assumed_hyps, assumed_earlier}
use Rattle.term_logic.specs.declared.formula.IdFormula.{IdFormula}
use Rattle.term_trees.specs.Same.{passes, same_formula}
use Rattle.term_trees.proofs.Truths.{both}
use Rattle.bitvector_rules.specs.declared.step.Step.{Step, out-Step, fold_out-Step}
use Rattle.bitvector_rules.specs.Goals.{step_goals}
use Rattle.bitvector_rules.specs.Steps.{is_admissible_formula, admissible_here, is_admissible, all_admissible}
use Rattle.derivation_check.specs.Derivations.{all_pass, all_reach, is_instance, conclusion_of, derives, good_steps, checked}
use Rattle.derivation_check.specs.declared.check.Checked.TheVariants.{Yes, BadStep}
use Rattle.derivation_check.proofs.Steps.{instance_is}

-- ---- good steps

abbrev pass : List Step → List Formula → List Formula → Bool
pass steps hyps earlier = all_pass Step conclusion_of is_instance steps hyps earlier

all_good : (steps : List Step) (hyps earlier : List Formula) → good_steps hyps earlier steps ≡ length steps → pass steps hyps earlier ≡ true
all_good [] hyps earlier e = refl
all_good (s ∷ ss) hyps earlier e = by (is_instance s hyps earlier) refl (all_good ss hyps (earlier ++ conclusion_of s ∷ []))
  where
    by : (b : Bool) → is_instance s hyps earlier ≡ b → (good_steps hyps (earlier ++ conclusion_of s ∷ []) ss ≡ length ss → pass ss hyps (earlier ++ conclusion_of s ∷ []) ≡ true)
        → (is_instance s hyps earlier && pass ss hyps (earlier ++ conclusion_of s ∷ [])) ≡ true
    by true is later =
        let counted : suc (good_steps hyps (earlier ++ conclusion_of s ∷ []) ss) ≡ suc (length ss) = sym (ap (λ b. if b then suc (good_steps hyps (earlier ++ conclusion_of s ∷ []) ss) else 0) is) ∙ e in
        ap (λ b. b && pass ss hyps (earlier ++ conclusion_of s ∷ [])) is ∙ later (omega arith)
    by false is later =
        let counted : 0 ≡ suc (length ss) = sym (ap (λ b. if b then suc (good_steps hyps (earlier ++ conclusion_of s ∷ []) ss) else 0) is) ∙ e in
        absurd (omega arith)

all_passed : (steps : List Step) (hyps earlier : List Formula) → pass steps hyps earlier ≡ true → good_steps hyps earlier steps ≡ length steps
all_passed [] hyps earlier e = refl
all_passed (s ∷ ss) hyps earlier e =
    let parts = both (is_instance s hyps earlier) _ e in
    ap (λ b. if b then suc (good_steps hyps (earlier ++ conclusion_of s ∷ []) ss) else 0) parts.0 ∙ ap suc (all_passed ss hyps (earlier ++ conclusion_of s ∷ []) parts.1)

module _ (hyps : List Formula) (goal : Formula) (steps : List Step) (good : ℕ) (counts : good ≡ good_steps hyps [] steps) where
  abbrev ends : Bool
  ends = passes (option_map conclusion_of (slice_get steps (length steps - 1))) (λ f. same_formula f goal)

  pub derives_then : good ≡ length steps → ends ≡ derives hyps goal steps
  derives_then e = sym (ap (λ b. b && ends) (all_good steps hyps [] (sym counts ∙ e)))

  pub derives_else : (good ≡ length steps → ⊥) → false ≡ derives hyps goal steps
  derives_else other = by (pass steps hyps []) refl
    where
      by : (b : Bool) → pass steps hyps [] ≡ b → false ≡ (pass steps hyps [] && ends)
      by true is = absurd (other (counts ∙ all_passed steps hyps [] is))
      by false is = sym (ap (λ b. b && ends) is)

  checked_yes : derives hyps goal steps ≡ true → Yes ≡ checked hyps goal steps
  checked_yes is = sym (ap (λ b. if b then Yes else BadStep (good_steps hyps [] steps)) is)

  checked_bad : derives hyps goal steps ≡ false → BadStep good ≡ checked hyps goal steps
  checked_bad is = ap BadStep counts ∙ sym (ap (λ b. if b then Yes else BadStep (good_steps hyps [] steps)) is)

  pub answer_yes : good ≡ length steps → true ≡ ends → Yes ≡ checked hyps goal steps
  answer_yes e is = checked_yes (sym (is ∙ derives_then e))

  pub answer_ends : good ≡ length steps → false ≡ ends → BadStep good ≡ checked hyps goal steps
  answer_ends e is = checked_bad (sym (is ∙ derives_then e))

  pub answer_bad : (good ≡ length steps → ⊥) → BadStep good ≡ checked hyps goal steps
  answer_bad other = checked_bad (sym (derives_else other))

-- ---- goals

abbrev pub reached : List Formula → List (List Step) → List (Formula × Formula) → Bool
reached facts subs goals = all_reach Step conclusion_of is_instance facts subs goals

module _ (facts : List Formula) (s : List Step) (ss subs : List (List Step)) (g : Formula × Formula) (gs goals : List (Formula × Formula)) (split : subs ≡ s ∷ ss) (parts : goals ≡ g ∷ gs) where
  opened : reached facts subs goals ≡ (derives (facts ++ g.0 ∷ []) g.1 s && reached facts ss gs)
  opened = λ j. reached facts (split j) (parts j)

  pub goal_fails : false ≡ derives (facts ++ g.0 ∷ []) g.1 s → false ≡ reached facts subs goals
  goal_fails e = ap (λ b. b && reached facts ss gs) e ∙ sym opened

  pub goal_met : true ≡ derives (facts ++ g.0 ∷ []) g.1 s → reached facts ss gs ≡ reached facts subs goals
  goal_met e = ap (λ b. b && reached facts ss gs) e ∙ sym opened

-- ---- instances

module _ (s : Step) (hyps earlier facts : List Formula) (all : hyps ++ earlier ≡ facts) where
  pub instance_some : (gs : List (Formula × Formula)) → Some gs ≡ step_goals hyps earlier (out-Step s) → reached facts (out-Step s).subs gs ≡ is_instance s hyps earlier
  instance_some gs is =
      (λ j. passes (is j) (all_reach Step conclusion_of is_instance facts (out-Step s).subs))
      ∙ (λ j. passes (step_goals hyps earlier (out-Step s)) (all_reach Step conclusion_of is_instance (sym all j) (out-Step s).subs))
      ∙ sym (instance_is s hyps earlier)

pub instance_none : (s : Step) (hyps earlier : List Formula) → None ≡ step_goals hyps earlier (out-Step s) → false ≡ is_instance s hyps earlier
instance_none s hyps earlier is =
    (λ j. passes (is j) (all_reach Step conclusion_of is_instance (hyps ++ earlier) (out-Step s).subs)) ∙ sym (instance_is s hyps earlier)

-- ---- formulas of steps

bools : (steps : List Step) → list_all (λ b. b) (map is_admissible steps) ≡ all_admissible steps
bools [] = refl
bools (s ∷ ss) = ap (λ b. is_admissible s && b) (bools ss)

all_bools : (subs : List (List Step)) → list_all (λ sub. list_all (λ b. b) sub) (map (map is_admissible) subs) ≡ list_all all_admissible subs
all_bools [] = refl
all_bools (s ∷ ss) = λ j. bools s j && all_bools ss j

admissible_out : (s : Step) → is_admissible s ≡ (is_admissible_formula (conclusion_of s) && list_all all_admissible (out-Step s).subs)
admissible_out s = fold_out-Step Bool admissible_here s ∙ ap (λ b. is_admissible_formula (conclusion_of s) && b) (all_bools (out-Step s).subs)

pub formula_admissible : (s : Step) → IsTrue (is_admissible s) → IsTrue (is_admissible_formula (conclusion_of s))
formula_admissible s h = (both _ _ (sym (admissible_out s) ∙ h)).0

pub subs_admissible : (s : Step) → IsTrue (is_admissible s) → IsTrue (list_all all_admissible (out-Step s).subs)
subs_admissible s h = (both (is_admissible_formula (conclusion_of s)) _ (sym (admissible_out s) ∙ h)).1

pub step_admissible : (steps : List Step) (i : ℕ) (s : Step) → i < length steps → s ≡ get_or steps i s → IsTrue (all_admissible steps) → IsTrue (is_admissible s)
step_admissible [] i s low e h = absurd (omega arith)
step_admissible (x ∷ xs) zero s low e h = subst (λ s. IsTrue (is_admissible s)) (sym e) (both (is_admissible x) _ h).0
step_admissible (x ∷ xs) (suc i) s low e h = step_admissible xs i s (omega arith) e (both (is_admissible x) _ h).1

pub subs_tail : (s : List Step) (ss : List (List Step)) → IsTrue (list_all all_admissible (s ∷ ss)) → IsTrue (list_all all_admissible ss)
subs_tail s ss h = (both (all_admissible s) _ h).1

-- ---- results

pub ok_then : {A E : Type 0} {P Q : A → Type 0} (r : Result A E) → IfOk r P → ((v : A) → P v → Q v) → IfOk r Q
ok_then (Ok v) p so = so v p
ok_then (Err e) p so = tt

pub no_goals : {A B : Type 0} (f : A → B) (o : Option A) → ((x : A) → o ≡ Some x → ⊥) → None ≡ option_map f o
no_goals f None h = refl
no_goals f (Some x) h = absurd (h x refl)

-- ---- facts that are cut off again

pub trimmed : (old new : List IdFormula) (x : IdFormula) (n : ℕ) → n ≡ length old → take (length (old ++ x ∷ [])) new ≡ old ++ x ∷ [] → take n new ≡ old
trimmed old new x n is kept =
    let more : length (old ++ x ∷ []) ≡ length old + 1 = length-append old (x ∷ []) in
    sym (take-take n (length (old ++ x ∷ [])) new (omega arith)) ∙ ap (take n) kept ∙ ap (λ k. take k (old ++ x ∷ [])) is ∙ take-append_seam old (x ∷ [])

-- ---- a goal under its assumption

module _ (ts us : List Term) (grown : Extends ts us) (hyps added pushed : List IdFormula) (a g : IdFormula) (low : formula_bound g ≤ length ts) (base good : ℕ) (steps : List Step)
    (push : pushed ≡ added ++ a ∷ []) (is : base ≡ length pushed) (counts : good ≡ good_steps (hyps_at ts hyps pushed base) (earlier_at ts pushed base) steps) where
  abbrev under : List Formula
  under = facts_at ts hyps added ++ formula_of ts a ∷ []

  counted : good ≡ good_steps under [] steps
  counted =
      counts
      ∙ ap (λ xs. good_steps (hyps_at ts hyps xs base) (earlier_at ts xs base) steps) push
      ∙ (λ j. good_steps (assumed_hyps ts hyps added a base (is ∙ ap length push) j) (assumed_earlier ts hyps added a base (is ∙ ap length push) j) steps)

  pub goal_then : (b : Bool) → good ≡ length steps → b ≡ passes (option_map conclusion_of (slice_get steps (length steps - 1))) (λ f. same_formula f (formula_of us g)) → b ≡ derives under (formula_of ts g) steps
  goal_then b e ends =
      ends ∙ ap (λ f. passes (option_map conclusion_of (slice_get steps (length steps - 1))) (λ h. same_formula h f)) (grown.formula g low) ∙ derives_then under (formula_of ts g) steps good counted e

  pub goal_else : (b : Bool) → b ≡ false → (good ≡ length steps → ⊥) → b ≡ derives under (formula_of ts g) steps
  goal_else b fails other = fails ∙ derives_else under (formula_of ts g) steps good counted other
