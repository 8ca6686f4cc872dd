-- What is derived from formulas that hold, holds.
use Rattle.std.proofs.Common.{◌≡◌, suc, ◌-◌, IsTrue, List, [], ◌∷◌, ◌++◌, map, length, slice_get, Some, refl, sym, ap, subst, ◌∙◌, arith}
use Rattle.std.specs.List.{All}
use Rattle.std.specs.Option.{option_map}
use Rattle.std.proofs.lemmas.Option.{same_Some}
use Rattle.std.proofs.lemmas.List.Elements.{All-cons, All-push, All-append}
use Rattle.term_trees.specs.declared.term.Formula.{Formula}
use Rattle.term_trees.specs.Meaning.{Numbers}
use Rattle.term_trees.specs.Same.{same_formula}
use Rattle.term_trees.proofs.Truths.{both}
use Rattle.bitvector_rules.specs.declared.step.Step.{Step, Step-F, out-Step, roll-Step, out-roll-Step, map-Step, ind-Step}
use Rattle.bitvector_rules.specs.Goals.{step_goals}
use Rattle.bitvector_rules.specs.Truth.{Holds, AllHold, AllMet}
use Rattle.bitvector_rules.proofs.FormLemmas.{passed, same_holds}
use Rattle.bitvector_rules.proofs.RuleLaws.{sound_step, premises_true}
use Rattle.derivation_check.specs.Derivations.{all_pass, reach, all_reach, is_instance, conclusion_of, Derives, Follows}
use Rattle.derivation_check.proofs.Steps.{instance_is}

nothing : (P : Formula → Type 0) → All P []
nothing P = λ k d h. absurd (omega arith)

no_goals : (P : Formula × Formula → Type 0) → All P []
no_goals P = λ k d h. absurd (omega arith)

-- a step that is an instance over true facts has a true conclusion
abbrev StepHolds : Step → Type 0
StepHolds s = (n : Numbers) (hyps earlier : List Formula) → IsTrue (is_instance s hyps earlier) → AllHold n hyps → AllHold n earlier → Holds n (conclusion_of s)

abbrev Sure : Type 0
Sure = (s : Step) × StepHolds s

abbrev step_of : Sure → Step
step_of e = e.0

module _ (n : Numbers) where
  -- the conclusion of each of the steps holds, so that of the last
  last_holds : (ss : List Sure) (hyps earlier : List Formula) → IsTrue (all_pass Step conclusion_of is_instance (map step_of ss) hyps earlier) → AllHold n hyps → AllHold n earlier
      → (c : Formula) → option_map conclusion_of (slice_get (map step_of ss) (length (map step_of ss) - 1)) ≡ Some c → Holds n c
  last_holds [] hyps earlier pass hs es c e = cc
  last_holds (x ∷ []) hyps earlier pass hs es c e =
      subst (Holds n) (same_Some (conclusion_of x.0) c e) (x.1 n hyps earlier (both _ _ pass).0 hs es)
  last_holds (x ∷ (y ∷ ys)) hyps earlier pass hs es c e =
      let zs : List Step = map step_of ys in
      let longer : length (x.0 ∷ (y.0 ∷ zs)) - 1 ≡ suc (length zs) = omega arith in
      let shorter : length (y.0 ∷ zs) - 1 ≡ length zs = omega arith in
      let later = ap (λ i. option_map conclusion_of (slice_get (y.0 ∷ zs) i)) shorter
      ∙ sym (ap (λ i. option_map conclusion_of (slice_get (x.0 ∷ (y.0 ∷ zs)) i)) longer) ∙ e in
      let parts = both (is_instance x.0 hyps earlier) _ pass in
      last_holds (y ∷ ys) hyps (earlier ++ conclusion_of x.0 ∷ []) parts.1 hs (All-push (Holds n) earlier (conclusion_of x.0) es (x.1 n hyps earlier parts.0 hs es)) c later

  reached_holds : (ss : List Sure) (hyps : List Formula) (goal : Formula) → IsTrue (reach Step conclusion_of is_instance hyps goal (map step_of ss)) → AllHold n hyps → Holds n goal
  reached_holds ss hyps goal reached hs =
      let parts = both (all_pass Step conclusion_of is_instance (map step_of ss) hyps []) _ reached in
      passed (option_map conclusion_of (slice_get (map step_of ss) (length (map step_of ss) - 1))) (λ f. same_formula f goal) (Holds n goal) parts.1
      (λ f is same. same_holds n f goal same (last_holds ss hyps [] parts.0 hs (nothing (Holds n)) f is))

  all_met : (facts : List Formula) (sss : List (List Sure)) (gs : List (Formula × Formula)) → IsTrue (all_reach Step conclusion_of is_instance facts (map (map step_of) sss) gs) → AllHold n facts → AllMet n gs
  all_met facts [] [] reached hs = no_goals _
  all_met facts [] (g ∷ gs) reached hs = cc
  all_met facts (ss ∷ sss) [] reached hs = cc
  all_met facts (ss ∷ sss) (g ∷ gs) reached hs =
      let parts = both (reach Step conclusion_of is_instance (facts ++ g.0 ∷ []) g.1 (map step_of ss)) _ reached in
      All-cons (λ g. Holds n g.0 → Holds n g.1) g gs (λ h. reached_holds ss (facts ++ g.0 ∷ []) g.1 parts.0 (All-push (Holds n) facts g.0 hs h)) (all_met facts sss gs parts.1 hs)

layer_holds : (y : Step-F Sure) → StepHolds (roll-Step (map-Step Sure Step step_of y))
layer_holds y n hyps earlier is hs es =
    let l : Step-F Step = map-Step Sure Step step_of y in
    let s : Step = roll-Step l in
    let subs : (out-Step s).subs ≡ map (map step_of) y.subs = ap (λ (m : Step-F Step). m.subs) (out-roll-Step l) in
    passed (step_goals hyps earlier (out-Step s)) (all_reach Step conclusion_of is_instance (hyps ++ earlier) (out-Step s).subs) (Holds n (conclusion_of s)) (sym (instance_is s hyps earlier) ∙ is)
    (λ gs goals reached. sound_step s n hyps earlier gs goals (premises_true n hyps earlier hs es (out-Step s).refs)
    (all_met n (hyps ++ earlier) y.subs gs (subst (λ subs. IsTrue (all_reach Step conclusion_of is_instance (hyps ++ earlier) subs gs)) subs reached) (All-append (Holds n) hyps earlier hs es)))

sound : (s : Step) → StepHolds s
sound = ind-Step StepHolds (λ x y is. subst (λ l. StepHolds (roll-Step l)) is (layer_holds y))

sure : (steps : List Step) → (ss : List Sure) × (map step_of ss ≡ steps)
sure [] = ([], refl)
sure (s ∷ ss) = ((s, sound s) ∷ (sure ss).0, λ j. s ∷ (sure ss).1 j)

-- what is derived from formulas that hold, holds
pub derived_holds : (hyps : List Formula) (goal : Formula) (steps : List Step) → Derives hyps goal steps → Follows hyps goal
derived_holds hyps goal steps derives n hs =
    let all = sure steps in
    reached_holds n all.0 hyps goal (subst (λ l. IsTrue (reach Step conclusion_of is_instance hyps goal l)) (sym all.1) derives) hs
