-- What the recursion over a step unfolds to.
use Rattle.std.proofs.Common.{◌≡◌, ℕ, zero, suc, ◌-◌, Bool, ◌&&◌, List, [], ◌∷◌, ◌++◌, map, length, slice_get, refl, ap, ◌∙◌}
use Rattle.std.proofs.lemmas.List.{length-map}
use Rattle.std.specs.Option.{option_map}
use Rattle.term_trees.specs.declared.term.Formula.{Formula}
use Rattle.term_trees.specs.Same.{passes, same_formula}
use Rattle.bitvector_rules.specs.declared.step.Step.{Step, out-Step, map-Step, fold_out-Step}
use Rattle.bitvector_rules.specs.Goals.{step_goals}
use Rattle.derivation_check.specs.Derivations.{all_pass, reach, all_reach, Tested, instance_here, tested, is_instance, conclusion_of}

module _ (X Y : Type 0) (c : X → Formula) (k : X → List Formula → List Formula → Bool) (v : Y → X) where
  pass_map : (ys : List Y) (hyps earlier : List Formula) → all_pass X c k (map v ys) hyps earlier ≡ all_pass Y (λ y. c (v y)) (λ y. k (v y)) ys hyps earlier
  pass_map [] hyps earlier = refl
  pass_map (y ∷ ys) hyps earlier = λ j. k (v y) hyps earlier && pass_map ys hyps (earlier ++ c (v y) ∷ []) j

  at_map : (ys : List Y) (i : ℕ) → option_map c (slice_get (map v ys) i) ≡ option_map (λ y. c (v y)) (slice_get ys i)
  at_map [] i = refl
  at_map (y ∷ ys) zero = refl
  at_map (y ∷ ys) (suc i) = at_map ys i

  last_map : (ys : List Y) → option_map c (slice_get (map v ys) (length (map v ys) - 1)) ≡ option_map (λ y. c (v y)) (slice_get ys (length ys - 1))
  last_map ys = ap (λ n. option_map c (slice_get (map v ys) (n - 1))) (length-map ys v) ∙ at_map ys (length ys - 1)

  reach_map : (ys : List Y) (hyps : List Formula) (goal : Formula) → reach X c k hyps goal (map v ys) ≡ reach Y (λ y. c (v y)) (λ y. k (v y)) hyps goal ys
  reach_map ys hyps goal = λ j. pass_map ys hyps [] j && passes (last_map ys j) (λ f. same_formula f goal)

  all_map : (facts : List Formula) (yss : List (List Y)) (gs : List (Formula × Formula)) → all_reach X c k facts (map (map v) yss) gs ≡ all_reach Y (λ y. c (v y)) (λ y. k (v y)) facts yss gs
  all_map facts [] [] = refl
  all_map facts [] (g ∷ gs) = refl
  all_map facts (ys ∷ yss) [] = refl
  all_map facts (ys ∷ yss) (g ∷ gs) = λ j. reach_map ys (facts ++ g.0 ∷ []) g.1 j && all_map facts yss gs j

tested_out : (s : Step) → tested s ≡ ((map-Step Step Tested tested (out-Step s)).formula, instance_here (map-Step Step Tested tested (out-Step s)))
unfolding tested
tested_out s = fold_out-Step Tested (λ l. (l.formula, instance_here l)) s

same_conclusion : (s : Step) → (tested s).0 ≡ conclusion_of s
same_conclusion s = ap (λ (t : Tested). t.0) (tested_out s)

-- a step is an instance exactly where its rule and its sub-derivations say so
pub instance_is : (s : Step) (hyps earlier : List Formula)
    → is_instance s hyps earlier ≡ passes (step_goals hyps earlier (out-Step s)) (all_reach Step conclusion_of is_instance (hyps ++ earlier) (out-Step s).subs)
instance_is s hyps earlier =
    ap (λ (t : Tested). t.1 hyps earlier) (tested_out s)
    ∙ (λ j. passes (step_goals hyps earlier (out-Step s)) (λ gs. all_map Tested Step (λ t. t.0) (λ t. t.1) tested (hyps ++ earlier) (out-Step s).subs gs j))
    ∙ (λ j. passes (step_goals hyps earlier (out-Step s)) (all_reach Step (λ s. same_conclusion s j) is_instance (hyps ++ earlier) (out-Step s).subs))
