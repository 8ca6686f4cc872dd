-- Instances and their shape.
use Rattle.std.proofs.Common.{◌≡◌, IsTrue, List, [], ◌∷◌, ◌++◌, refl, sym, ap, subst, ◌∙◌}
use Rattle.term_trees.specs.declared.term.Formula.{Formula}
use Rattle.term_trees.specs.Same.{passes, same_formula}
use Rattle.term_trees.proofs.Truths.{both, and_true}
use Rattle.bitvector_rules.specs.declared.step.Step.{Step, out-Step}
use Rattle.bitvector_rules.specs.Goals.{step_goals, last_formula, ends_match, has_shape}
use Rattle.bitvector_rules.proofs.FormLemmas.{passed}
use Rattle.derivation_check.specs.Derivations.{all_pass, reach, all_reach, is_instance, conclusion_of}
use Rattle.derivation_check.proofs.Steps.{instance_is}

-- what reaches its goals ends with them
ends : (facts : List Formula) (subs : List (List Step)) (gs : List (Formula × Formula)) → IsTrue (all_reach Step conclusion_of is_instance facts subs gs) → IsTrue (ends_match subs gs)
ends facts [] [] h = refl
ends facts [] (g ∷ gs) h = cc
ends facts (s ∷ ss) [] h = cc
ends facts (s ∷ ss) (g ∷ gs) h =
    let parts = both (reach Step conclusion_of is_instance (facts ++ g.0 ∷ []) g.1 s) _ h in
    let last = both (all_pass Step conclusion_of is_instance s (facts ++ g.0 ∷ []) []) _ parts.0 in
    and_true (passes (last_formula s) (λ f. same_formula f g.1)) (ends_match ss gs) last.1 (ends facts ss gs parts.1)

shape_out : (hyps earlier : List Formula) (s : Step) → has_shape hyps earlier s ≡ passes (step_goals hyps earlier (out-Step s)) (λ goals. ends_match (out-Step s).subs goals)
unfolding has_shape
shape_out hyps earlier s = refl

pub shape_of : (hyps earlier : List Formula) (s : Step) → IsTrue (is_instance s hyps earlier) → IsTrue (has_shape hyps earlier s)
shape_of hyps earlier s h =
    passed (step_goals hyps earlier (out-Step s)) (all_reach Step conclusion_of is_instance (hyps ++ earlier) (out-Step s).subs) (IsTrue (has_shape hyps earlier s)) (sym (instance_is s hyps earlier) ∙ h)
    (λ gs is reached. shape_out hyps earlier s ∙ ap (λ o. passes o (λ goals. ends_match (out-Step s).subs goals)) is ∙ ends (hyps ++ earlier) (out-Step s).subs gs reached)

-- no sub-derivations end as wanted only where none are wanted, and so they reach what is wanted
none_reach : (facts : List Formula) (gs : List (Formula × Formula)) → IsTrue (ends_match [] gs) → IsTrue (all_reach Step conclusion_of is_instance facts [] gs)
none_reach facts [] h = refl
none_reach facts (g ∷ gs) h = cc

pub alone_is : (hyps earlier : List Formula) (s : Step) → (out-Step s).subs ≡ [] → IsTrue (has_shape hyps earlier s) → IsTrue (is_instance s hyps earlier)
alone_is hyps earlier s none h =
    passed (step_goals hyps earlier (out-Step s)) (λ goals. ends_match (out-Step s).subs goals) (IsTrue (is_instance s hyps earlier)) (sym (shape_out hyps earlier s) ∙ h)
    (λ gs is match.
    instance_is s hyps earlier
    ∙ ap (λ o. passes o (all_reach Step conclusion_of is_instance (hyps ++ earlier) (out-Step s).subs)) is
    ∙ ap (λ subs. all_reach Step conclusion_of is_instance (hyps ++ earlier) subs gs) none
    ∙ none_reach (hyps ++ earlier) gs (subst (λ subs. IsTrue (ends_match subs gs)) none match))
