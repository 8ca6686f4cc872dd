-- The formulas of a step are its own and those of its sub-derivations.
use Rattle.std.proofs.Common.{◌≡◌, Bool, ◌&&◌, IsTrue, List, [], ◌∷◌, map, refl, ap, ◌∙◌}
use Rattle.std.specs.List.{list_all}
use Rattle.term_trees.proofs.Truths.{and_true}
use Rattle.bitvector_rules.specs.declared.step.Step.{Step, out-Step, fold_out-Step}
use Rattle.bitvector_rules.specs.Steps.{is_admissible_formula, admissible_here, is_admissible, all_admissible}

bools : (steps : List Step) → list_all (λ b. b) (map is_admissible steps) ≡ all_admissible steps
bools [] = refl
bools (s ∷ ss) = ap (λ b. is_admissible s && b) (bools ss)

all_bools : (subs : List (List Step)) → list_all (λ sub. list_all (λ b. b) sub) (map (map is_admissible) subs) ≡ list_all all_admissible subs
all_bools [] = refl
all_bools (s ∷ ss) = λ j. bools s j && all_bools ss j

pub step_admissible : (s : Step) → IsTrue (is_admissible_formula (out-Step s).formula) → IsTrue (list_all all_admissible (out-Step s).subs) → IsTrue (is_admissible s)
step_admissible s own others =
    fold_out-Step Bool admissible_here s ∙ ap (λ b. is_admissible_formula (out-Step s).formula && b) (all_bools (out-Step s).subs)
    ∙ and_true (is_admissible_formula (out-Step s).formula) (list_all all_admissible (out-Step s).subs) own others
