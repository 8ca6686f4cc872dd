-- The parts of a step.
use Rattle.std.proofs.Common.{◌≡◌, refl, sym, ap, ◌∙◌, Bool, ◌&&◌, IsTrue, List, [], ◌∷◌, map, Ok, Err}
use Rattle.std.specs.List.{list_all}
use Rattle.term_trees.specs.Formulas.{well_formed_formula}
use Rattle.term_trees.specs.Leaves.{Leaves}
use Rattle.term_trees.proofs.Truths.{both}
use Rattle.bitvector_rules.specs.declared.step.Step.{Step, out-Step, fold_out-Step}
use Rattle.bitvector_rules.specs.Steps.{is_admissible_formula, admissible_here, is_admissible, all_admissible}
use Rattle.notes.specs.WellFormed.{well_formed_step_here, well_formed_step}
use Rattle.outline_rules.specs.Refusals.{Ruling, Refusal, ◌>>◌}
use Rattle.notes_tests.specs.words.Passing.{all_tests, passed, step_passed}
use Rattle.notes_tests.proofs.Passings.{step_out, sub_passed}

bools : {X : Type 0} (p : X → Bool) (xs : List X) → list_all (λ b. b) (map p xs) ≡ list_all p xs
bools p [] = refl
bools p (x ∷ xs) = ap (λ b. p x && b) (bools p xs)

all_bools : {X : Type 0} (p : X → Bool) (subs : List (List X)) → list_all (λ sub. list_all (λ b. b) sub) (map (map p) subs) ≡ list_all (list_all p) subs
all_bools p [] = refl
all_bools p (s ∷ ss) = λ j. bools p s j && all_bools p ss j

module _ (s : Step) where
  well_out : well_formed_step s ≡ (well_formed_formula (out-Step s).formula && list_all (list_all well_formed_step) (out-Step s).subs)
  well_out = fold_out-Step Bool well_formed_step_here s ∙ ap (λ b. well_formed_formula (out-Step s).formula && b) (all_bools well_formed_step (out-Step s).subs)

  admissible_out : is_admissible s ≡ (is_admissible_formula (out-Step s).formula && list_all all_admissible (out-Step s).subs)
  admissible_out = fold_out-Step Bool admissible_here s ∙ ap (λ b. is_admissible_formula (out-Step s).formula && b) (all_bools is_admissible (out-Step s).subs)

  pub formula_well : IsTrue (well_formed_step s) → IsTrue (well_formed_formula (out-Step s).formula)
  formula_well h = (both (well_formed_formula (out-Step s).formula) (list_all (list_all well_formed_step) (out-Step s).subs) (sym well_out ∙ h)).0

  pub subs_well : IsTrue (well_formed_step s) → IsTrue (list_all (list_all well_formed_step) (out-Step s).subs)
  subs_well h = (both (well_formed_formula (out-Step s).formula) (list_all (list_all well_formed_step) (out-Step s).subs) (sym well_out ∙ h)).1

  pub step_good : IsTrue (is_admissible_formula (out-Step s).formula) → IsTrue (list_all all_admissible (out-Step s).subs) → IsTrue (is_admissible s)
  step_good a b = admissible_out ∙ (λ j. a j && b j)

  module _ (l : Leaves) where
    pub step_on : (u : Unit {0}) (r : Ruling (Unit {0})) → passed l (out-Step s).formula ≡ Ok u → all_tests (sub_passed l) (out-Step s).subs ≡ r → step_passed l s ≡ r
    step_on u r met rest = step_out l s ∙ ap (λ q. q >> all_tests (sub_passed l) (out-Step s).subs) met ∙ rest

    pub step_stops : (e : Refusal) → passed l (out-Step s).formula ≡ Err e → step_passed l s ≡ Err e
    step_stops e met = step_out l s ∙ ap (λ q. q >> all_tests (sub_passed l) (out-Step s).subs) met
