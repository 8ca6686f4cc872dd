-- The truth of a ground formula, by its outermost form, and under any numbers.
use Rattle.std.proofs.Common.{◌≡◌, ℤ, Bool, true, false, not, ◌&&◌, ◌||◌, List, ◌++◌, Some, None, refl, sym, ap, ◌∙◌}
use Rattle.std.specs.Prelude.{option_map, if◌then◌else◌, int_lt, int_le}
use Rattle.std.specs.Ordering.{int_eq}
use Rattle.std.specs.List.{list_all}
use Rattle.term_trees.specs.declared.term.Term.{Term}
use Rattle.term_trees.specs.declared.term.Formula.{Formula, roll-Formula, map-Formula, fold-roll-Formula}
use Rattle.term_trees.specs.declared.term.Formula.TheOpen as layer
use Rattle.term_trees.specs.declared.term.Formula.TheOpen.{Formula-F}
use Rattle.term_trees.specs.declared.term.Formula.TheVariants as form
use Rattle.term_trees.specs.Terms.{subterms}
use Rattle.term_trees.specs.Formulas.{formula_terms_here, formula_terms}
use Rattle.term_trees.specs.Meaning.{value, holds_here, holds}
use Rattle.term_trees.specs.Ground.{no_numbers, is_ground, both, ground_value, ground_truth}
use Rattle.term_trees.proofs.Grounded.{list_all-append}

abbrev all_ground : Formula → Bool
all_ground f = list_all is_ground (formula_terms f)

truth-roll : (l : Formula-F Formula) → ground_truth (roll-Formula l)
    ≡ (if list_all is_ground (formula_terms_here (map-Formula Formula (List Term) formula_terms l)) then Some (holds_here no_numbers (map-Formula Formula Bool (holds no_numbers) l)) else None)
unfolding ground_truth
truth-roll l = λ j. if list_all is_ground (fold-roll-Formula (List Term) formula_terms_here l j) then Some (fold-roll-Formula Bool (holds_here no_numbers) l j) else None

pair : {X Y : Type 0} (f : X → X → Y) (v w : X) (g h : Bool) → (if g && h then Some (f v w) else None) ≡ option_map (λ p. f p.0 p.1) (both (if g then Some v else None) (if h then Some w else None))
pair f v w true true = refl
pair f v w true false = refl
pair f v w false h = refl

pair_values : (f : ℤ → ℤ → Bool) (a b : Term) → (if list_all is_ground (subterms a ++ subterms b) then Some (f (value no_numbers a) (value no_numbers b)) else None)
    ≡ option_map (λ p. f p.0 p.1) (both (ground_value a) (ground_value b))
unfolding ground_value
pair_values f a b =
    ap (λ g. if g then Some (f (value no_numbers a) (value no_numbers b)) else None) (list_all-append is_ground (subterms a) (subterms b))
    ∙ pair f (value no_numbers a) (value no_numbers b) (list_all is_ground (subterms a)) (list_all is_ground (subterms b))

pair_truths : (t : Bool → Bool → Bool) (f g : Formula) → (if list_all is_ground (formula_terms f ++ formula_terms g) then Some (t (holds no_numbers f) (holds no_numbers g)) else None)
    ≡ option_map (λ p. t p.0 p.1) (both (ground_truth f) (ground_truth g))
unfolding ground_truth
pair_truths t f g =
    ap (λ h. if h then Some (t (holds no_numbers f) (holds no_numbers g)) else None) (list_all-append is_ground (formula_terms f) (formula_terms g))
    ∙ pair t (holds no_numbers f) (holds no_numbers g) (all_ground f) (all_ground g)

one_truth : (f : Formula) → (if all_ground f then Some (not (holds no_numbers f)) else None) ≡ option_map (λ b. not b) (ground_truth f)
unfolding ground_truth
one_truth f = one (holds no_numbers f) (all_ground f)
  where
    one : (b g : Bool) → (if g then Some (not b) else None) ≡ option_map (λ b. not b) (if g then Some b else None)
    one b true = refl
    one b false = refl

pub truth-true : ground_truth form.True ≡ Some true
truth-true = ap ground_truth (sym form.rolls-True) ∙ truth-roll layer.True

pub truth-false : ground_truth form.False ≡ Some false
truth-false = ap ground_truth (sym form.rolls-False) ∙ truth-roll layer.False

pub truth-eq : (a b : Term) → ground_truth (form.Eq a b) ≡ option_map (λ p. int_eq p.0 p.1) (both (ground_value a) (ground_value b))
truth-eq a b = ap ground_truth (sym (form.rolls-Eq a b)) ∙ truth-roll (layer.Eq a b) ∙ pair_values int_eq a b

pub truth-le : (a b : Term) → ground_truth (form.Le a b) ≡ option_map (λ p. int_le p.0 p.1) (both (ground_value a) (ground_value b))
truth-le a b = ap ground_truth (sym (form.rolls-Le a b)) ∙ truth-roll (layer.Le a b) ∙ pair_values int_le a b

pub truth-lt : (a b : Term) → ground_truth (form.Lt a b) ≡ option_map (λ p. int_lt p.0 p.1) (both (ground_value a) (ground_value b))
truth-lt a b = ap ground_truth (sym (form.rolls-Lt a b)) ∙ truth-roll (layer.Lt a b) ∙ pair_values int_lt a b

pub truth-not : (f : Formula) → ground_truth (form.Not f) ≡ option_map (λ b. not b) (ground_truth f)
truth-not f = ap ground_truth (sym (form.rolls-Not f)) ∙ truth-roll (layer.Not f) ∙ one_truth f

pub truth-and : (f g : Formula) → ground_truth (form.And f g) ≡ option_map (λ p. p.0 && p.1) (both (ground_truth f) (ground_truth g))
truth-and f g = ap ground_truth (sym (form.rolls-And f g)) ∙ truth-roll (layer.And f g) ∙ pair_truths (λ a b. a && b) f g

pub truth-or : (f g : Formula) → ground_truth (form.Or f g) ≡ option_map (λ p. p.0 || p.1) (both (ground_truth f) (ground_truth g))
truth-or f g = ap ground_truth (sym (form.rolls-Or f g)) ∙ truth-roll (layer.Or f g) ∙ pair_truths (λ a b. a || b) f g

pub truth-imp : (f g : Formula) → ground_truth (form.Imp f g) ≡ option_map (λ p. not p.0 || p.1) (both (ground_truth f) (ground_truth g))
truth-imp f g = ap ground_truth (sym (form.rolls-Imp f g)) ∙ truth-roll (layer.Imp f g) ∙ pair_truths (λ a b. not a || b) f g
