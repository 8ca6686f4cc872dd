-- What facts and terms of a shape are, by their parts.
use Rattle.std.proofs.Common.{◌≡◌, ℤ, Bool, true, false, ◌&&◌, Option, Some, None, refl, sym, ap, ◌∙◌}
use Rattle.std.specs.Prelude.{option_and_then, unwrap_or}
use Rattle.std.specs.Ordering.{int_eq}
use Rattle.term_trees.specs.declared.term.Place.{Place}
use Rattle.term_trees.specs.declared.term.Place.TheVariants as place
use Rattle.term_trees.specs.contracts.term.PlacePartialEq.TheImpl as places
use Rattle.term_trees.specs.declared.term.Term.{Term, fold-roll-Term}
use Rattle.term_trees.specs.declared.term.Term.TheOpen as layer
use Rattle.term_trees.specs.declared.term.Term.TheVariants as term
use Rattle.term_trees.specs.declared.term.Formula.{Formula, fold-roll-Formula}
use Rattle.term_trees.specs.declared.term.Formula.TheOpen as open_form
use Rattle.term_trees.specs.declared.term.Formula.TheVariants as formula
use Rattle.term_trees.specs.Views.{num_of, place_of, sum_of, product_of, eq_of, le_of, lt_of}
use Rattle.term_trees.specs.Same.{passes, same_here, same, same_formula_here, same_formula}
use Rattle.heap_logic.specs.words.Shifts.{shift_leaves}
use Rattle.heap_logic.proofs.Symmetric.{same-turned, term-turned}

-- ---- terms of a shape

module _ (t : Term) where
  pub is-num : (k : ℤ) → same t (term.Num k) ≡ passes (num_of t) (λ m. int_eq k m)
  is-num k =
      term-turned t (term.Num k) ∙ ap (λ u. same u t) (sym (term.rolls-Num k))
      ∙ ap (λ test. test t) (fold-roll-Term (Term → Bool) same_here (layer.Num k))

  pub is-sum : (a b : Term) → same t (term.Add a b) ≡ passes (sum_of t) (λ p. same p.0 a && same p.1 b)
  is-sum a b =
      term-turned t (term.Add a b) ∙ ap (λ u. same u t) (sym (term.rolls-Add a b))
      ∙ ap (λ test. test t) (fold-roll-Term (Term → Bool) same_here (layer.Add a b))
      ∙ (λ j. passes (sum_of t) (λ p. term-turned a p.0 j && term-turned b p.1 j))

  pub is-product : (a b : Term) → same t (term.Mul a b) ≡ passes (product_of t) (λ p. same p.0 a && same p.1 b)
  is-product a b =
      term-turned t (term.Mul a b) ∙ ap (λ u. same u t) (sym (term.rolls-Mul a b))
      ∙ ap (λ test. test t) (fold-roll-Term (Term → Bool) same_here (layer.Mul a b))
      ∙ (λ j. passes (product_of t) (λ p. term-turned a p.0 j && term-turned b p.1 j))

  pub place-is : (q : Place) → same (term.At q) t ≡ passes (place_of t) (λ p. (places.ghosts).eq q p)
  place-is q = ap (λ v. same v t) (sym (term.rolls-At q)) ∙ ap (λ test. test t) (fold-roll-Term (Term → Bool) same_here (layer.At q))

-- the sum of `(index)` and a term
pub is-index-sum : (t b : Term) → same (term.Add (term.At place.Index) b) t ≡ passes (sum_of t) (λ p. passes (place_of p.0) (λ q. (places.ghosts).eq place.Index q) && same b p.1)
is-index-sum t b =
    ap (λ u. same u t) (sym (term.rolls-Add (term.At place.Index) b))
    ∙ ap (λ test. test t) (fold-roll-Term (Term → Bool) same_here (layer.Add (term.At place.Index) b))
    ∙ (λ j. passes (sum_of t) (λ p. place-is p.0 place.Index j && same b p.1))

-- every place of a row's formula but `(index)` stays
pub place-stays : (b : Term) (p : Place) → (p ≡ place.Index → ⊥) → unwrap_or ((shift_leaves b).place p) (term.At p) ≡ term.At p
place-stays b (place.Local k) h = refl
place-stays b (place.Stack k) h = refl
place-stays b (place.Global k) h = refl
place-stays b place.Pages h = refl
place-stays b (place.Arg k) h = refl
place-stays b place.Result h = refl
place-stays b place.Index h = absurd (h refl)
place-stays b place.Item h = refl

pub ruleset place_tests = (place-is, place-stays)

pub ruleset index_sums = (is-index-sum)

pub ruleset turned_tests = (same-turned)

-- ---- facts of a shape

module _ (g : Formula) where
  is-eq : (a b : Term) → same_formula g (formula.Eq a b) ≡ passes (eq_of g) (λ p. same p.0 a && same p.1 b)
  is-eq a b =
      same-turned g (formula.Eq a b) ∙ ap (λ f. same_formula f g) (sym (formula.rolls-Eq a b))
      ∙ ap (λ test. test g) (fold-roll-Formula (Formula → Bool) same_formula_here (open_form.Eq a b))
      ∙ (λ j. passes (eq_of g) (λ p. term-turned a p.0 j && term-turned b p.1 j))

  is-le : (a b : Term) → same_formula g (formula.Le a b) ≡ passes (le_of g) (λ p. same p.0 a && same p.1 b)
  is-le a b =
      same-turned g (formula.Le a b) ∙ ap (λ f. same_formula f g) (sym (formula.rolls-Le a b))
      ∙ ap (λ test. test g) (fold-roll-Formula (Formula → Bool) same_formula_here (open_form.Le a b))
      ∙ (λ j. passes (le_of g) (λ p. term-turned a p.0 j && term-turned b p.1 j))

  is-lt : (a b : Term) → same_formula g (formula.Lt a b) ≡ passes (lt_of g) (λ p. same p.0 a && same p.1 b)
  is-lt a b =
      same-turned g (formula.Lt a b) ∙ ap (λ f. same_formula f g) (sym (formula.rolls-Lt a b))
      ∙ ap (λ test. test g) (fold-roll-Formula (Formula → Bool) same_formula_here (open_form.Lt a b))
      ∙ (λ j. passes (lt_of g) (λ p. term-turned a p.0 j && term-turned b p.1 j))

passes_then : {X Y : Type 0} (o : Option X) (view : X → Option Y) (test : Y → Bool) → passes o (λ x. passes (view x) test) ≡ passes (option_and_then view o) test
passes_then None view test = refl
passes_then (Some x) view test = refl

module _ (o : Option Formula) (a b : Term) where
  pub equation-is : passes o (λ g. same_formula g (formula.Eq a b)) ≡ passes (option_and_then eq_of o) (λ p. same p.0 a && same p.1 b)
  equation-is = (λ j. passes o (λ g. is-eq g a b j)) ∙ passes_then o eq_of (λ p. same p.0 a && same p.1 b)

  pub bound-is : passes o (λ g. same_formula g (formula.Le a b)) ≡ passes (option_and_then le_of o) (λ p. same p.0 a && same p.1 b)
  bound-is = (λ j. passes o (λ g. is-le g a b j)) ∙ passes_then o le_of (λ p. same p.0 a && same p.1 b)

  pub order-is : passes o (λ g. same_formula g (formula.Lt a b)) ≡ passes (option_and_then lt_of o) (λ p. same p.0 a && same p.1 b)
  order-is = (λ j. passes o (λ g. is-lt g a b j)) ∙ passes_then o lt_of (λ p. same p.0 a && same p.1 b)

pub ruleset term_shapes = (is-num, is-sum, is-product)

-- ---- the ways through a comparison of a fact's sides

module _ (whole : Bool) (sides : Option (Term × Term)) (a b : Term) (is : whole ≡ passes sides (λ p. same p.0 a && same p.1 b)) where
  pub sides-none : sides ≡ None → false ≡ whole
  sides-none none = sym (is ∙ ap (λ o. passes o (λ p. same p.0 a && same p.1 b)) none)

  module _ (x y : Term) (some : sides ≡ Some (x, y)) (first : Bool) (one : first ≡ same x a) where
    by_sides : whole ≡ (same x a && same y b)
    by_sides = is ∙ ap (λ o. passes o (λ p. same p.0 a && same p.1 b)) some

    pub sides-then : first ≡ true → (second : Bool) → second ≡ same y b → second ≡ whole
    sides-then met second two = two ∙ (λ j. (sym met ∙ one) j && same y b) ∙ sym by_sides

    pub sides-else : first ≡ false → first ≡ whole
    sides-else unmet = unmet ∙ (λ j. (sym unmet ∙ one) j && same y b) ∙ sym by_sides
