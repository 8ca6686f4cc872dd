-- Ground values and truths under any numbers.
use Rattle.std.proofs.Common.{◌≡◌, ℤ, ◌+ℤ◌, ◌-ℤ◌, ◌*ℤ◌, Bool, true, false, not, ◌&&◌, ◌||◌, List, ◌++◌, Some, None, refl, sym, ap, ◌∙◌, true≢false}
use Rattle.std.specs.Prelude.{if◌then◌else◌, int_lt, int_le}
use Rattle.std.specs.List.{list_all}
use Rattle.std.specs.Ordering.{int_eq}
use Rattle.term_trees.specs.declared.term.Term.{Term, map-Term, fold-roll-Term}
use Rattle.term_trees.specs.declared.term.Term.TheOpen.{Term-F, Num, Var, Own, At, Add, Sub, Mul, One, Two, Low, Sext, Sgn}
use Rattle.term_trees.specs.declared.term.Formula.{Formula, map-Formula, fold-roll-Formula}
use Rattle.term_trees.specs.declared.term.Formula.TheOpen as layer
use Rattle.term_trees.specs.declared.term.Formula.TheOpen.{Formula-F}
use Rattle.term_trees.specs.Terms.{joined_here, subterms}
use Rattle.term_trees.specs.Formulas.{formula_terms_here, formula_terms}
use Rattle.term_trees.specs.Meaning.{Numbers, value_here, value, holds_here, holds}
use Rattle.term_trees.specs.Ground.{no_numbers, names_nothing_here, is_ground, ground_value, ground_truth}
use Rattle.term_trees.proofs.Sameness.{induct, map_map, induct_formula, map_map_form}
use Rattle.term_trees.proofs.Truths.{both}
use Rattle.term_trees.proofs.Grounded.{list_all-append, grounded, grounded-roll}

module _ (n : Numbers) where
  abbrev Fixed : Term → Type 0
  Fixed t = grounded t ≡ true → value n t ≡ value no_numbers t

  abbrev fixed_part : (t : Term) × Fixed t → Term
  fixed_part e = e.0

  two : (a b : Term) → list_all is_ground (subterms a ++ subterms b) ≡ true → (grounded a ≡ true) × (grounded b ≡ true)
  two a b e = both _ _ (sym (list_all-append is_ground (subterms a) (subterms b)) ∙ e)

  fixed_layer : (l : Term-F ((t : Term) × Fixed t)) → names_nothing_here (map-Term ((t : Term) × Fixed t) Term (λ e. e.0) l) ≡ true
      → list_all is_ground (joined_here (map-Term ((t : Term) × Fixed t) (List Term) (λ e. subterms e.0) l)) ≡ true
      → value_here n (map-Term ((t : Term) × Fixed t) ℤ (λ e. value n e.0) l) ≡ value_here no_numbers (map-Term ((t : Term) × Fixed t) ℤ (λ e. value no_numbers e.0) l)
  fixed_layer (Num z) h e = refl
  fixed_layer (Var k) h e = absurd (true≢false (sym h))
  fixed_layer (Own k) h e = absurd (true≢false (sym h))
  fixed_layer (At p) h e = absurd (true≢false (sym h))
  fixed_layer (Add a b) h e = let p = two a.0 b.0 e in λ j. a.1 p.0 j +ℤ b.1 p.1 j
  fixed_layer (Sub a b) h e = let p = two a.0 b.0 e in λ j. a.1 p.0 j -ℤ b.1 p.1 j
  fixed_layer (Mul a b) h e = let p = two a.0 b.0 e in λ j. a.1 p.0 j *ℤ b.1 p.1 j
  fixed_layer (One op a) h e = λ j. value_here n (One op (a.1 e j))
  fixed_layer (Two op a b) h e = let p = two a.0 b.0 e in λ j. value_here n (Two op (a.1 p.0 j) (b.1 p.1 j))
  fixed_layer (Low k a) h e = λ j. value_here n (Low k (a.1 e j))
  fixed_layer (Sext k q a) h e = λ j. value_here n (Sext k q (a.1 e j))
  fixed_layer (Sgn k a) h e = λ j. value_here n (Sgn k (a.1 e j))

  value-fixed : (t : Term) → grounded t ≡ true → value n t ≡ value no_numbers t
  value-fixed = induct Fixed (λ l e.
      let p = both _ _ (sym (grounded-roll (map-Term _ _ fixed_part l)) ∙ e) in
      let q = both _ _ p.0 in
      (fold-roll-Term ℤ (value_here n) (map-Term _ _ fixed_part l) ∙ ap (value_here n) (map_map fixed_part (value n) l))
      ∙ fixed_layer l q.0 (sym (ap (λ k. list_all is_ground (joined_here k)) (map_map fixed_part subterms l)) ∙ p.1)
      ∙ sym (fold-roll-Term ℤ (value_here no_numbers) (map-Term _ _ fixed_part l) ∙ ap (value_here no_numbers) (map_map fixed_part (value no_numbers) l)))

  pub value-ground : (t : Term) (z : ℤ) → ground_value t ≡ Some z → value n t ≡ z
  unfolding ground_value
  value-ground t z e = at (grounded t) refl e
    where
      some_is : (a b : ℤ) → Some a ≡ Some b → a ≡ b
      some_is a b e = cc

      at : (b : Bool) → grounded t ≡ b → (if b then Some (value no_numbers t) else None) ≡ Some z → value n t ≡ z
      at true g e = value-fixed t g ∙ some_is _ _ e
      at false g e = cc

  abbrev all_ground : Formula → Bool
  all_ground f = list_all is_ground (formula_terms f)

  abbrev FixedForm : Formula → Type 0
  FixedForm f = all_ground f ≡ true → holds n f ≡ holds no_numbers f

  abbrev fixed_form_part : (f : Formula) × FixedForm f → Formula
  fixed_form_part e = e.0

  two_forms : (f g : Formula) → list_all is_ground (formula_terms f ++ formula_terms g) ≡ true → (all_ground f ≡ true) × (all_ground g ≡ true)
  two_forms f g e = both _ _ (sym (list_all-append is_ground (formula_terms f) (formula_terms g)) ∙ e)

  fixed_form : (l : Formula-F ((f : Formula) × FixedForm f)) → list_all is_ground (formula_terms_here (map-Formula ((f : Formula) × FixedForm f) (List Term) (λ e. formula_terms e.0) l)) ≡ true
      → holds_here n (map-Formula ((f : Formula) × FixedForm f) Bool (λ e. holds n e.0) l) ≡ holds_here no_numbers (map-Formula ((f : Formula) × FixedForm f) Bool (λ e. holds no_numbers e.0) l)
  fixed_form layer.True e = refl
  fixed_form layer.False e = refl
  fixed_form (layer.Eq a b) e = let p = two a b e in λ j. int_eq (value-fixed a p.0 j) (value-fixed b p.1 j)
  fixed_form (layer.Le a b) e = let p = two a b e in λ j. int_le (value-fixed a p.0 j) (value-fixed b p.1 j)
  fixed_form (layer.Lt a b) e = let p = two a b e in λ j. int_lt (value-fixed a p.0 j) (value-fixed b p.1 j)
  fixed_form (layer.Not f) e = λ j. not (f.1 e j)
  fixed_form (layer.And f g) e = let p = two_forms f.0 g.0 e in λ j. f.1 p.0 j && g.1 p.1 j
  fixed_form (layer.Or f g) e = let p = two_forms f.0 g.0 e in λ j. f.1 p.0 j || g.1 p.1 j
  fixed_form (layer.Imp f g) e = let p = two_forms f.0 g.0 e in λ j. not (f.1 p.0 j) || g.1 p.1 j

  holds-fixed : (f : Formula) → all_ground f ≡ true → holds n f ≡ holds no_numbers f
  holds-fixed = induct_formula FixedForm (λ l e.
      (fold-roll-Formula Bool (holds_here n) (map-Formula _ _ fixed_form_part l) ∙ ap (holds_here n) (map_map_form fixed_form_part (holds n) l))
      ∙ fixed_form l (sym (ap (list_all is_ground) (fold-roll-Formula (List Term) formula_terms_here (map-Formula _ _ fixed_form_part l) ∙ ap formula_terms_here (map_map_form fixed_form_part formula_terms l))) ∙ e)
      ∙ sym (fold-roll-Formula Bool (holds_here no_numbers) (map-Formula _ _ fixed_form_part l) ∙ ap (holds_here no_numbers) (map_map_form fixed_form_part (holds no_numbers) l)))

  pub holds-ground : (f : Formula) (b : Bool) → ground_truth f ≡ Some b → holds n f ≡ b
  unfolding ground_truth
  holds-ground f b e = at (all_ground f) refl e
    where
      some_is : (a b : Bool) → Some a ≡ Some b → a ≡ b
      some_is a b e = cc

      at : (g : Bool) → all_ground f ≡ g → (if g then Some (holds no_numbers f) else None) ≡ Some b → holds n f ≡ b
      at true g e = holds-fixed f g ∙ some_is _ _ e
      at false g e = cc
