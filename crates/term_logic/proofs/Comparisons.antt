-- How a formula over a table is compared, by its form.
use Rattle.std.proofs.Common.{◌≡◌, ℕ, Bool, ◌&&◌, List, sym, ap, ◌∙◌}
use Rattle.term_trees.specs.declared.term.Term.{Term}
use Rattle.term_trees.specs.declared.term.Formula.{Formula, fold-roll-Formula}
use Rattle.term_trees.specs.declared.term.Formula.TheOpen as layer
use Rattle.term_trees.specs.declared.term.Formula.TheVariants as tree
use Rattle.term_logic.specs.declared.formula.IdFormula.{IdFormula}
use Rattle.term_logic.specs.declared.formula.IdFormula.TheVariants as form
use Rattle.term_logic.specs.Table.{tree_at}
use Rattle.term_logic.specs.Formulas.{formula_of}
use Rattle.term_trees.specs.Views.{is_true, is_false, eq_of, le_of, lt_of, not_of, and_of, or_of, imp_of}
use Rattle.term_trees.specs.Same.{passes, same, same_formula_here, same_formula}
use Rattle.term_logic.proofs.Formulas.{formula_of-true, formula_of-false, formula_of-eq, formula_of-le, formula_of-lt, formula_of-not, formula_of-and, formula_of-or, formula_of-imp}

module _ (ts : List Term) (f g : IdFormula) where
  pub test-true : f ≡ form.True → same_formula (formula_of ts f) (formula_of ts g) ≡ is_true (formula_of ts g)
  test-true is =
      ap (λ h. same_formula h (formula_of ts g)) (ap (formula_of ts) is ∙ formula_of-true ts ∙ sym tree.rolls-True)
      ∙ ap (λ test. test (formula_of ts g)) (fold-roll-Formula (Formula → Bool) same_formula_here layer.True)

  pub test-false : f ≡ form.False → same_formula (formula_of ts f) (formula_of ts g) ≡ is_false (formula_of ts g)
  test-false is =
      ap (λ h. same_formula h (formula_of ts g)) (ap (formula_of ts) is ∙ formula_of-false ts ∙ sym tree.rolls-False)
      ∙ ap (λ test. test (formula_of ts g)) (fold-roll-Formula (Formula → Bool) same_formula_here layer.False)

  pub test-eq : (a b : ℕ) → f ≡ form.Eq a b → same_formula (formula_of ts f) (formula_of ts g) ≡ passes (eq_of (formula_of ts g)) (λ p. same (tree_at ts a) p.0 && same (tree_at ts b) p.1)
  test-eq a b is =
      ap (λ h. same_formula h (formula_of ts g)) (ap (formula_of ts) is ∙ formula_of-eq ts a b ∙ sym (tree.rolls-Eq _ _))
      ∙ ap (λ test. test (formula_of ts g)) (fold-roll-Formula (Formula → Bool) same_formula_here (layer.Eq (tree_at ts a) (tree_at ts b)))

  pub test-le : (a b : ℕ) → f ≡ form.Le a b → same_formula (formula_of ts f) (formula_of ts g) ≡ passes (le_of (formula_of ts g)) (λ p. same (tree_at ts a) p.0 && same (tree_at ts b) p.1)
  test-le a b is =
      ap (λ h. same_formula h (formula_of ts g)) (ap (formula_of ts) is ∙ formula_of-le ts a b ∙ sym (tree.rolls-Le _ _))
      ∙ ap (λ test. test (formula_of ts g)) (fold-roll-Formula (Formula → Bool) same_formula_here (layer.Le (tree_at ts a) (tree_at ts b)))

  pub test-lt : (a b : ℕ) → f ≡ form.Lt a b → same_formula (formula_of ts f) (formula_of ts g) ≡ passes (lt_of (formula_of ts g)) (λ p. same (tree_at ts a) p.0 && same (tree_at ts b) p.1)
  test-lt a b is =
      ap (λ h. same_formula h (formula_of ts g)) (ap (formula_of ts) is ∙ formula_of-lt ts a b ∙ sym (tree.rolls-Lt _ _))
      ∙ ap (λ test. test (formula_of ts g)) (fold-roll-Formula (Formula → Bool) same_formula_here (layer.Lt (tree_at ts a) (tree_at ts b)))

  pub test-not : (a : IdFormula) → f ≡ form.Not a → same_formula (formula_of ts f) (formula_of ts g) ≡ passes (not_of (formula_of ts g)) (λ h. same_formula (formula_of ts a) h)
  test-not a is =
      ap (λ h. same_formula h (formula_of ts g)) (ap (formula_of ts) is ∙ formula_of-not ts a ∙ sym (tree.rolls-Not _))
      ∙ ap (λ test. test (formula_of ts g)) (fold-roll-Formula (Formula → Bool) same_formula_here (layer.Not (formula_of ts a)))

  pub test-and : (a b : IdFormula) → f ≡ form.And a b → same_formula (formula_of ts f) (formula_of ts g) ≡ passes (and_of (formula_of ts g)) (λ p. same_formula (formula_of ts a) p.0 && same_formula (formula_of ts b) p.1)
  test-and a b is =
      ap (λ h. same_formula h (formula_of ts g)) (ap (formula_of ts) is ∙ formula_of-and ts a b ∙ sym (tree.rolls-And _ _))
      ∙ ap (λ test. test (formula_of ts g)) (fold-roll-Formula (Formula → Bool) same_formula_here (layer.And (formula_of ts a) (formula_of ts b)))

  pub test-or : (a b : IdFormula) → f ≡ form.Or a b → same_formula (formula_of ts f) (formula_of ts g) ≡ passes (or_of (formula_of ts g)) (λ p. same_formula (formula_of ts a) p.0 && same_formula (formula_of ts b) p.1)
  test-or a b is =
      ap (λ h. same_formula h (formula_of ts g)) (ap (formula_of ts) is ∙ formula_of-or ts a b ∙ sym (tree.rolls-Or _ _))
      ∙ ap (λ test. test (formula_of ts g)) (fold-roll-Formula (Formula → Bool) same_formula_here (layer.Or (formula_of ts a) (formula_of ts b)))

  pub test-imp : (a b : IdFormula) → f ≡ form.Imp a b → same_formula (formula_of ts f) (formula_of ts g) ≡ passes (imp_of (formula_of ts g)) (λ p. same_formula (formula_of ts a) p.0 && same_formula (formula_of ts b) p.1)
  test-imp a b is =
      ap (λ h. same_formula h (formula_of ts g)) (ap (formula_of ts) is ∙ formula_of-imp ts a b ∙ sym (tree.rolls-Imp _ _))
      ∙ ap (λ test. test (formula_of ts g)) (fold-roll-Formula (Formula → Bool) same_formula_here (layer.Imp (formula_of ts a) (formula_of ts b)))
