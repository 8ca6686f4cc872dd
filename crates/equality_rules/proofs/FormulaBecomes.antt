-- What a formula over a table becomes, by its form.
use Rattle.std.proofs.Common.{◌≡◌, ℕ, Bool, ◌&&◌, List, sym, ap, ◌∙◌}
use Rattle.term_trees.specs.declared.term.Term.{Term}
use Rattle.term_trees.specs.declared.term.Formula.{Formula, fold-roll-Formula}
use Rattle.term_trees.specs.declared.term.Formula.TheOpen as layer
use Rattle.term_trees.specs.declared.term.Formula.TheVariants as tree
use Rattle.term_logic.specs.declared.formula.IdFormula.{IdFormula}
use Rattle.term_logic.specs.declared.formula.IdFormula.TheVariants as form
use Rattle.term_logic.specs.Table.{tree_at}
use Rattle.term_logic.specs.Formulas.{formula_of}
use Rattle.term_trees.specs.Views.{is_true, is_false, eq_of, le_of, lt_of, not_of, and_of, or_of, imp_of}
use Rattle.term_trees.specs.Same.{passes}
use Rattle.term_logic.proofs.Formulas.{formula_of-true, formula_of-false, formula_of-eq, formula_of-le, formula_of-lt, formula_of-not, formula_of-and, formula_of-or, formula_of-imp}
use Rattle.equality_rules.specs.Rewrite.{becomes, formula_becomes_here, formula_becomes}

module _ (x y : Term) (ts : List Term) (f g : IdFormula) where
  pub becomes-true : f ≡ form.True → formula_becomes x y (formula_of ts f) (formula_of ts g) ≡ is_true (formula_of ts g)
  becomes-true is =
      ap (λ h. formula_becomes x y h (formula_of ts g)) (ap (formula_of ts) is ∙ formula_of-true ts ∙ sym tree.rolls-True)
      ∙ ap (λ (test : Formula → Bool). test (formula_of ts g)) (fold-roll-Formula (Formula → Bool) (formula_becomes_here x y) layer.True)

  pub becomes-false : f ≡ form.False → formula_becomes x y (formula_of ts f) (formula_of ts g) ≡ is_false (formula_of ts g)
  becomes-false is =
      ap (λ h. formula_becomes x y h (formula_of ts g)) (ap (formula_of ts) is ∙ formula_of-false ts ∙ sym tree.rolls-False)
      ∙ ap (λ (test : Formula → Bool). test (formula_of ts g)) (fold-roll-Formula (Formula → Bool) (formula_becomes_here x y) layer.False)

  pub becomes-eq : (a b : ℕ) → f ≡ form.Eq a b → formula_becomes x y (formula_of ts f) (formula_of ts g) ≡ passes (eq_of (formula_of ts g)) (λ p. becomes x y (tree_at ts a) p.0 && becomes x y (tree_at ts b) p.1)
  becomes-eq a b is =
      ap (λ h. formula_becomes x y h (formula_of ts g)) (ap (formula_of ts) is ∙ formula_of-eq ts a b ∙ sym (tree.rolls-Eq _ _))
      ∙ ap (λ (test : Formula → Bool). test (formula_of ts g)) (fold-roll-Formula (Formula → Bool) (formula_becomes_here x y) (layer.Eq (tree_at ts a) (tree_at ts b)))

  pub becomes-le : (a b : ℕ) → f ≡ form.Le a b → formula_becomes x y (formula_of ts f) (formula_of ts g) ≡ passes (le_of (formula_of ts g)) (λ p. becomes x y (tree_at ts a) p.0 && becomes x y (tree_at ts b) p.1)
  becomes-le a b is =
      ap (λ h. formula_becomes x y h (formula_of ts g)) (ap (formula_of ts) is ∙ formula_of-le ts a b ∙ sym (tree.rolls-Le _ _))
      ∙ ap (λ (test : Formula → Bool). test (formula_of ts g)) (fold-roll-Formula (Formula → Bool) (formula_becomes_here x y) (layer.Le (tree_at ts a) (tree_at ts b)))

  pub becomes-lt : (a b : ℕ) → f ≡ form.Lt a b → formula_becomes x y (formula_of ts f) (formula_of ts g) ≡ passes (lt_of (formula_of ts g)) (λ p. becomes x y (tree_at ts a) p.0 && becomes x y (tree_at ts b) p.1)
  becomes-lt a b is =
      ap (λ h. formula_becomes x y h (formula_of ts g)) (ap (formula_of ts) is ∙ formula_of-lt ts a b ∙ sym (tree.rolls-Lt _ _))
      ∙ ap (λ (test : Formula → Bool). test (formula_of ts g)) (fold-roll-Formula (Formula → Bool) (formula_becomes_here x y) (layer.Lt (tree_at ts a) (tree_at ts b)))

  pub becomes-not : (a : IdFormula) → f ≡ form.Not a → formula_becomes x y (formula_of ts f) (formula_of ts g) ≡ passes (not_of (formula_of ts g)) (λ h. formula_becomes x y (formula_of ts a) h)
  becomes-not a is =
      ap (λ h. formula_becomes x y h (formula_of ts g)) (ap (formula_of ts) is ∙ formula_of-not ts a ∙ sym (tree.rolls-Not _))
      ∙ ap (λ (test : Formula → Bool). test (formula_of ts g)) (fold-roll-Formula (Formula → Bool) (formula_becomes_here x y) (layer.Not (formula_of ts a)))

  pub becomes-and : (a b : IdFormula) → f ≡ form.And a b → formula_becomes x y (formula_of ts f) (formula_of ts g) ≡ passes (and_of (formula_of ts g)) (λ p. formula_becomes x y (formula_of ts a) p.0 && formula_becomes x y (formula_of ts b) p.1)
  becomes-and a b is =
      ap (λ h. formula_becomes x y h (formula_of ts g)) (ap (formula_of ts) is ∙ formula_of-and ts a b ∙ sym (tree.rolls-And _ _))
      ∙ ap (λ (test : Formula → Bool). test (formula_of ts g)) (fold-roll-Formula (Formula → Bool) (formula_becomes_here x y) (layer.And (formula_of ts a) (formula_of ts b)))

  pub becomes-or : (a b : IdFormula) → f ≡ form.Or a b → formula_becomes x y (formula_of ts f) (formula_of ts g) ≡ passes (or_of (formula_of ts g)) (λ p. formula_becomes x y (formula_of ts a) p.0 && formula_becomes x y (formula_of ts b) p.1)
  becomes-or a b is =
      ap (λ h. formula_becomes x y h (formula_of ts g)) (ap (formula_of ts) is ∙ formula_of-or ts a b ∙ sym (tree.rolls-Or _ _))
      ∙ ap (λ (test : Formula → Bool). test (formula_of ts g)) (fold-roll-Formula (Formula → Bool) (formula_becomes_here x y) (layer.Or (formula_of ts a) (formula_of ts b)))

  pub becomes-imp : (a b : IdFormula) → f ≡ form.Imp a b → formula_becomes x y (formula_of ts f) (formula_of ts g) ≡ passes (imp_of (formula_of ts g)) (λ p. formula_becomes x y (formula_of ts a) p.0 && formula_becomes x y (formula_of ts b) p.1)
  becomes-imp a b is =
      ap (λ h. formula_becomes x y h (formula_of ts g)) (ap (formula_of ts) is ∙ formula_of-imp ts a b ∙ sym (tree.rolls-Imp _ _))
      ∙ ap (λ (test : Formula → Bool). test (formula_of ts g)) (fold-roll-Formula (Formula → Bool) (formula_becomes_here x y) (layer.Imp (formula_of ts a) (formula_of ts b)))
