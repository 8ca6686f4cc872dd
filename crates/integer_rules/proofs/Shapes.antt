-- What it takes to be a term or a formula of a known outermost form.
use Rattle.std.proofs.Common.{◌≡◌, ℕ, ℤ, Bool, ◌&&◌, ◌==◌, sym, ap, ◌∙◌}
use Rattle.std.specs.Ordering.{int_eq}
use Rattle.wasm_values.specs.declared.number.NumOp.{NumOp}
use Rattle.wasm_values.specs.contracts.number.NumOpPartialEq.TheImpl as operator
use Rattle.term_trees.specs.declared.term.Term.{Term, fold-roll-Term}
use Rattle.term_trees.specs.declared.term.Term.TheOpen as layer
use Rattle.term_trees.specs.declared.term.Term.TheVariants as term
use Rattle.term_trees.specs.declared.term.Formula.{Formula, fold-roll-Formula}
use Rattle.term_trees.specs.declared.term.Formula.TheOpen as open_form
use Rattle.term_trees.specs.declared.term.Formula.TheVariants as formula
use Rattle.term_trees.specs.Views.{num_of, sum_of, difference_of, product_of, one_of, two_of, low_of, sext_of, sgn_of, eq_of, le_of, lt_of, not_of, and_of, or_of}
use Rattle.term_trees.specs.Same.{passes, same_here, same, same_formula_here, same_formula}

module _ (t : Term) where
  pub same-num : (k : ℤ) → same (term.Num k) t ≡ passes (num_of t) (λ m. int_eq k m)
  same-num k = ap (λ u. same u t) (sym (term.rolls-Num k)) ∙ ap (λ test. test t) (fold-roll-Term (Term → Bool) same_here (layer.Num k))

  pub same-add : (a b : Term) → same (term.Add a b) t ≡ passes (sum_of t) (λ p. same a p.0 && same b p.1)
  same-add a b = ap (λ u. same u t) (sym (term.rolls-Add a b)) ∙ ap (λ test. test t) (fold-roll-Term (Term → Bool) same_here (layer.Add a b))

  pub same-sub : (a b : Term) → same (term.Sub a b) t ≡ passes (difference_of t) (λ p. same a p.0 && same b p.1)
  same-sub a b = ap (λ u. same u t) (sym (term.rolls-Sub a b)) ∙ ap (λ test. test t) (fold-roll-Term (Term → Bool) same_here (layer.Sub a b))

  pub same-mul : (a b : Term) → same (term.Mul a b) t ≡ passes (product_of t) (λ p. same a p.0 && same b p.1)
  same-mul a b = ap (λ u. same u t) (sym (term.rolls-Mul a b)) ∙ ap (λ test. test t) (fold-roll-Term (Term → Bool) same_here (layer.Mul a b))

  pub same-one : (o : NumOp) (a : Term) → same (term.One o a) t ≡ passes (one_of t) (λ p. (operator.ghosts).eq o p.0 && same a p.1)
  same-one o a = ap (λ u. same u t) (sym (term.rolls-One o a)) ∙ ap (λ test. test t) (fold-roll-Term (Term → Bool) same_here (layer.One o a))

  pub same-two : (o : NumOp) (a b : Term) → same (term.Two o a b) t ≡ passes (two_of t) (λ p. (operator.ghosts).eq o p.0 && (same a p.1 && same b p.2))
  same-two o a b = ap (λ u. same u t) (sym (term.rolls-Two o a b)) ∙ ap (λ test. test t) (fold-roll-Term (Term → Bool) same_here (layer.Two o a b))

  pub same-low : (k : ℕ) (a : Term) → same (term.Low k a) t ≡ passes (low_of t) (λ p. k == p.0 && same a p.1)
  same-low k a = ap (λ u. same u t) (sym (term.rolls-Low k a)) ∙ ap (λ test. test t) (fold-roll-Term (Term → Bool) same_here (layer.Low k a))

  pub same-sext : (k n : ℕ) (a : Term) → same (term.Sext k n a) t ≡ passes (sext_of t) (λ p. k == p.0 && (n == p.1 && same a p.2))
  same-sext k n a = ap (λ u. same u t) (sym (term.rolls-Sext k n a)) ∙ ap (λ test. test t) (fold-roll-Term (Term → Bool) same_here (layer.Sext k n a))

  pub same-sgn : (n : ℕ) (a : Term) → same (term.Sgn n a) t ≡ passes (sgn_of t) (λ p. n == p.0 && same a p.1)
  same-sgn n a = ap (λ u. same u t) (sym (term.rolls-Sgn n a)) ∙ ap (λ test. test t) (fold-roll-Term (Term → Bool) same_here (layer.Sgn n a))

pub ruleset term_shapes = (same-num, same-add, same-sub, same-mul, same-one, same-two, same-low, same-sext, same-sgn)

module _ (g : Formula) where
  pub same-eq : (a b : Term) → same_formula (formula.Eq a b) g ≡ passes (eq_of g) (λ p. same a p.0 && same b p.1)
  same-eq a b = ap (λ f. same_formula f g) (sym (formula.rolls-Eq a b)) ∙ ap (λ test. test g) (fold-roll-Formula (Formula → Bool) same_formula_here (open_form.Eq a b))

  pub same-le : (a b : Term) → same_formula (formula.Le a b) g ≡ passes (le_of g) (λ p. same a p.0 && same b p.1)
  same-le a b = ap (λ f. same_formula f g) (sym (formula.rolls-Le a b)) ∙ ap (λ test. test g) (fold-roll-Formula (Formula → Bool) same_formula_here (open_form.Le a b))

  pub same-lt : (a b : Term) → same_formula (formula.Lt a b) g ≡ passes (lt_of g) (λ p. same a p.0 && same b p.1)
  same-lt a b = ap (λ f. same_formula f g) (sym (formula.rolls-Lt a b)) ∙ ap (λ test. test g) (fold-roll-Formula (Formula → Bool) same_formula_here (open_form.Lt a b))

  pub same-not : (f : Formula) → same_formula (formula.Not f) g ≡ passes (not_of g) (λ h. same_formula f h)
  same-not f = ap (λ f. same_formula f g) (sym (formula.rolls-Not f)) ∙ ap (λ test. test g) (fold-roll-Formula (Formula → Bool) same_formula_here (open_form.Not f))

  pub same-and : (f h : Formula) → same_formula (formula.And f h) g ≡ passes (and_of g) (λ p. same_formula f p.0 && same_formula h p.1)
  same-and f h = ap (λ f. same_formula f g) (sym (formula.rolls-And f h)) ∙ ap (λ test. test g) (fold-roll-Formula (Formula → Bool) same_formula_here (open_form.And f h))

  pub same-or : (f h : Formula) → same_formula (formula.Or f h) g ≡ passes (or_of g) (λ p. same_formula f p.0 && same_formula h p.1)
  same-or f h = ap (λ f. same_formula f g) (sym (formula.rolls-Or f h)) ∙ ap (λ test. test g) (fold-roll-Formula (Formula → Bool) same_formula_here (open_form.Or f h))

pub ruleset formula_shapes = (same-eq, same-le, same-lt, same-not, same-and, same-or)
