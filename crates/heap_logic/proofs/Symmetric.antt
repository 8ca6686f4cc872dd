-- The tests of terms and formulas don't depend on their order.
use Rattle.std.proofs.Common.{◌≡◌, sym}
use Rattle.term_trees.specs.declared.term.Term.{Term}
use Rattle.term_trees.specs.declared.term.Formula.{Formula}
use Rattle.term_trees.specs.Same.{same, same_formula}
use Rattle.term_trees.proofs.Sameness.{same-is, same_formula-is}
use Rattle.term_trees.proofs.Truths.{one_test}

pub term-turned : (t u : Term) → same t u ≡ same u t
term-turned t u = one_test (same t u) (same u t) (same-is t u) (λ h. sym ((same-is u t).0 h), λ e. (same-is u t).1 (sym e))

pub same-turned : (f g : Formula) → same_formula f g ≡ same_formula g f
same-turned f g = one_test (same_formula f g) (same_formula g f) (same_formula-is f g) (λ h. sym ((same_formula-is g f).0 h), λ e. (same_formula-is g f).1 (sym e))
