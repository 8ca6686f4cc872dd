-- What made formulas stand for, and how far their positions reach.
use Rattle.std.proofs.Common.{◌≡◌, ℕ, ◌+◌, sym, ap, ◌∙◌}
use Rattle.std.specs.Prelude.{max}
use Rattle.term_logic.specs.declared.formula.IdFormula.{IdFormula, fold-roll-IdFormula}
use Rattle.term_logic.specs.declared.formula.IdFormula.TheVariants as form
use Rattle.term_logic.specs.declared.formula.IdFormula.TheOpen as layer
use Rattle.term_logic.specs.Formulas.{bound_here, formula_bound}
use Rattle.term_logic.proofs.Formulas.{formula_of-eq, formula_of-le, formula_of-not, formula_of-and, formula_of-or}

pub bound-not : (f : IdFormula) → formula_bound (form.Not f) ≡ formula_bound f
bound-not f = ap formula_bound (sym (form.rolls-Not f)) ∙ fold-roll-IdFormula ℕ bound_here (layer.Not f)

pub bound-and : (f g : IdFormula) → formula_bound (form.And f g) ≡ max (formula_bound f) (formula_bound g)
bound-and f g = ap formula_bound (sym (form.rolls-And f g)) ∙ fold-roll-IdFormula ℕ bound_here (layer.And f g)

pub bound-or : (f g : IdFormula) → formula_bound (form.Or f g) ≡ max (formula_bound f) (formula_bound g)
bound-or f g = ap formula_bound (sym (form.rolls-Or f g)) ∙ fold-roll-IdFormula ℕ bound_here (layer.Or f g)

pub bound-eq : (a b : ℕ) → formula_bound (form.Eq a b) ≡ max (a + 1) (b + 1)
bound-eq a b = ap formula_bound (sym (form.rolls-Eq a b)) ∙ fold-roll-IdFormula ℕ bound_here (layer.Eq a b)

pub bound-le : (a b : ℕ) → formula_bound (form.Le a b) ≡ max (a + 1) (b + 1)
bound-le a b = ap formula_bound (sym (form.rolls-Le a b)) ∙ fold-roll-IdFormula ℕ bound_here (layer.Le a b)

pub ruleset made = (bound-not, bound-and, bound-or, bound-eq, bound-le, formula_of-eq, formula_of-le, formula_of-not, formula_of-and, formula_of-or)
