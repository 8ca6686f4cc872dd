-- Facts over a table by their sides.
use Rattle.std.proofs.Common.{◌≡◌, ℕ, ◌+◌, max, sym, ap, ◌∙◌}
use Rattle.term_logic.specs.declared.formula.IdFormula.{fold-roll-IdFormula}
use Rattle.term_logic.specs.declared.formula.IdFormula.TheOpen as layer
use Rattle.term_logic.specs.declared.formula.IdFormula.TheVariants as form
use Rattle.term_logic.specs.Formulas.{bound_here, formula_bound}
use Rattle.term_logic.proofs.Formulas.{formula_of-eq, formula_of-le}

pub bound-eq : (a b : ℕ) → formula_bound (form.Eq a b) ≡ max (a + 1) (b + 1)
bound-eq a b = ap formula_bound (sym (form.rolls-Eq a b)) ∙ fold-roll-IdFormula ℕ bound_here (layer.Eq a b)

pub bound-le : (a b : ℕ) → formula_bound (form.Le a b) ≡ max (a + 1) (b + 1)
bound-le a b = ap formula_bound (sym (form.rolls-Le a b)) ∙ fold-roll-IdFormula ℕ bound_here (layer.Le a b)

pub ruleset facts_over_ids = (formula_of-eq, formula_of-le, bound-eq, bound-le)
