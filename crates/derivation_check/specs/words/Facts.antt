-- The facts of a check: the hypotheses that are given, and those that the check adds.
use Rattle.std.specs.Prelude.{ℕ, List, ◌++◌, map, take, drop}
use Rattle.term_trees.specs.declared.term.Term.{Term}
use Rattle.term_trees.specs.declared.term.Formula.{Formula}
use Rattle.term_logic.specs.declared.formula.IdFormula.{IdFormula}
use Rattle.term_logic.specs.Formulas.{formula_of}

-- the hypotheses: those that are given, and the first of the added facts
abbrev pub hyps_at : List Term → List IdFormula → List IdFormula → ℕ → List Formula
hyps_at ts hyps added base = map (formula_of ts) (hyps ++ take base added)

-- the conclusions of the earlier steps: the other added facts
abbrev pub earlier_at : List Term → List IdFormula → ℕ → List Formula
earlier_at ts added base = map (formula_of ts) (drop base added)

-- all of them
abbrev pub facts_at : List Term → List IdFormula → List IdFormula → List Formula
facts_at ts hyps added = map (formula_of ts) (hyps ++ added)
