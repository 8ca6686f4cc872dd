-- Sameness of formulas side by side.
use Rattle.std.specs.Prelude.{Bool, ◌&&◌, Option}
use Rattle.term_trees.specs.declared.term.Formula.{Formula}
use Rattle.term_trees.specs.Same.{passes, same_formula}

-- whether there are two formulas, and they are these
abbrev pub same_formulas : Formula → Formula → Option (Formula × Formula) → Bool
same_formulas f g o = passes o (λ p. same_formula f p.0 && same_formula g p.1)
