-- The formulas of a step.
use Rattle.std.specs.Prelude.{Bool, ◌&&◌, nat_le, List}
use Rattle.std.specs.List.{list_all}
use Rattle.term_logic.specs.declared.term.Formula.{Formula}
use Rattle.term_logic.specs.Formulas.{formula_nodes, well_formed_formula}
use Rattle.bitvector_rules.specs.declared.step.Step.{Step, Step-F, fold-Step}

-- Whether a formula may stand in a step: it is well formed and has at most 4,096 nodes.
abbrev pub is_admissible_formula : Formula → Bool
is_admissible_formula f = nat_le (formula_nodes f) 4096 && well_formed_formula f

-- whether a step's formula is admissible, and all steps of its sub-derivations are
abbrev pub admissible_here : Step-F Bool → Bool
admissible_here s = is_admissible_formula s.formula && list_all (λ sub. list_all (λ b. b) sub) s.subs

-- Whether each formula of a step is admissible, those of its sub-derivations included.
abbrev pub is_admissible : Step → Bool
is_admissible s = fold-Step Bool admissible_here s

-- Whether each formula of the steps is admissible.
abbrev pub all_admissible : List Step → Bool
all_admissible steps = list_all is_admissible steps
