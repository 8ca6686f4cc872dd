-- Steps that are taken one by one, up to the first refusal.
use Rattle.std.specs.Prelude.{List, Ok}
use Rattle.term_trees.specs.declared.term.Formula.{Formula}
use Rattle.term_trees.specs.Leaves.{Leaves}
use Rattle.bitvector_rules.specs.declared.step.Step.{Step, out-Step}
use Rattle.outline_rules.specs.Refusals.{Ruling, ◌>>=◌, ◌>>◌}
use Rattle.symbolic_state.specs.words.Walks.{all_by}
use Rattle.outline_rules.specs.Leaves.{all_formulas_taken, step_formulas, replaced_step, taken_formula}

-- one step is taken
abbrev pub step_taken : Leaves → Step → Ruling Step
step_taken l s = all_formulas_taken l (step_formulas s) >> Ok (replaced_step l s)

-- sub-derivations are taken
abbrev pub subs_taken : Leaves → List (List Step) → Ruling (List (List Step))
subs_taken l subs = all_by (all_by (step_taken l)) subs

-- the formula of a step is taken, and then its sub-derivations
abbrev pub parts_taken : Leaves → Step → Ruling (Formula × List (List Step))
parts_taken l s = taken_formula l (out-Step s).formula >>= λ f. subs_taken l (out-Step s).subs >>= λ subs. Ok (f, subs)
