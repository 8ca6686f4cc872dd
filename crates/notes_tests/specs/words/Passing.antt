-- Tests of one thing after another, and what the tests of a lemma come to.
use Rattle.std.specs.Prelude.{List, [], ◌∷◌, Ok}
use Rattle.term_trees.specs.declared.term.Formula.{Formula}
use Rattle.term_trees.specs.Leaves.{Leaves}
use Rattle.bitvector_rules.specs.declared.step.Step.{Step}
use Rattle.notes.specs.declared.outline.Lemma.{Lemma}
use Rattle.outline_rules.specs.Refusals.{Ruling, ◌>>◌}
use Rattle.outline_rules.specs.Leaves.{taken_formula, step_formulas}
use Rattle.outline_rules.specs.Moves.{derived}
use Rattle.outline_rules.specs.Tests.{lemma_variables}

-- tests of these, one after another
abbrev pub all_tests : {X : Type 0} → (X → Ruling (Unit {0})) → List X → Ruling (Unit {0})
all_tests test [] = Ok tt
all_tests test (x ∷ xs) = test x >> all_tests test xs

-- whether a formula is taken
abbrev pub passed : Leaves → Formula → Ruling (Unit {0})
passed l f = taken_formula l f >> Ok tt

-- whether the formulas of a step are
abbrev pub step_passed : Leaves → Step → Ruling (Unit {0})
step_passed l s = all_tests (passed l) (step_formulas s)

-- a lemma's parts, one after another
abbrev pub lemma_passed : Lemma → Ruling (Unit {0})
lemma_passed l =
    all_tests (passed (lemma_variables l.vars)) l.hyps
    >> passed (lemma_variables l.vars) l.goal
    >> all_tests (step_passed (lemma_variables l.vars)) l.steps
    >> derived l.hyps l.goal l.steps
