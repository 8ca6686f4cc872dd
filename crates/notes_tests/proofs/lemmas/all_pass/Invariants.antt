use Rattle.term_trees.specs.Formulas.{well_formed_formula}
use Rattle.bitvector_rules.specs.Steps.{is_admissible_formula}
use Rattle.outline_rules.specs.Tests.{lemma_variables}
use Rattle.notes_tests.specs.words.Passing.{passed}
use Rattle.notes_tests.proofs.Passings.{Walk}
use Rattle.notes_tests.proofs.lemmas.all_pass.Given as goal

abbrev pub invariant-loop-formula : goal.invariant-loop-formula
invariant-loop-formula l = Walk (passed (lemma_variables l.variables)) is_admissible_formula well_formed_formula l.formulas l.formula-index
