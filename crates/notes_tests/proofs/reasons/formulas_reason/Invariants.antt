use Rattle.std.proofs.Common.{◌≡◌, drop}
use Rattle.outline_rules.specs.Tests.{reason_in, formula_reason}
use Rattle.notes_tests.specs.words.Tests.{leaves_test}
use Rattle.notes_tests.proofs.reasons.formulas_reason.Given as goal

abbrev pub invariant-loop-formula : goal.invariant-loop-formula
invariant-loop-formula l = reason_in (formula_reason (leaves_test l.leaves)) l.formulas ≡ reason_in (formula_reason (leaves_test l.leaves)) (drop l.formula-index l.formulas)
