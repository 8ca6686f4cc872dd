use Rattle.notes_tests.proofs.Puttings.{Putting}
use Rattle.notes_tests.proofs.lemmas.put_all.Given as goal

abbrev pub invariant-loop-formula : goal.invariant-loop-formula
invariant-loop-formula l = Putting l.initial.table l.table l.formulas l.formula-index l.ids
