use Rattle.std.proofs.Common.{true}
use Rattle.notes.specs.WellFormed.{well_formed_lemma}
use Rattle.outline_rules.specs.Tests.{lemma_tested}
use Rattle.notes_tests.proofs.Passings.{Walk}
use Rattle.notes_tests.proofs.lemmas.lemmas_tested.Given as goal

abbrev pub invariant-loop-lemma : goal.invariant-loop-lemma
invariant-loop-lemma l = Walk lemma_tested (λ k. true) well_formed_lemma l.lemmas l.lemma-index
