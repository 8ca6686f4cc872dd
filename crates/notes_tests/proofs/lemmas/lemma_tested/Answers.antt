use Rattle.notes_tests.proofs.Passings.{lemma_parts}
use Rattle.notes_tests.proofs.Tested.{gives_fault}
use Rattle.notes_tests.proofs.lemmas.lemma_tested.Goals as goal

pub returns : goal.returns
returns c = gives_fault c.lemma_passed.result _ _ (lemma_parts c.args.lemma.now) c.lemma_passed.ensures
