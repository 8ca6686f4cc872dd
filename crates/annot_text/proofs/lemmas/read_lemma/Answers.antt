use Rattle.notes_grammar.specs.Parts.{part_of}
use Rattle.annot_text.proofs.Same.{lemma_is, new_given}
use Rattle.annot_text.proofs.lemmas.read_lemma.Goals as goal

pub returns-clause-given : goal.returns-clause-given
returns-clause-given c = rw (lemma_is c.args.context.now (part_of c.args.part.now) c.requires) c.lemma_of_parts.ensures

pub returns-clause-new : goal.returns-clause-new
returns-clause-new c = new_given c.args.context.now (part_of c.args.part.now) _ c.requires c.lemma_of_parts.ensures
