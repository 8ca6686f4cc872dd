use Rattle.notes_grammar.specs.Parts.{part_of}
use Rattle.annot_text.proofs.Same.{initial_is}
use Rattle.annot_text.proofs.functions.read_initial.Goals as goal

pub returns : goal.returns
returns c = rw (initial_is c.args.context.now (part_of c.args.part.now)) c.initial_of_parts.ensures
