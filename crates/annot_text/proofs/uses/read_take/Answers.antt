use Rattle.notes_grammar.specs.Parts.{part_of}
use Rattle.annot_text.proofs.Same.{take_is}
use Rattle.annot_text.proofs.uses.read_take.Goals as goal

pub returns : goal.returns
returns c = rw (take_is c.args.context.now (part_of c.args.part.now)) c.take_of_parts.ensures
