use Rattle.notes_grammar.specs.Parts.{part_of}
use Rattle.annot_text.proofs.Same.{note_is}
use Rattle.annot_text.proofs.functions.read_note.Goals as goal

pub returns : goal.returns
returns c = rw (note_is c.args.context.now (part_of c.args.part.now)) c.note_of_parts.ensures
