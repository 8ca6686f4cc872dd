use Rattle.notes_grammar.specs.Parts.{part_of}
use Rattle.annot_text.proofs.Same.{side_is}
use Rattle.annot_text.proofs.functions.read_side.Goals as goal

pub returns : goal.returns
returns c = rw (side_is c.args.tag.now c.args.context.now.later (part_of c.args.part.now)) c.side_of_parts.ensures
