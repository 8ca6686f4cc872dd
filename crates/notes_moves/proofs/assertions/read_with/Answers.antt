use Rattle.notes_grammar.specs.Parts.{part_of}
use Rattle.notes_moves.proofs.Alike.{with_is}
use Rattle.notes_moves.proofs.assertions.read_with.Goals as goal

pub returns : goal.returns
returns c = rw (with_is c.args.context.now.later (part_of c.args.part.now)) c.with_of_parts.ensures
