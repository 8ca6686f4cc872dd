use Rattle.notes_grammar.specs.Parts.{part_of}
use Rattle.notes_moves.proofs.Alike.{assertion_is}
use Rattle.notes_moves.proofs.assertions.read_assertion.Goals as goal

pub returns : goal.returns
returns c = rw (assertion_is c.args.context.now.later (part_of c.args.part.now)) c.assertion_of_parts.ensures
