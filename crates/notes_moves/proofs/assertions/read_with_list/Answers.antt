use Rattle.notes_grammar.specs.Parts.{parts_of}
use Rattle.notes_moves.proofs.Alike.{with_list_is}
use Rattle.notes_moves.proofs.assertions.read_with_list.Goals as goal

pub returns : goal.returns
returns c = rw (with_list_is c.args.context.now.later c.args.close (parts_of c.args.parts.now)) c.with_parts.ensures
