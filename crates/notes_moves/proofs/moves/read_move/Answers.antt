use Rattle.notes_grammar.specs.Parts.{part_of}
use Rattle.notes_moves.proofs.Alike.{move_is}
use Rattle.notes_moves.proofs.moves.read_move.Goals as goal

pub returns : goal.returns
returns c = rw (move_is c.args.context.now (part_of c.args.part.now)) c.move_of_kind.ensures
