use Rattle.notes_parts.specs.Seen.{headed_seen}
use Rattle.notes_moves.proofs.Alike.{move_headed_is}
use Rattle.notes_moves.proofs.moves.read_headed_move.Goals as goal

pub returns : goal.returns
returns c = rw (move_headed_is c.args.context.now (headed_seen c.args.headed.now)) c.move_headed.ensures
