use Rattle.notes_grammar.specs.Parts.{part_of}
use Rattle.notes_moves.proofs.Alike.{chunk_is}
use Rattle.notes_moves.proofs.chunks.read_chunk.Goals as goal

pub returns : goal.returns
returns c = rw (chunk_is c.args.context.now.later (part_of c.args.part.now)) c.chunk_of_kind.ensures
