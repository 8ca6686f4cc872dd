use Rattle.notes_parts.proofs.PartLemmas.{place_of_part}
use Rattle.notes_parts.proofs.part.place.Goals as goal

pub returns : goal.returns
returns c = place_of_part c.args.part.now
