use Rattle.notes_parts.proofs.PartLemmas.{list_seen}
use Rattle.notes_parts.proofs.part.look.Goals as goal

pub returns-in-List : goal.returns-in-List
returns-in-List c = list_seen c.args.part.now c.in-List.parts c.as_slice.result.now c.in-List.close c.in-List.is c.as_slice.ensures
