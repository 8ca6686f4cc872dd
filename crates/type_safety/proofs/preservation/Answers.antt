use Rattle.type_safety.proofs.Preserving.{preservation}
use Rattle.type_safety.proofs.preservation.Goals as goal

pub returns : goal.returns
returns c = preservation
