use Rattle.type_safety.proofs.Progressing.{progress}
use Rattle.type_safety.proofs.progress.Goals as goal

pub returns : goal.returns
returns c = progress
