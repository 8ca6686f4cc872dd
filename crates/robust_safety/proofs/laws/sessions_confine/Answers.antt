use Rattle.robust_safety.proofs.Running.{sessions_confine}
use Rattle.robust_safety.proofs.laws.sessions_confine.Goals as goal

pub returns : goal.returns
returns c = sessions_confine
