use Rattle.robust_safety.proofs.Actions.{actions_follow}
use Rattle.robust_safety.proofs.laws.actions_follow.Goals as goal

pub returns : goal.returns
returns c = actions_follow
