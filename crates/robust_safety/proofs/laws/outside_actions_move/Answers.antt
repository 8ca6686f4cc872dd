use Rattle.robust_safety.proofs.OutsideActions.{outside_actions_move}
use Rattle.robust_safety.proofs.laws.outside_actions_move.Goals as goal

pub returns : goal.returns
returns c = outside_actions_move
