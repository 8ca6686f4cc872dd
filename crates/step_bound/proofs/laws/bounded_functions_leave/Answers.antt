use Rattle.step_bound.proofs.Falling.{bounds_hold, runs_go_on}
use Rattle.step_bound.proofs.laws.bounded_functions_leave.Goals as goal

pub returns : goal.returns
returns c = record { within = bounds_hold; going = runs_go_on }
