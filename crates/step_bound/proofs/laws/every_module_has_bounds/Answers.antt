use Rattle.step_bound.proofs.Existing.{bounds_exist}
use Rattle.step_bound.proofs.laws.every_module_has_bounds.Goals as goal

pub returns : goal.returns
returns c = bounds_exist
