use Rattle.integer_rules.proofs.FitLaws.{keeps}
use Rattle.integer_rules.proofs.laws.rules_are_sound.Goals as goal

pub returns : goal.returns
returns c r = keeps r
