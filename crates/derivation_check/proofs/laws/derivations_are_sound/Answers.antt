use Rattle.derivation_check.proofs.Truth.{derived_holds}
use Rattle.derivation_check.proofs.laws.derivations_are_sound.Goals as goal

pub returns : goal.returns
returns c hyps goal steps derives = derived_holds hyps goal steps derives
