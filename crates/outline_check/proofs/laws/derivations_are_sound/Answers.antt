use Rattle.outline_check.proofs.DerivationLaws.{sound}
use Rattle.outline_check.proofs.laws.derivations_are_sound.Goals as goal

pub returns : goal.returns
returns c = sound
