use Rattle.bitvector_rules.proofs.RuleLaws.{sound_step}
use Rattle.bitvector_rules.proofs.laws.rules_are_sound.Goals as goal

pub returns : goal.returns
returns c s = sound_step s
