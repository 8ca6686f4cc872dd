use Rattle.equality_rules.proofs.EqualityLaws.{sound_refl, sound_eval, sound_floor, sound_ceil, sound_order, sound_notle, sound_notlt, sound_mulpos}
use Rattle.equality_rules.proofs.LinearLaws.{sound_linear}
use Rattle.equality_rules.proofs.RewriteLaws.{sound_rewrite}
use Rattle.equality_rules.proofs.laws.equality_rules_are_sound.Goals as goal

pub returns-clause-refl : goal.returns-clause-refl
returns-clause-refl c = sound_refl

pub returns-clause-rewrite : goal.returns-clause-rewrite
returns-clause-rewrite c = sound_rewrite

pub returns-clause-eval : goal.returns-clause-eval
returns-clause-eval c = sound_eval

pub returns-clause-linear : goal.returns-clause-linear
returns-clause-linear c = sound_linear

pub returns-clause-floor : goal.returns-clause-floor
returns-clause-floor c = sound_floor

pub returns-clause-ceil : goal.returns-clause-ceil
returns-clause-ceil c = sound_ceil

pub returns-clause-order : goal.returns-clause-order
returns-clause-order c = sound_order

pub returns-clause-notle : goal.returns-clause-notle
returns-clause-notle c = sound_notle

pub returns-clause-notlt : goal.returns-clause-notlt
returns-clause-notlt c = sound_notlt

pub returns-clause-mulpos : goal.returns-clause-mulpos
returns-clause-mulpos c = sound_mulpos
