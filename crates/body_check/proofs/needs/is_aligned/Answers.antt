use Rattle.body_check.proofs.ActLemmas.{aligned_far}
use Rattle.body_check.proofs.needs.is_aligned.Goals as goal

pub returns-else-align-le3 : goal.returns-else-align-le3
returns-else-align-le3 c = aligned_far c.args.align c.args.width c.if-align-le3.false c.requires
