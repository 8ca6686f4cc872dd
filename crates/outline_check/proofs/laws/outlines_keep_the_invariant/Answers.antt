use Rattle.outline_check.proofs.RunLemmas.{kept}
use Rattle.outline_check.proofs.laws.outlines_keep_the_invariant.Goals as goal

pub returns : goal.returns
returns c = kept
