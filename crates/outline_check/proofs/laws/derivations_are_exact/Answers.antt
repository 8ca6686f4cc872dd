use Rattle.outline_check.proofs.DerivationLaws.{exact}
use Rattle.outline_check.proofs.laws.derivations_are_exact.Goals as goal

pub returns : goal.returns
returns c = exact
