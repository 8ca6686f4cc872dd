use Rattle.validity_laws.proofs.InvalidLaws.{invalid_once}
use Rattle.validity_laws.proofs.laws.one_first_fault.Goals as goal

pub returns : goal.returns
returns c = invalid_once
