use Rattle.validity_laws.proofs.Spelled.{spelled_in_range}
use Rattle.validity_laws.proofs.laws.spelled_ranges.Goals as goal

pub returns : goal.returns
returns c = spelled_in_range
