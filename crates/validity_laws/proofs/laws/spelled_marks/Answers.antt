use Rattle.validity_laws.proofs.MarkLaws.{spelled_marked}
use Rattle.validity_laws.proofs.laws.spelled_marks.Goals as goal

pub returns : goal.returns
returns c = spelled_marked
