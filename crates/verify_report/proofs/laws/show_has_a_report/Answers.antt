use Rattle.verify_report.proofs.ExistLaws.{show_some}
use Rattle.verify_report.proofs.laws.show_has_a_report.Goals as goal

pub returns : goal.returns
returns c = show_some
