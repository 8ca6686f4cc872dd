use Rattle.verify_report.proofs.ExistLaws.{report_some}
use Rattle.verify_report.proofs.laws.every_report_exists.Goals as goal

pub returns : goal.returns
returns c = report_some
