use Rattle.verify_report.proofs.OnceLaws.{one_report}
use Rattle.verify_report.proofs.laws.one_report.Goals as goal

pub returns : goal.returns
returns c = one_report
