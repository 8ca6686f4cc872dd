use Rattle.link_report.proofs.LinkSome.{link_some}
use Rattle.link_report.proofs.laws.every_link_has_a_report.Goals as goal

pub returns : goal.returns
returns c = λ files name hold. link_some files hold name
