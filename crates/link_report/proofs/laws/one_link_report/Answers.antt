use Rattle.link_report.proofs.LinkOnce.{link_once}
use Rattle.link_report.proofs.laws.one_link_report.Goals as goal

pub returns : goal.returns
returns c = link_once
