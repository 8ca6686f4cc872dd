use Rattle.link_report.proofs.LinkGood.{link_only, link_there}
use Rattle.link_report.proofs.laws.link_is_good_exactly.Goals as goal

pub returns-clause-only : goal.returns-clause-only
returns-clause-only c = link_only

pub returns-clause-there : goal.returns-clause-there
returns-clause-there c = link_there
