use Rattle.std.proofs.Common.{Err, ap}
use Rattle.link_report.proofs.LinkMade.{logged, refused, not_loaded}
use Rattle.link_report.proofs.linking.run.Goals as goal

pub returns-in-Ok-clause-made : goal.returns-in-Ok-clause-made
returns-in-Ok-clause-made g c = logged (g.S.Shelf.files c.args.shelf.now) c.args.script.now c.in-Ok.log c.logged.result c.in-Ok.ensures.answers c.logged.ensures

pub returns-in-Err-clause-made : goal.returns-in-Err-clause-made
returns-in-Err-clause-made g c = refused c.refused.result (g.S.Shelf.files c.args.shelf.now) c.args.script.now c.in-Err.fault c.in-Err.ensures.answers c.refused.ensures.made c.refused.ensures.spoken

pub returns-in-Err-clause-read : goal.returns-in-Err-clause-read
returns-in-Err-clause-read g c = λ e. not_loaded _ (g.S.Shelf.files c.args.shelf.now) c.args.script.now (c.in-Err.ensures.shelf (ap Err (c.refused.ensures.read e)))
