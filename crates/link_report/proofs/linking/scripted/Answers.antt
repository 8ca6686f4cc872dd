use Rattle.std.proofs.Common.{Err, ap}
use Rattle.link_report.proofs.LinkMade.{scripted, scripted_unread, faulted}
use Rattle.link_report.proofs.linking.scripted.Goals as goal

pub run-requires : goal.run-requires
run-requires g c = (c.args.text.now, c.in-Ok.ensures.found)

pub returns-in-Ok-clause-made : goal.returns-in-Ok-clause-made
returns-in-Ok-clause-made g c = scripted c.run.result (g.S.Shelf.files c.args.shelf.now) c.args.text.now c.in-Ok.script c.in-Ok.ensures.found c.run.ensures.made

pub returns-in-Ok-clause-read : goal.returns-in-Ok-clause-read
returns-in-Ok-clause-read g c = λ e. scripted_unread _ (g.S.Shelf.files c.args.shelf.now) c.args.text.now c.in-Ok.script c.in-Ok.ensures.found (c.run.ensures.read e)

pub returns-in-Err-clause-made : goal.returns-in-Err-clause-made
returns-in-Err-clause-made g c = faulted c.unread_script.result (g.S.Shelf.files c.args.shelf.now) c.args.text.now c.in-Err.fault c.in-Err.ensures.fault c.unread_script.ensures.made
