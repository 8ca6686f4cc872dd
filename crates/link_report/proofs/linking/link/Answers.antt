use Rattle.std.proofs.Common.{Err, ap}
use Rattle.report_lines.proofs.FileRead.{read_made, second_not_read, file_unread, not_read, unread_spoken}
use Rattle.link_report.specs.Links.{script_limit, script_too_long, OfScript}
use Rattle.link_report.proofs.linking.link.Goals as goal

pub returns-in-Ok-clause-made : goal.returns-in-Ok-clause-made
returns-in-Ok-clause-made g c =
    read_made c.scripted.result (g.S.Shelf.files c.args.shelf.now) (g.S.Shelf.files c.read_file.new.shelf) c.args.script.now script_limit script_too_long OfScript c.in-Ok.text c.as_slice.result.now
    c.in-Ok.ensures.files c.as_slice.ensures c.in-Ok.ensures.whole c.in-Ok.ensures.limited c.scripted.ensures.made

pub returns-in-Ok-clause-read : goal.returns-in-Ok-clause-read
returns-in-Ok-clause-read g c = λ e.
    second_not_read _ _ _ (g.S.Shelf.files c.args.shelf.now) (g.S.Shelf.files c.read_file.new.shelf) c.args.script.now script_limit script_too_long OfScript c.in-Ok.text c.as_slice.result.now
    c.in-Ok.ensures.count.no_lower c.in-Ok.ensures.files c.as_slice.ensures c.in-Ok.ensures.whole c.in-Ok.ensures.limited (c.scripted.ensures.read e)

pub returns-in-Err-clause-made : goal.returns-in-Err-clause-made
returns-in-Err-clause-made g c =
    file_unread c.unread.result (g.S.Shelf.files c.args.shelf.now) c.args.script.now script_limit script_too_long OfScript c.in-Err.fault
    (λ is. c.in-Err.ensures.too_long (ap Err is)) c.unread.ensures.made

pub returns-in-Err-clause-read : goal.returns-in-Err-clause-read
returns-in-Err-clause-read g c = λ e.
    not_read _ (g.S.Shelf.files c.args.shelf.now) c.args.script.now script_limit script_too_long OfScript (c.in-Err.ensures.failed (ap Err (c.unread.ensures.read e)))

pub returns-in-Err-clause-spoken : goal.returns-in-Err-clause-spoken
returns-in-Err-clause-spoken g c = unread_spoken _ c.unread.result script_too_long tt c.unread.ensures.made
