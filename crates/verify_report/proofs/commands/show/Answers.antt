use Rattle.std.proofs.Common.{Ok, Err, ap}
use Rattle.report_lines.specs.Reports.{module_limit, module_too_long}
use Rattle.verify_report.specs.Reports.{OfShown}
use Rattle.report_lines.proofs.FileRead.{read_alone, file_unread, not_read, unread_spoken}
use Rattle.verify_report.proofs.commands.show.Goals as goal

pub returns-in_ok-shown-in-Ok-clause-made : goal.returns-in_ok-shown-in-Ok-clause-made
returns-in_ok-shown-in-Ok-clause-made g c =
    read_alone {E = Unit {0}} (Ok c.in_ok-shown-in-Ok.field-0) (g.S.Shelf.files c.args.shelf.now) c.args.module.now module_limit module_too_long OfShown c.in-Ok.bytes c.as_slice.result.now c.as_slice.ensures
    c.in-Ok.ensures.whole c.in-Ok.ensures.limited c.in_ok-shown-in-Ok.ensures.made

pub returns-in-Err-clause-made : goal.returns-in-Err-clause-made
returns-in-Err-clause-made g c =
    file_unread c.unread.result (g.S.Shelf.files c.args.shelf.now) c.args.module.now module_limit module_too_long (λ f. OfShown) c.in-Err.fault
    (λ is. c.in-Err.ensures.too_long (ap Err is)) c.unread.ensures.made

pub returns-in-Err-clause-read : goal.returns-in-Err-clause-read
returns-in-Err-clause-read g c = λ e.
    not_read _ (g.S.Shelf.files c.args.shelf.now) c.args.module.now module_limit module_too_long (λ f. OfShown) (c.in-Err.ensures.failed (ap Err (c.unread.ensures.read e)))

pub returns-in-Err-clause-spoken : goal.returns-in-Err-clause-spoken
returns-in-Err-clause-spoken g c = unread_spoken _ c.unread.result module_too_long tt c.unread.ensures.made
