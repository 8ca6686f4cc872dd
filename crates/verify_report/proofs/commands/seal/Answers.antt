use Rattle.std.proofs.Common.{Err, ap}
use Rattle.rw_edge.specs.Files.{contents_of}
use Rattle.report_lines.specs.Reports.{module_limit, module_too_long}
use Rattle.verify_report.specs.Reports.{OfSealedNotes}
use Rattle.report_lines.proofs.FileRead.{read_made, second_not_read, file_unread, not_read, unread_spoken}
use Rattle.verify_report.proofs.commands.seal.Goals as goal

pub returns-in-Ok-clause-made : goal.returns-in-Ok-clause-made
returns-in-Ok-clause-made g c =
    read_made c.sealed_notes.result (g.S.Shelf.files c.args.shelf.now) (g.S.Shelf.files c.read_file.new.shelf) c.args.module.now module_limit module_too_long (λ f bytes. OfSealedNotes bytes (contents_of f c.args.notes.now)) c.in-Ok.bytes c.as_slice.result.now
    c.in-Ok.ensures.files c.as_slice.ensures c.in-Ok.ensures.whole c.in-Ok.ensures.limited c.sealed_notes.ensures.made

pub returns-in-Ok-clause-read : goal.returns-in-Ok-clause-read
returns-in-Ok-clause-read g c = λ e.
    second_not_read _ _ _ (g.S.Shelf.files c.args.shelf.now) (g.S.Shelf.files c.read_file.new.shelf) c.args.module.now module_limit module_too_long (λ f bytes. OfSealedNotes bytes (contents_of f c.args.notes.now)) c.in-Ok.bytes c.as_slice.result.now
    c.in-Ok.ensures.count.no_lower c.in-Ok.ensures.files c.as_slice.ensures c.in-Ok.ensures.whole c.in-Ok.ensures.limited (c.sealed_notes.ensures.read e)

pub returns-in-Err-clause-made : goal.returns-in-Err-clause-made
returns-in-Err-clause-made g c =
    file_unread c.unread.result (g.S.Shelf.files c.args.shelf.now) c.args.module.now module_limit module_too_long (λ f bytes. OfSealedNotes bytes (contents_of f c.args.notes.now)) c.in-Err.fault
    (λ is. c.in-Err.ensures.too_long (ap Err is)) c.unread.ensures.made

pub returns-in-Err-clause-read : goal.returns-in-Err-clause-read
returns-in-Err-clause-read g c = λ e.
    not_read _ (g.S.Shelf.files c.args.shelf.now) c.args.module.now module_limit module_too_long (λ f bytes. OfSealedNotes bytes (contents_of f c.args.notes.now)) (c.in-Err.ensures.failed (ap Err (c.unread.ensures.read e)))

pub returns-in-Err-clause-spoken : goal.returns-in-Err-clause-spoken
returns-in-Err-clause-spoken g c = unread_spoken _ c.unread.result module_too_long tt c.unread.ensures.made
