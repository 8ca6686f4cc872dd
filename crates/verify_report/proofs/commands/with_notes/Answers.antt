use Rattle.std.proofs.Common.{Ok, Err, ap}
use Rattle.verify_report.specs.Reports.{OfJudged, notes_limit, notes_too_long}
use Rattle.report_lines.proofs.FileRead.{read_alone, file_unread, not_read, unread_spoken}
use Rattle.verify_report.proofs.Verdicts.{verdict, unread_verdict}
use Rattle.verify_report.proofs.commands.with_notes.Goals as goal

pub returns-in_ok-judged-in-Ok-clause-made : goal.returns-in_ok-judged-in-Ok-clause-made
returns-in_ok-judged-in-Ok-clause-made g c =
    read_alone {E = Unit {0}} (Ok c.in_ok-judged-in-Ok.field-0) (g.S.Shelf.files c.args.shelf.now) c.args.notes.now notes_limit notes_too_long (OfJudged c.args.bytes.now) c.in-Ok.notes c.as_slice.result.now c.as_slice.ensures
    c.in-Ok.ensures.whole c.in-Ok.ensures.limited c.in_ok-judged-in-Ok.ensures.made

pub returns-in-Err-clause-made : goal.returns-in-Err-clause-made
returns-in-Err-clause-made g c =
    file_unread c.unread.result (g.S.Shelf.files c.args.shelf.now) c.args.notes.now notes_limit notes_too_long (λ f. (OfJudged c.args.bytes.now)) c.in-Err.fault
    (λ is. c.in-Err.ensures.too_long (ap Err is)) c.unread.ensures.made

pub returns-in-Err-clause-read : goal.returns-in-Err-clause-read
returns-in-Err-clause-read g c = λ e.
    not_read _ (g.S.Shelf.files c.args.shelf.now) c.args.notes.now notes_limit notes_too_long (λ f. (OfJudged c.args.bytes.now)) (c.in-Err.ensures.failed (ap Err (c.unread.ensures.read e)))

pub returns-in-Err-clause-spoken : goal.returns-in-Err-clause-spoken
returns-in-Err-clause-spoken g c = unread_spoken _ c.unread.result notes_too_long tt c.unread.ensures.made

pub returns-in_ok-judged-in-Ok-clause-verified : goal.returns-in_ok-judged-in-Ok-clause-verified
returns-in_ok-judged-in-Ok-clause-verified g c = verdict _ _ _ c.in_ok-judged-in-Ok.ensures.made

pub returns-in-Err-clause-verified : goal.returns-in-Err-clause-verified
returns-in-Err-clause-verified g c = unread_verdict _ c.unread.result notes_too_long (λ e. absurd cc) c.unread.ensures.made
