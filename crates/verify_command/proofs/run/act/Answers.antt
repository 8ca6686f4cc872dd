use Rattle.std.proofs.Common.{Err, ap}
use Rattle.rw_edge.specs.Count.{Faulted}
use Rattle.verify_report.specs.Outcomes.{texts}
use Rattle.verify_report.proofs.OutcomeLaws.{told_refused}
use Rattle.verify_command.proofs.run.act.Goals as goal

pub returns-in-Err-Words-clause-told : goal.returns-in-Err-Words-clause-told
returns-in-Err-Words-clause-told g c =
    told_refused (g.S.Shelf.files c.args.shelf.now) (texts c.args.words.now.items) c.refused.result
    (Faulted (g.S.Shelf.faults c.args.shelf.now) (g.S.Shelf.faults c.reported.new.shelf)) (Faulted (g.K.Sink.faults c.args.sink.now) (g.K.Sink.faults c.refused.new.sink))
    (g.K.Sink.written c.args.sink.now) (g.K.Sink.written c.refused.new.sink)
    (c.in-Err-Words.ensures.words (ap Err c.in-Err-Words.field-0-is)) c.refused.ensures.comes c.refused.ensures.wrote
