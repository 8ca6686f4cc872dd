use Rattle.rw_edge.specs.Count.{Faulted}
use Rattle.verify_report.specs.Outcomes.{texts}
use Rattle.verify_report.proofs.OutcomeLaws.{comes, wrote, good, complete}
use Rattle.verify_command.proofs.run.run.Goals as goal

pub returns-clause-comes : goal.returns-clause-comes
returns-clause-comes g c =
    comes (texts c.args.words.now.items) (g.S.Shelf.files c.args.shelf.now) c.act.result
    (Faulted (g.S.Shelf.faults c.args.shelf.now) (g.S.Shelf.faults c.act.new.shelf)) (Faulted (g.K.Sink.faults c.args.sink.now) (g.K.Sink.faults c.act.new.sink))
    (g.K.Sink.written c.args.sink.now) (g.K.Sink.written c.act.new.sink) c.act.ensures.told

pub returns-clause-wrote : goal.returns-clause-wrote
returns-clause-wrote g c =
    wrote (texts c.args.words.now.items) (g.S.Shelf.files c.args.shelf.now) c.act.result
    (Faulted (g.S.Shelf.faults c.args.shelf.now) (g.S.Shelf.faults c.act.new.shelf)) (Faulted (g.K.Sink.faults c.args.sink.now) (g.K.Sink.faults c.act.new.sink))
    (g.K.Sink.written c.args.sink.now) (g.K.Sink.written c.act.new.sink) c.act.ensures.told

pub returns-clause-good : goal.returns-clause-good
returns-clause-good g c =
    good (texts c.args.words.now.items) (g.S.Shelf.files c.args.shelf.now) c.act.result
    (Faulted (g.S.Shelf.faults c.args.shelf.now) (g.S.Shelf.faults c.act.new.shelf)) (Faulted (g.K.Sink.faults c.args.sink.now) (g.K.Sink.faults c.act.new.sink))
    (g.K.Sink.written c.args.sink.now) (g.K.Sink.written c.act.new.sink) c.act.ensures.told

pub returns-clause-complete : goal.returns-clause-complete
returns-clause-complete g c =
    complete (texts c.args.words.now.items) (g.S.Shelf.files c.args.shelf.now) c.act.result
    (Faulted (g.S.Shelf.faults c.args.shelf.now) (g.S.Shelf.faults c.act.new.shelf)) (Faulted (g.K.Sink.faults c.args.sink.now) (g.K.Sink.faults c.act.new.sink))
    (g.K.Sink.written c.args.sink.now) (g.K.Sink.written c.act.new.sink) c.act.ensures.told
