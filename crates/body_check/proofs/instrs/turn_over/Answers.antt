use Rattle.std.proofs.Common.{reverse}
use Rattle.body_check.specs.words.Operands.{Are}
use Rattle.body_check.proofs.ActLemmas.{turned_over}
use Rattle.body_check.proofs.instrs.turn_over.Goals as goal

pub returns-clause-goes : goal.returns-clause-goes
returns-clause-goes c =
    turned_over c.turn.result (Are c.args.operands.now) (Are c.take.new.self) (Are c.turn.new.self) (reverse c.args.takes.now) (reverse c.args.gives.now) c.if-not-take.ensures.took c.turn.ensures.goes
