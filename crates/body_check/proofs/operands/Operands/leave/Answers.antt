use Rattle.body_check.specs.words.Operands.{Are}
use Rattle.body_check.proofs.OperandLemmas.{left, are_some, all_are}
use Rattle.body_check.proofs.operands.Operands.leave.Goals as goal

pub returns-clause-goes : goal.returns-clause-goes
returns-clause-goes c = left (Are c.args.self.now) (Are c.take_all.new.self) (Are c.die.new.self) _ c.if-not-take_all.ensures.took (are_some c.take_all.new.self) (all_are c.take_all.new.self c.die.new.self c.die.ensures)
