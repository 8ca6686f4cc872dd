use Rattle.body_check.specs.words.Operands.{Are}
use Rattle.body_check.proofs.OperandLemmas.{dropped, none_to_drop}
use Rattle.body_check.proofs.operands.Operands.drop_one.Goals as goal

pub returns-in-Some-clause-goes : goal.returns-in-Some-clause-goes
returns-in-Some-clause-goes c = dropped (Are c.args.self.now) (Are c.take_any.new.self) c.in-Some.field-0 c.in-Some.ensures.took

pub returns-in-None-clause-goes : goal.returns-in-None-clause-goes
returns-in-None-clause-goes c = none_to_drop (Are c.args.self.now) (Are c.take_any.new.self) c.in-None.ensures.took
