use Rattle.body_check.specs.words.Operands.{Are}
use Rattle.body_check.proofs.OperandLemmas.{selected}
use Rattle.body_check.proofs.operands.Operands.select.Goals as goal

pub returns-in_ok-push-in-Some-common-clause-goes : goal.returns-in_ok-push-in-Some-common-clause-goes
returns-in_ok-push-in-Some-common-clause-goes c =
    selected (Are c.args.self.now) (Are c.take.new.self) (Are c.take_any.new.self) (Are c.take_any-2.new.self) (Are c.push.new.self)
    c.in-Some.first c.in-Some-take_any.second c.in-Some-common.known
    c.if-not-take.ensures.took c.in-Some.ensures.took c.in-Some-take_any.ensures.took c.in-Some-common.ensures c.in_ok-push-in-Some-common.ensures.pushed
