use Rattle.body_check.proofs.OperandLemmas.{pushed_cut}
use Rattle.body_check.proofs.operands.Operands.push.Goals as goal

pub returns-clause-pushed : goal.returns-clause-pushed
returns-clause-pushed c =
    pushed_cut c.args.known c.args.self.now c.self.inside.items.items c.push.new.self.items c.self.inside.base c.self.inside.dead
    c.self.view_is c.self.invariant c.in-Ok.ensures.items
