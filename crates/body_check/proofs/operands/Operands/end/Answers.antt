use Rattle.body_check.proofs.OperandLemmas.{put_down}
use Rattle.body_check.proofs.operands.Operands.end.Goals as goal

pub returns : goal.returns
returns c =
    λ within. put_down c.args.self.now c.self.inside.items.items c.self.inside.base c.self.inside.dead c.args.floor c.self.view_is c.requires
