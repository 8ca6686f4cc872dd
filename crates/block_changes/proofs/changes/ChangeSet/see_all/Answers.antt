use Rattle.std.proofs.Common.{refl, arith}
use Rattle.block_changes.proofs.Gathering.{gathers_none, gathers_more}
use Rattle.block_changes.proofs.changes.ChangeSet.see_all.Goals as goal

pub loop-p-init : goal.loop-p-init
loop-p-init c = gathers_none c.args.self.now c.args.code.now c.args.from c.args.from refl

pub loop-p-preserved : goal.loop-p-preserved
loop-p-preserved c =
    gathers_more c.args.self.now c.loop-p.self c.see.new.self c.args.code.now c.args.from c.loop-p.p c.at.result.now (omega arith) c.at.ensures.item c.loop-p.invariant c.in_ok-see.ensures
