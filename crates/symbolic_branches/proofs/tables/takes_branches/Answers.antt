use Rattle.std.proofs.Common.{get_or, arith}
use Rattle.outline_setting.proofs.Walks.{read_any}
use Rattle.symbolic_branches.specs.Labels.{labels_of}
use Rattle.symbolic_branches.proofs.Tabling.{tabling-next}
use Rattle.symbolic_branches.proofs.tables.takes_branches.Goals as goal

pub loop-i-preserved : goal.loop-i-preserved
loop-i-preserved c =
    tabling-next c.args.setting.now c.args.func (labels_of c.args.labels.now) c.args.ks.now c.args.last c.args.takes.now c.args.condition c.args.state.now c.requires.condition c.loop-i.state c.loop-i.i c.loop-i.invariant
    (get_or c.args.ks.now c.loop-i.i 0) c.index-takes-i.result c.loop-i-test.true (omega arith)
    (read_any c.args.ks.now c.loop-i.i 0 (get_or c.args.ks.now c.loop-i.i 0) c.loop-i-test.true) c.index-takes-i.is
    c.takes_at.new.state c.in-Ok.ensures.done c.in-Ok.ensures.state c.in-Ok.ensures.kept
