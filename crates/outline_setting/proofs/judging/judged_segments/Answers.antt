use Rattle.std.proofs.Common.{ap, ◌∙◌, sym}
use Rattle.outline_setting.specs.words.Judging.{judged_walk}
use Rattle.outline_setting.proofs.Candidacy.{segment_met, segment_refused}
use Rattle.outline_setting.proofs.judging.judged_segments.Goals as goal

pub returns-in-Err : goal.returns-in-Err
returns-in-Err c =
    segment_refused c.args.setting.now c.args.ty.now c.loop-elem.known c.args.elems.now c.loop-elem.elem-index c.elem-item.result _ _ c.loop-elem-test.true c.elem-item.is
    (ap (judged_walk c.args.setting.now c.args.ty.now c.loop-elem.known) (sym c.as_slice.ensures) ∙ c.in-Err.ensures) c.loop-elem.invariant

pub loop-elem-preserved : goal.loop-elem-preserved
loop-elem-preserved c =
    segment_met c.args.setting.now c.args.ty.now c.loop-elem.known c.in-Ok.next c.args.elems.now c.loop-elem.elem-index c.elem-item.result _ c.loop-elem-test.true c.elem-item.is
    (ap (judged_walk c.args.setting.now c.args.ty.now c.loop-elem.known) (sym c.as_slice.ensures) ∙ c.in-Ok.ensures) c.loop-elem.invariant
