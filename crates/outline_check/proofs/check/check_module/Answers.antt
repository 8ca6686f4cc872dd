use Rattle.std.proofs.Common.{rules}
use Rattle.outline_check.specs.Refusals.{IsSaid}
use Rattle.outline_check.specs.Outlines.{module_outline, outline}
use Rattle.outline_check.proofs.check.check_module.Goals as goal

pub returns : goal.returns
unfolding outline
returns c =
    let said : IsSaid c.check_all.result (module_outline c.args.module.now c.args.marks.now c.args.notes.now) = search (rules, c.check_all.ensures) in
    c.answered.ensures.said (module_outline c.args.module.now c.args.marks.now c.args.notes.now) said
