use Rattle.std.proofs.Common.{◌+◌, sym, subst}
use Rattle.outline_entry.proofs.Numbered.{Numbering, numbering-next}
use Rattle.outline_entry.proofs.precondition.variables_from.Goals as goal

pub loop-k-preserved : goal.loop-k-preserved
loop-k-preserved c =
    subst (Numbering c.args.state.now c.variable.new.self c.args.first c.args.count (c.loop-k.k + 1)) (sym c.in_ok-push.ensures.ok)
    (numbering-next c.args.state.now c.loop-k.state c.variable.new.self c.args.first c.args.count c.loop-k.k c.loop-k.ids c.in_ok-variable.field-0 c.loop-k-test.true c.loop-k.invariant
    c.in_ok-variable.ensures.tree c.in_ok-variable.ensures.within c.in_ok-variable.ensures.state c.in_ok-variable.ensures.kept)
