use Rattle.std.proofs.Common.{◌+◌, List, ℕ, sym, subst}
use Rattle.symbolic_renewal.proofs.Numbering.{Numbers, numbers-next}
use Rattle.symbolic_renewal.proofs.assuming.push_variables.Goals as goal

pub loop-k-preserved : goal.loop-k-preserved
loop-k-preserved c =
    subst (λ (ids : List ℕ). Numbers c.args.state.now c.variable.new.self c.args.ids.now ids c.args.first (c.loop-k.k + 1)) (sym c.in_ok-push.ensures.ok)
    (numbers-next c.args.state.now c.loop-k.state c.variable.new.self c.args.ids.now c.loop-k.ids c.args.first c.loop-k.k c.in_ok-variable.field-0 c.loop-k.invariant
    c.in_ok-variable.ensures.tree c.in_ok-variable.ensures.within c.in_ok-variable.ensures.state c.in_ok-variable.ensures.kept)
