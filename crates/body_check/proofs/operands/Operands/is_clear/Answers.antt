use Rattle.std.proofs.Common.{length, ap}
use Rattle.body_check.proofs.OperandLemmas.{not_clear_test}
use Rattle.body_check.proofs.operands.Operands.is_clear.Goals as goal

pub returns-clause-no : goal.returns-clause-no
returns-clause-no c =
    λ e. not_clear_test c.args.self.now c.self.inside.items.items c.self.inside.base (length c.as_slice.result.now) c.self.inside.dead c.self.view_is
    (ap length c.as_slice.ensures.value) c.self.invariant e
