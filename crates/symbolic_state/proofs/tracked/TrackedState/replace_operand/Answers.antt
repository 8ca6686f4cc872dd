use Rattle.std.proofs.Common.{rules}
use Rattle.symbolic_state.proofs.Replacing.{operand-replaced}
use Rattle.symbolic_state.proofs.tracked.TrackedState.replace_operand.Goals as goal

pub invariant_of-self : goal.invariant_of-self
invariant_of-self c =
    operand-replaced c.self.inside c.self.invariant c.args.k c.args.id c.args.nodes (search rules) c.requires.room c.set_last.new.entries c.set_last.ensures (search rules)
