use Rattle.std.proofs.Common.{rules}
use Rattle.symbolic_state.proofs.Replacing.{local-replaced}
use Rattle.symbolic_state.proofs.tracked.TrackedState.replace_local.Goals as goal

pub invariant_of-self : goal.invariant_of-self
invariant_of-self c =
    local-replaced c.self.inside c.self.invariant c.args.k c.args.id c.args.nodes (search rules) c.requires.room c.set_entry.new.entries c.set_entry.ensures (search rules)
