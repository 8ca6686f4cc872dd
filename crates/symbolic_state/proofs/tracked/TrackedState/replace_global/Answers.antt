use Rattle.std.proofs.Common.{rules}
use Rattle.symbolic_state.proofs.Replacing.{global-replaced}
use Rattle.symbolic_state.proofs.tracked.TrackedState.replace_global.Goals as goal

pub invariant_of-self : goal.invariant_of-self
invariant_of-self c =
    global-replaced c.self.inside c.self.invariant c.args.k c.args.id c.args.nodes (search rules) c.requires.room c.set_some.new.globals c.set_some.ensures (search rules)
