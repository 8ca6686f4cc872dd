use Rattle.std.proofs.Common.{ap, ◌∙◌}
use Rattle.wasm_values.specs.declared.number.ValType.TheVariants.{I32}
use Rattle.term_trees.specs.declared.term.Term.{Term}
use Rattle.symbolic_state.proofs.Lists.{absent}
use Rattle.symbolic_state.proofs.tracked.TrackedState.local_entry.Goals as goal

pub returns-in_ok-number-in-None-clause-entry : goal.returns-in_ok-number-in-None-clause-entry
returns-in_ok-number-in-None-clause-entry c =
    ap (λ (t : Term). (I32, t)) c.in_ok-number-in-None.ensures.tree ∙ absent c.args.self.now.state.locals c.args.k _ c.in-None.ensures.local
