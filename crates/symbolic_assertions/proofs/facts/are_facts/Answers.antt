use Rattle.std.proofs.Common.{sym, ◌∙◌}
use Rattle.term_trees.specs.Leaves.{replaced_formula}
use Rattle.term_logic.specs.Leaves.{leaves_of}
use Rattle.symbolic_assertions.proofs.Using.{no-formula-left}
use Rattle.symbolic_assertions.proofs.facts.are_facts.Goals as goal

pub returns-in_default : goal.returns-in_default
returns-in_default c =
    sym (c.loop-k.invariant ∙ no-formula-left c.args.state.now.state c.args.facts.now c.loop-k.k-index (replaced_formula (leaves_of c.args.state.now.terms c.args.leaves.now)) c.loop-k.rest.now c.loop-k-test.true c.in_default.ensures.cases)
