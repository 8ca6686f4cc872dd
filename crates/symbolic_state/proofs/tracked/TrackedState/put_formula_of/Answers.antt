use Rattle.std.proofs.Common.{subst}
use Rattle.wasm_values.specs.Answers.{Gives}
use Rattle.term_trees.specs.Leaves.{replaced_formula}
use Rattle.term_logic.specs.Formulas.{formula_of}
use Rattle.symbolic_state.specs.Assertions.{leaves_in}
use Rattle.symbolic_state.specs.Refused.{refusal_of}
use Rattle.symbolic_state.specs.States.{Tracked}
use Rattle.symbolic_state.specs.words.Instances.{small_formula}
use Rattle.symbolic_state.proofs.tracked.TrackedState.put_formula_of.Goals as goal

pub returns-clause-put : goal.returns-clause-put
returns-clause-put c =
    subst (λ (t : Tracked). Gives refusal_of (formula_of c.formula_over.new.table) c.formula_over.result (small_formula (replaced_formula (leaves_in t c.args.terms.now) c.args.f.now)))
    c.self.view_is c.formula_over.ensures.put
