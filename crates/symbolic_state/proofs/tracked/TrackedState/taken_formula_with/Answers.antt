use Rattle.std.proofs.Common.{subst}
use Rattle.wasm_values.specs.Answers.{Gives}
use Rattle.term_logic.specs.Formulas.{formula_of}
use Rattle.outline_rules.specs.Leaves.{leaves_with, taken_formula}
use Rattle.symbolic_state.specs.States.{Tracked}
use Rattle.symbolic_state.specs.Refused.{refusal_of}
use Rattle.symbolic_state.proofs.tracked.TrackedState.taken_formula_with.Goals as goal

pub returns-clause-taken : goal.returns-clause-taken
returns-clause-taken c =
    subst (λ (t : Tracked). Gives refusal_of (formula_of c.formula_taken.new.table) c.formula_taken.result (taken_formula (leaves_with c.args.variables t.state) c.args.f.now)) c.self.view_is c.formula_taken.ensures.taken
