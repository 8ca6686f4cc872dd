use Rattle.std.proofs.Common.{subst}
use Rattle.wasm_values.specs.Answers.{Gives}
use Rattle.term_logic.specs.Formulas.{formula_of}
use Rattle.outline_rules.specs.Leaves.{move_leaves, in_row, taken_formula}
use Rattle.symbolic_state.specs.States.{Tracked}
use Rattle.symbolic_state.specs.Refused.{refusal_of}
use Rattle.symbolic_state.proofs.tracked.TrackedState.taken_row.Goals as goal

pub returns-clause-taken : goal.returns-clause-taken
returns-clause-taken c =
    subst (λ (t : Tracked). Gives refusal_of (formula_of c.row_taken.new.table) c.row_taken.result (taken_formula (in_row (move_leaves t.state)) c.args.f.now)) c.self.view_is c.row_taken.ensures.taken
