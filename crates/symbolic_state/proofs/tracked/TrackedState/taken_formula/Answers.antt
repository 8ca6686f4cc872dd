use Rattle.std.proofs.Common.{ℕ, subst}
use Rattle.wasm_values.specs.Answers.{Gives}
use Rattle.term_logic.specs.Formulas.{formula_of}
use Rattle.outline_rules.specs.Leaves.{leaves_with, taken_formula}
use Rattle.symbolic_state.specs.Refused.{refusal_of}
use Rattle.symbolic_state.proofs.tracked.TrackedState.taken_formula.Goals as goal

pub returns-clause-taken : goal.returns-clause-taken
returns-clause-taken c =
    subst (λ (n : ℕ). Gives refusal_of (formula_of c.taken_formula_with.new.self.terms) c.taken_formula_with.result (taken_formula (leaves_with n c.args.self.now.state) c.args.f.now))
    c.variables-variables.ensures c.taken_formula_with.ensures.taken
