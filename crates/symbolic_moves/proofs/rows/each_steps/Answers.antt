use Rattle.std.proofs.Common.{◌+◌, subst}
use Rattle.wasm_values.specs.Answers.{Gives}
use Rattle.outline_rules.specs.Leaves.{leaves_with, steps_taken}
use Rattle.symbolic_state.specs.Refused.{refusal_of}
use Rattle.symbolic_moves.proofs.rows.each_steps.Goals as goal

pub returns-clause-taken : goal.returns-clause-taken
returns-clause-taken c =
    subst (λ v. Gives refusal_of (λ ss. ss) c.steps_taken.result (steps_taken (leaves_with (v + 2) c.args.state.now.state) c.args.steps.now)) c.variables-variables.ensures c.steps_taken.ensures.taken
