use Rattle.std.proofs.Common.{[], subst}
use Rattle.wasm_values.specs.Answers.{Gives}
use Rattle.symbolic_state.specs.Refused.{refusal_of}
use Rattle.outline_rules.specs.Branches.{passed}
use Rattle.symbolic_branches.specs.words.Parts.{entails_with}
use Rattle.symbolic_branches.proofs.labels.reaches.Goals as goal

pub returns-clause-done : goal.returns-clause-done
returns-clause-done c =
    subst (λ s. Gives refusal_of (λ x. tt) c.entails_with.result (entails_with c.args.label.now.assertion.now [] (passed c.args.label.now.takes c.args.state.now.state) [] c.args.with.now s)) c.in_ok-passed_on.ensures.state
    (subst (λ r. Gives refusal_of (λ x. tt) c.entails_with.result (entails_with c.args.label.now.assertion.now [] r [] c.args.with.now c.passed.new.state.state)) c.in_ok-passed_on.ensures.term c.entails_with.ensures.done)
