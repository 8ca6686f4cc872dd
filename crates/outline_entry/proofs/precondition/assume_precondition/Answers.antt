use Rattle.std.proofs.Common.{[], None, subst}
use Rattle.wasm_values.specs.Answers.{Gives}
use Rattle.outline_rules.specs.Refusals.{Ruling}
use Rattle.outline_rules.specs.States.{State}
use Rattle.outline_rules.specs.Renewal.{assumed}
use Rattle.symbolic_state.specs.Refused.{refusal_of}
use Rattle.outline_entry.proofs.precondition.assume_precondition.Goals as goal

pub returns : goal.returns
returns c =
    subst (λ (said : Ruling State). Gives refusal_of (λ _. c.assume_for.new.state.state) c.assume_for.result said)
    (λ j. assumed (c.precondition_by-assertion.ensures.assertion j) [] (c.in_ok-args.ensures.args j) None c.args.state.now.state)
    c.assume_for.ensures
