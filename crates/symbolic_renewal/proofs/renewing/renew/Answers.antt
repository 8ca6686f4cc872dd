use Rattle.std.proofs.Common.{subst}
use Rattle.wasm_values.specs.Answers.{Gives}
use Rattle.outline_rules.specs.Refusals.{Ruling}
use Rattle.outline_rules.specs.States.{State}
use Rattle.symbolic_state.specs.Refused.{refusal_of}
use Rattle.symbolic_renewal.proofs.Renewals.{renewed-then}
use Rattle.symbolic_renewal.proofs.renewing.renew.Goals as goal

pub returns-clause-done : goal.returns-clause-done
returns-clause-done c =
    subst (λ (r : Ruling State). Gives refusal_of (λ _. c.assume.new.state.state) c.assume.result r)
    (renewed-then c.args.state.now c.renew_slots.new.state c.args.renewing.now c.args.assertion.now c.in_ok-answer.answer c.requires.within c.in_ok-answer.ensures.kept c.in_ok-answer.ensures.done)
    c.assume.ensures.done
