use Rattle.std.proofs.Common.{subst}
use Rattle.wasm_values.specs.Answers.{Gives}
use Rattle.outline_rules.specs.Refusals.{Ruling}
use Rattle.outline_rules.specs.States.{State}
use Rattle.symbolic_state.specs.Assertions.{leaves_in}
use Rattle.symbolic_state.specs.Refused.{refusal_of}
use Rattle.symbolic_renewal.proofs.Assumed.{parts-are}
use Rattle.symbolic_renewal.proofs.assuming.assume_parts.Goals as goal

pub returns-clause-done : goal.returns-clause-done
returns-clause-done c =
    let a = c.args.terms.now in
    subst (λ (r : Ruling State). Gives refusal_of (λ _. c.append_chunks.new.state.state) c.append_chunks.result r)
    (parts-are (leaves_in c.args.state.now a) (leaves_in c.assume_facts.new.state a) c.args.assertion.now c.as_slice.result.now c.as_slice-2.result.now c.args.state.now.state c.assume_facts.new.state.state
    c.as_slice.ensures c.as_slice-2.ensures c.in_ok-assume_facts.ensures.done c.in_ok-assume_facts.ensures.leaves)
    c.append_chunks.ensures.done
