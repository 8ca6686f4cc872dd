use Rattle.std.proofs.Common.{map, ap, subst, ◌∙◌}
use Rattle.wasm_values.specs.Answers.{Gives}
use Rattle.term_logic.specs.Table.{tree_at}
use Rattle.outline_rules.specs.Refusals.{Ruling}
use Rattle.outline_rules.specs.States.{State}
use Rattle.symbolic_state.specs.Refused.{refusal_of}
use Rattle.symbolic_renewal.proofs.Assumed.{assumed-is}
use Rattle.symbolic_renewal.proofs.assuming.assume.Goals as goal

pub returns-clause-done : goal.returns-clause-done
returns-clause-done c =
    subst (λ (r : Ruling State). Gives refusal_of (λ _. c.assume_parts.new.state.state) c.assume_parts.result r)
    (assumed-is c.args.state.now c.own_added.new.state c.args.assertion.now c.args.fixed.now c.args.args.now c.as_slice.result.now c.args.answer c.requires.args c.requires.answer c.in_ok-own.ensures.kept c.in_ok-own.ensures.done
    (ap (map (tree_at c.own_added.new.state.terms)) c.as_slice.ensures ∙ c.in_ok-own.ensures.terms))
    c.assume_parts.ensures.done
