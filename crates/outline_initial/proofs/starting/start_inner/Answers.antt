use Rattle.std.proofs.Common.{ap, map, subst, sym, ◌∙◌}
use Rattle.wasm_values.specs.Answers.{Gives}
use Rattle.term_logic.specs.Table.{tree_at}
use Rattle.outline_rules.specs.Refusals.{Ruling, ◌>>=◌}
use Rattle.outline_rules.specs.Entailment.{Entailed}
use Rattle.symbolic_state.specs.Refused.{refusal_of}
use Rattle.symbolic_calls.specs.words.Parts.{left_by}
use Rattle.outline_initial.specs.words.Parts.{resumed}
use Rattle.outline_initial.proofs.starting.start_inner.Goals as goal

pub returns : goal.returns
returns c =
    let s = c.args.state.now.state in
    let next = resumed c.args.setting.now c.args.func c.args.contract.now c.args.initial.now in
    let terms = map (tree_at c.entail_plainly.new.state.terms) c.in_ok-terms.terms in
    subst (λ (said : Ruling (Unit {0})). Gives refusal_of (λ _. tt) c.resume.result said)
    ((λ j. next (c.in_ok-terms.ensures.state j) (left_by terms c.args.initial.now.with.chunks (c.in_ok-terms.ensures.state j)))
    ∙ sym (ap (λ (r : Ruling Entailed). r >>= next s) c.in_ok-terms.ensures.done))
    c.resume.ensures
