use Rattle.std.proofs.Common.{map, ap, subst, ◌∙◌}
use Rattle.std.specs.Prelude.{option_map}
use Rattle.std.proofs.lemmas.List.{map-append}
use Rattle.wasm_values.specs.Answers.{Gives}
use Rattle.term_logic.specs.Table.{tree_at}
use Rattle.outline_rules.specs.Entailment.{assertion_leaves}
use Rattle.symbolic_state.specs.Refused.{refusal_of}
use Rattle.symbolic_assertions.specs.words.Stages.{parts_wanted}
use Rattle.symbolic_assertions.proofs.stages.parts_of.Goals as goal

pub returns : goal.returns
returns c =
    let s = c.args.state.now in
    let w = c.args.wanted.now in
    let own = ap (map (tree_at s.terms)) (c.as_slice.ensures ∙ c.in_ok-own.ensures) ∙ map-append (tree_at s.terms) w.fixed.now c.args.terms.now in
    let leaves = c.assertion_slots-leaves.ensures.trees ∙ ap (λ us. assertion_leaves s.state us (map (tree_at s.terms) w.args.now) (option_map (tree_at s.terms) w.result)) own in
    subst (λ l. Gives refusal_of (λ _. tt) c.parts_wanted.result (parts_wanted s.state l w.assertion.now c.args.with.now)) leaves c.parts_wanted.ensures
