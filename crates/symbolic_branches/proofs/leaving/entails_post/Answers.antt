use Rattle.std.proofs.Common.{◌≡◌, ◌∙◌, map, ap, subst}
use Rattle.std.specs.Option.{option_map}
use Rattle.term_logic.specs.Table.{tree_at}
use Rattle.wasm_values.specs.Answers.{Gives}
use Rattle.symbolic_state.specs.Refused.{refusal_of}
use Rattle.symbolic_branches.specs.words.Parts.{entails_with}
use Rattle.symbolic_branches.proofs.leaving.entails_post.Goals as goal

pub returns-clause-done : goal.returns-clause-done
returns-clause-done c =
    let first : map (tree_at c.args.state.now.terms) c.as_slice.result.now ≡ c.args.state.now.state.args = ap (map (tree_at c.args.state.now.terms)) c.as_slice.ensures ∙ c.in_ok-args.ensures.args in
    let second : map (tree_at c.args.state.now.terms) c.as_slice-2.result.now ≡ c.args.state.now.state.given = ap (map (tree_at c.args.state.now.terms)) c.as_slice-2.ensures ∙ c.in_ok-args.ensures.given in
    let passed_on = option_map (tree_at c.args.state.now.terms) c.args.passed_on in
    subst (λ xs. Gives refusal_of (λ x. tt) c.entails_with.result (entails_with c.args.post.now xs passed_on c.args.state.now.state.given c.args.with.now c.args.state.now.state)) first
    (subst (λ xs. Gives refusal_of (λ x. tt) c.entails_with.result (entails_with c.args.post.now (map (tree_at c.args.state.now.terms) c.as_slice.result.now) passed_on xs c.args.with.now c.args.state.now.state)) second c.entails_with.ensures.done)
