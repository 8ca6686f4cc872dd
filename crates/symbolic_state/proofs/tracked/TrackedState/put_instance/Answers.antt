use Rattle.std.proofs.Common.{map, subst}
use Rattle.wasm_values.specs.Answers.{Gives}
use Rattle.term_trees.specs.Leaves.{replaced_formula}
use Rattle.term_logic.specs.Table.{tree_at}
use Rattle.term_logic.specs.Formulas.{formula_of}
use Rattle.outline_rules.specs.Moves.{lemma_leaves}
use Rattle.symbolic_state.specs.Refused.{refusal_of}
use Rattle.symbolic_state.specs.States.{Tracked}
use Rattle.symbolic_state.specs.words.Instances.{small_formula}
use Rattle.symbolic_state.proofs.tracked.TrackedState.put_instance.Goals as goal

pub returns-clause-put : goal.returns-clause-put
returns-clause-put c =
    subst (λ (t : Tracked). Gives refusal_of (formula_of c.put_small.new.table) c.put_small.result (small_formula (replaced_formula (lemma_leaves (map (tree_at t.terms) c.args.terms.now)) c.args.f.now)))
    c.self.view_is c.put_small.ensures.put
