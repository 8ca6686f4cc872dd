use Rattle.std.proofs.Common.{map, sym, ◌∙◌}
use Rattle.term_trees.specs.Leaves.{replaced_formula}
use Rattle.term_logic.specs.Table.{tree_at}
use Rattle.outline_rules.specs.Moves.{lemma_leaves}
use Rattle.symbolic_moves.proofs.Lemmata.{none-left}
use Rattle.symbolic_moves.proofs.lemmas.are_hyps.Goals as goal

pub returns-in_default : goal.returns-in_default
returns-in_default c =
    sym (c.loop-k.invariant ∙ none-left c.args.state.now.state c.args.facts.now c.loop-k.k-index (replaced_formula (lemma_leaves (map (tree_at c.args.state.now.terms) c.args.terms.now))) c.loop-k.rest.now c.loop-k-test.true c.in_default.ensures.cases)
