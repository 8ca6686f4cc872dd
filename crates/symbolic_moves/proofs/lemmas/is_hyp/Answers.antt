use Rattle.std.proofs.Common.{◌≡◌, List, map, ap, subst, ◌∙◌}
use Rattle.term_trees.specs.declared.term.Term.{Term}
use Rattle.term_trees.specs.declared.term.Formula.{Formula}
use Rattle.term_trees.specs.Leaves.{replaced_formula}
use Rattle.term_trees.specs.Same.{passes, same_formula}
use Rattle.term_logic.specs.Table.{tree_at}
use Rattle.term_logic.specs.Formulas.{formula_of}
use Rattle.outline_rules.specs.Moves.{lemma_leaves}
use Rattle.symbolic_moves.proofs.lemmas.is_hyp.Goals as goal

pub returns-in-Some : goal.returns-in-Some
returns-in-Some c =
    let instance : List Term → Formula = λ ts. replaced_formula (lemma_leaves (map (tree_at ts) c.args.terms.now)) c.args.hyp.now in
    subst (λ ts. c.is_instance.result ≡ same_formula (formula_of ts c.in-Some.fact.now) (instance ts)) c.table.ensures c.is_instance.ensures
    ∙ ap (λ o. passes o (λ g. same_formula g (instance c.args.state.now.terms))) c.in-Some.ensures.fact
