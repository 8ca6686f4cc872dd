use Rattle.std.proofs.Common.{ap, ◌∙◌}
use Rattle.term_logic.specs.Formulas.{formula_of}
use Rattle.term_trees.specs.Same.{same_formula}
use Rattle.term_trees.proofs.NoLeaves.{formula_kept}
use Rattle.bitvector_rules.proofs.instance.says.Goals as goal

pub returns : goal.returns
returns c =
    c.is_replaced_formula.ensures.value
    ∙ ap (λ f. same_formula f (formula_of c.args.table.now c.args.formula.now)) (formula_kept _ (c.none.ensures.trees c.args.table.now) c.args.tree.now)
