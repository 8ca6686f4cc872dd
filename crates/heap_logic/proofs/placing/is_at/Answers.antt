use Rattle.std.proofs.Common.{◌∙◌}
use Rattle.term_trees.specs.Leaves.{replaced_formula}
use Rattle.term_trees.specs.Same.{same_formula}
use Rattle.term_logic.specs.Formulas.{formula_of}
use Rattle.heap_logic.proofs.Symmetric.{same-turned}
use Rattle.heap_logic.proofs.placing.is_at.Goals as goal

pub returns : goal.returns
returns c =
    c.is_replaced_formula.ensures.value
    ∙ (λ j. same_formula (replaced_formula (c.cell_leaves-leaves.ensures.trees j) c.args.tree.now) (formula_of c.args.table.now c.args.f.now))
    ∙ same-turned _ _
