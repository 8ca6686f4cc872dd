use Rattle.std.proofs.Common.{ap, ◌∙◌}
use Rattle.term_trees.specs.Same.{same_formula}
use Rattle.term_trees.specs.Leaves.{replaced_formula}
use Rattle.term_logic.specs.Formulas.{formula_of}
use Rattle.heap_logic.proofs.Symmetric.{same-turned}
use Rattle.symbolic_moves.proofs.lemmas.is_instance.Goals as goal

pub returns : goal.returns
returns c =
    c.is_replaced_formula.ensures.value
    ∙ ap (λ l. same_formula (replaced_formula l c.args.hyp.now) (formula_of c.args.table.now c.args.fact.now)) (c.in_place_of_variables-leaves.ensures.trees c.args.table.now)
    ∙ same-turned _ _
