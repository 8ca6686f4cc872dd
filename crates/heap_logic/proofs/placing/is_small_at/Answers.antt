use Rattle.std.proofs.Common.{ap, ◌∙◌, arith}
use Rattle.std.specs.Prelude.{nat_le}
use Rattle.term_trees.specs.Formulas.{formula_nodes}
use Rattle.term_trees.specs.Leaves.{replaced_formula}
use Rattle.term_logic.specs.Formulas.{formula_of}
use Rattle.heap_logic.proofs.Takings.{capped-test}
use Rattle.heap_logic.proofs.placing.is_small_at.Goals as goal

pub returns : goal.returns
returns c =
    ap (λ n. nat_le n 4096) c.replaced_id_formula_nodes.ensures ∙ capped-test _ _ 4096 (omega arith)
    ∙ ap (λ l. nat_le (formula_nodes (replaced_formula l (formula_of c.args.table.now c.args.each.now))) 4096) c.cell_leaves-leaves.ensures.trees
