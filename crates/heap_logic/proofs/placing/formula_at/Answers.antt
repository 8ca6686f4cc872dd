use Rattle.std.proofs.Common.{◌≡◌, ◌≤◌, IfOk, sym, subst}
use Rattle.std.proofs.lemmas.Bool.{leb-true}
use Rattle.term_trees.specs.Formulas.{formula_nodes}
use Rattle.term_trees.specs.Leaves.{replaced_formula}
use Rattle.term_logic.specs.Formulas.{formula_of}
use Rattle.heap_logic.proofs.placing.formula_at.Goals as goal

pub put_replaced_id_formula-requires-clause-small : goal.put_replaced_id_formula-requires-clause-small
put_replaced_id_formula-requires-clause-small c =
    subst (λ l. formula_nodes (replaced_formula l (formula_of c.args.table.now c.args.each.now)) ≤ 4096) (sym c.cell_leaves-leaves.ensures.trees) (leb-true _ 4096 c.requires.small)

pub returns-clause-formula : goal.returns-clause-formula
returns-clause-formula c =
    subst (λ l. IfOk c.put_replaced_id_formula.result (λ f. formula_of c.put_replaced_id_formula.new.self f ≡ replaced_formula l (formula_of c.args.table.now c.args.each.now))) c.cell_leaves-leaves.ensures.trees
    c.put_replaced_id_formula.ensures.tree
