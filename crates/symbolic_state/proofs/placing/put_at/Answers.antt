use Rattle.std.proofs.Common.{◌≡◌, IfOk, subst}
use Rattle.term_trees.specs.Leaves.{Leaves, replaced_formula}
use Rattle.term_logic.specs.Formulas.{formula_of}
use Rattle.symbolic_state.proofs.placing.put_at.Goals as goal

pub returns-clause-formula : goal.returns-clause-formula
returns-clause-formula c =
    subst (λ (l : Leaves). IfOk c.put_formula.result (λ f. formula_of c.put_formula.new.table f ≡ replaced_formula l (formula_of c.args.table.now c.args.each.now)))
    c.cell_leaves-leaves.ensures.trees c.put_formula.ensures.formula
