use Rattle.std.proofs.Common.{◌≡◌, IfOk, subst}
use Rattle.term_trees.specs.Rows.{at_position}
use Rattle.term_logic.specs.Table.{tree_at}
use Rattle.term_logic.specs.Formulas.{formula_of}
use Rattle.symbolic_state.specs.States.{Tracked}
use Rattle.symbolic_state.proofs.tracked.TrackedState.at_position.Goals as goal

pub returns-clause-formula : goal.returns-clause-formula
returns-clause-formula c =
    subst (λ (t : Tracked). IfOk c.put_at.result (λ f. formula_of c.put_at.new.table f ≡ at_position (formula_of t.terms c.args.each.now) (tree_at t.terms c.args.index) (tree_at t.terms c.args.item)))
    c.self.view_is c.put_at.ensures.formula
