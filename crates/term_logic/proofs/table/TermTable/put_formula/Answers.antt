use Rattle.std.proofs.Common.{◌≡◌, ◌≤◌, IfOk, sym, subst}
use Rattle.term_trees.specs.Formulas.{formula_nodes}
use Rattle.term_logic.specs.Formulas.{formula_of}
use Rattle.term_trees.proofs.NoLeaves.{formula_kept}
use Rattle.term_logic.proofs.table.TermTable.put_formula.Goals as goal

pub put_replaced_formula-requires-clause-small : goal.put_replaced_formula-requires-clause-small
put_replaced_formula-requires-clause-small c =
    subst (λ u. formula_nodes u ≤ 4096) (sym (formula_kept _ (c.none.ensures.trees c.args.self.now) c.args.f.now)) c.requires.small

pub returns-clause-tree : goal.returns-clause-tree
returns-clause-tree c =
    subst (λ u. IfOk c.put_replaced_formula.result (λ g. formula_of c.put_replaced_formula.new.self g ≡ u)) (formula_kept _ (c.none.ensures.trees c.args.self.now) c.args.f.now) c.put_replaced_formula.ensures.tree
