use Rattle.std.proofs.Common.{◌≡◌, ◌≤◌, IfOk, sym, subst}
use Rattle.term_trees.specs.Terms.{node_count}
use Rattle.term_logic.specs.Table.{tree_at}
use Rattle.term_trees.proofs.NoLeaves.{term_kept}
use Rattle.term_logic.proofs.table.TermTable.put_tree.Goals as goal

pub put_replaced-requires-clause-small : goal.put_replaced-requires-clause-small
put_replaced-requires-clause-small c =
    subst (λ u. node_count u ≤ 4096) (sym (term_kept _ (c.none.ensures.trees c.args.self.now) c.args.t.now)) c.requires.small

pub returns-clause-tree : goal.returns-clause-tree
returns-clause-tree c =
    subst (λ u. IfOk c.put_replaced.result (λ id. tree_at c.put_replaced.new.self id ≡ u)) (term_kept _ (c.none.ensures.trees c.args.self.now) c.args.t.now) c.put_replaced.ensures.tree
