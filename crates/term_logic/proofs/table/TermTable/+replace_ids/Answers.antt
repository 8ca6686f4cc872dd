use Rattle.std.proofs.Common.{◌≡◌, [], ◌∷◌, IfOk, arith, sym, subst, ◌∙◌}
use Rattle.term_logic.specs.Table.{tree_at}
use Rattle.term_logic.specs.Leaves.{leaves_of}
use Rattle.term_trees.specs.Leaves.{replaced}
use Rattle.term_logic.proofs.Layers.{given-tree, stays, nodes-replaced, cell-tree, cell-small}
use Rattle.term_logic.proofs.IdLayers.{cell-over, leaf-stays}
use Rattle.term_logic.proofs.table.TermTable.+replace_ids.Goals as goal

pub put_replaced_id-returns-in-Some-clause-tree : goal.put_replaced_id-returns-in-Some-clause-tree
put_replaced_id-returns-in-Some-clause-tree t c =
    given-tree c.args.self.now c.args.leaves.now (tree_at c.args.self.now c.args.id) c.in-Some.given (sym c.in-Some.ensures)

pub put_replaced_id-put_replaced_id-requires : goal.put_replaced_id-put_replaced_id-requires
put_replaced_id-put_replaced_id-requires t c =
    let whole = tree_at c.args.self.now c.args.id in
    let ls = leaves_of c.args.self.now c.args.leaves.now in
    let st = stays c.args.self.now c.args.leaves.now whole (sym c.in-None.ensures) in
    (omega (arith, c.decreases, c.in-One.ensures.earlier), (omega (arith, c.requires.within, c.in-One.ensures.earlier), (c.requires.leaves, omega (arith, c.requires.small, nodes-replaced whole _ c.in-One.ensures.parts ls st))))

pub put_replaced_id-put_two_replaced_ids-requires : goal.put_replaced_id-put_two_replaced_ids-requires
put_replaced_id-put_two_replaced_ids-requires t c =
    let whole = tree_at c.args.self.now c.args.id in
    let ls = leaves_of c.args.self.now c.args.leaves.now in
    let st = stays c.args.self.now c.args.leaves.now whole (sym c.in-None.ensures) in
    let low = c.in-Two.ensures.earlier in
    (omega (arith, c.decreases, low.0, low.1), (omega (arith, c.requires.within, low.0), (omega (arith, c.requires.within, low.1), (c.requires.leaves, omega (arith, c.requires.small, nodes-replaced whole _ c.in-Two.ensures.parts ls st)))))

pub put_replaced_id-returns-in-Leaf-clause-tree : goal.put_replaced_id-returns-in-Leaf-clause-tree
put_replaced_id-returns-in-Leaf-clause-tree t c =
    let whole = tree_at c.args.self.now c.args.id in
    let ls = leaves_of c.args.self.now c.args.leaves.now in
    sym (stays c.args.self.now c.args.leaves.now whole (sym c.in-None.ensures) ∙ leaf-stays (replaced ls) whole c.in-Leaf.ensures.parts)

pub put_replaced_id-intern-requires-clause-small : goal.put_replaced_id-intern-requires-clause-small
put_replaced_id-intern-requires-clause-small t c =
    let ts = c.args.self.now in
    let whole = tree_at ts c.args.id in
    let at = c.in_ok-a-in-One.a in
    let st = stays ts c.args.leaves.now whole (sym c.in-None.ensures) in
    let is = cell-over ts whole c.cell.result.now c.over.result at at c.cell.ensures.layer c.over.ensures in
    cell-small whole _ c.in-One.ensures.parts c.over.result at at is (leaves_of ts c.args.leaves.now) st c.put_replaced_id.new.self (λ j. c.in_ok-a-in-One.ensures.tree j ∷ []) c.requires.small

pub put_replaced_id-returns-in_ok-a-in-One-clause-tree : goal.put_replaced_id-returns-in_ok-a-in-One-clause-tree
put_replaced_id-returns-in_ok-a-in-One-clause-tree t c =
    let ts = c.args.self.now in
    let whole = tree_at ts c.args.id in
    let at = c.in_ok-a-in-One.a in
    let st = stays ts c.args.leaves.now whole (sym c.in-None.ensures) in
    let over = cell-over ts whole c.cell.result.now c.over.result at at c.cell.ensures.layer c.over.ensures in
    let is = cell-tree whole _ c.in-One.ensures.parts c.over.result at at over (leaves_of ts c.args.leaves.now) st c.put_replaced_id.new.self (λ j. c.in_ok-a-in-One.ensures.tree j ∷ []) in
    subst (λ u. IfOk c.intern.result (λ i. tree_at c.intern.new.self i ≡ u)) is c.intern.ensures.tree

pub put_replaced_id-intern-requires-in-Two-clause-small : goal.put_replaced_id-intern-requires-in-Two-clause-small
put_replaced_id-intern-requires-in-Two-clause-small t c =
    let ts = c.args.self.now in
    let whole = tree_at ts c.args.id in
    let st = stays ts c.args.leaves.now whole (sym c.in-None.ensures) in
    let is = cell-over ts whole c.cell.result.now c.over-in-Two.result c.in_ok-a-in-Two.a c.in_ok-a-in-Two.b c.cell.ensures.layer c.over-in-Two.ensures in
    cell-small whole _ c.in-Two.ensures.parts c.over-in-Two.result c.in_ok-a-in-Two.a c.in_ok-a-in-Two.b is (leaves_of ts c.args.leaves.now) st c.put_two_replaced_ids.new.self
    (λ j. c.in_ok-a-in-Two.ensures.first j ∷ c.in_ok-a-in-Two.ensures.second j ∷ []) c.requires.small

pub put_replaced_id-returns-in_ok-a-in-Two-clause-tree : goal.put_replaced_id-returns-in_ok-a-in-Two-clause-tree
put_replaced_id-returns-in_ok-a-in-Two-clause-tree t c =
    let ts = c.args.self.now in
    let whole = tree_at ts c.args.id in
    let st = stays ts c.args.leaves.now whole (sym c.in-None.ensures) in
    let over = cell-over ts whole c.cell.result.now c.over-in-Two.result c.in_ok-a-in-Two.a c.in_ok-a-in-Two.b c.cell.ensures.layer c.over-in-Two.ensures in
    let is = cell-tree whole _ c.in-Two.ensures.parts c.over-in-Two.result c.in_ok-a-in-Two.a c.in_ok-a-in-Two.b over (leaves_of ts c.args.leaves.now) st c.put_two_replaced_ids.new.self
    (λ j. c.in_ok-a-in-Two.ensures.first j ∷ c.in_ok-a-in-Two.ensures.second j ∷ []) in
    subst (λ u. IfOk c.intern-in-Two.result (λ i. tree_at c.intern-in-Two.new.self i ≡ u)) is c.intern-in-Two.ensures.tree
