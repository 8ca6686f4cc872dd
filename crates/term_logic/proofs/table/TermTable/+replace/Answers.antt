use Rattle.std.proofs.Common.{◌≡◌, [], ◌∷◌, length, IfOk, arith, refl, sym, subst}
use Rattle.term_logic.specs.Table.{tree_at}
use Rattle.term_logic.specs.Leaves.{leaves_of}
use Rattle.term_trees.proofs.Truths.{and_true}
use Rattle.term_logic.proofs.Layers.{stays, nodes-over, nodes-replaced, sound-over, cell-tree, cell-within, cell-small, cell-sound}
use Rattle.term_logic.proofs.table.TermTable.+replace.Goals as goal

pub put_replaced-put_replaced-requires : goal.put_replaced-put_replaced-requires
put_replaced-put_replaced-requires t c =
    let whole = c.args.t.now in
    let ls = leaves_of c.args.self.now c.args.leaves.now in
    let st = stays c.args.self.now c.args.leaves.now whole (sym c.in-None.ensures) in
    let part = sound-over whole _ c.in-One.ensures c.requires.well_formed in
    (omega (arith, c.decreases, nodes-over whole _ c.in-One.ensures), (c.requires.leaves, (omega (arith, c.requires.small, nodes-replaced whole _ c.in-One.ensures ls st), part.0)))

pub put_replaced-put_two_replaced-requires : goal.put_replaced-put_two_replaced-requires
put_replaced-put_two_replaced-requires t c =
    let whole = c.args.t.now in
    let ls = leaves_of c.args.self.now c.args.leaves.now in
    let st = stays c.args.self.now c.args.leaves.now whole (sym c.in-None.ensures) in
    let part = sound-over whole _ c.in-Two.ensures c.requires.well_formed in
    (omega (arith, c.decreases, nodes-over whole _ c.in-Two.ensures), (c.requires.leaves, (omega (arith, c.requires.small, nodes-replaced whole _ c.in-Two.ensures ls st), and_true _ _ part.0 part.1.0)))

pub put_replaced-returns-in-Leaf-clause-tree : goal.put_replaced-returns-in-Leaf-clause-tree
put_replaced-returns-in-Leaf-clause-tree t c =
    let whole = c.args.t.now in
    let ls = leaves_of c.args.self.now c.args.leaves.now in
    let st = stays c.args.self.now c.args.leaves.now whole (sym c.in-None.ensures) in
    let is = cell-tree whole [] c.in-Leaf.ensures.0 c.in-Leaf.cell 0 0 c.in-Leaf.ensures.1 ls st c.args.self.now refl in
    subst (λ u. IfOk c.intern.result (λ id. tree_at c.intern.new.self id ≡ u)) is c.intern.ensures.tree

pub put_replaced-returns-in_ok-a-in-One-clause-tree : goal.put_replaced-returns-in_ok-a-in-One-clause-tree
put_replaced-returns-in_ok-a-in-One-clause-tree t c =
    let whole = c.args.t.now in
    let ls = leaves_of c.args.self.now c.args.leaves.now in
    let st = stays c.args.self.now c.args.leaves.now whole (sym c.in-None.ensures) in
    let is = cell-tree whole _ c.in-One.ensures c.cell_over.result c.in_ok-a-in-One.a c.in_ok-a-in-One.a c.cell_over.ensures ls st c.put_replaced.new.self (λ j. c.in_ok-a-in-One.ensures.tree j ∷ []) in
    subst (λ u. IfOk c.intern-in-One.result (λ id. tree_at c.intern-in-One.new.self id ≡ u)) is c.intern-in-One.ensures.tree

pub put_replaced-returns-in_ok-a-in-Two-clause-tree : goal.put_replaced-returns-in_ok-a-in-Two-clause-tree
put_replaced-returns-in_ok-a-in-Two-clause-tree t c =
    let whole = c.args.t.now in
    let ls = leaves_of c.args.self.now c.args.leaves.now in
    let st = stays c.args.self.now c.args.leaves.now whole (sym c.in-None.ensures) in
    let is = cell-tree whole _ c.in-Two.ensures c.cell_over-in-Two.result c.in_ok-a-in-Two.a c.in_ok-a-in-Two.b c.cell_over-in-Two.ensures ls st c.put_two_replaced.new.self (λ j. c.in_ok-a-in-Two.ensures.first j ∷ c.in_ok-a-in-Two.ensures.second j ∷ []) in
    subst (λ u. IfOk c.intern-in-Two.result (λ id. tree_at c.intern-in-Two.new.self id ≡ u)) is c.intern-in-Two.ensures.tree

pub put_replaced-intern-requires-clause-within : goal.put_replaced-intern-requires-clause-within
put_replaced-intern-requires-clause-within t c =
    cell-within c.args.t.now [] c.in-Leaf.ensures.0 c.in-Leaf.cell 0 0 c.in-Leaf.ensures.1 (length c.args.self.now) tt

pub put_replaced-intern-requires-clause-small : goal.put_replaced-intern-requires-clause-small
put_replaced-intern-requires-clause-small t c =
    let whole = c.args.t.now in
    let ls = leaves_of c.args.self.now c.args.leaves.now in
    let st = stays c.args.self.now c.args.leaves.now whole (sym c.in-None.ensures) in
    cell-small whole [] c.in-Leaf.ensures.0 c.in-Leaf.cell 0 0 c.in-Leaf.ensures.1 ls st c.args.self.now refl c.requires.small

pub put_replaced-intern-requires-clause-well_formed : goal.put_replaced-intern-requires-clause-well_formed
put_replaced-intern-requires-clause-well_formed t c =
    cell-sound c.args.t.now [] c.in-Leaf.ensures.0 c.in-Leaf.cell 0 0 c.in-Leaf.ensures.1 c.requires.well_formed

pub put_replaced-intern-requires-in-One-clause-within : goal.put_replaced-intern-requires-in-One-clause-within
put_replaced-intern-requires-in-One-clause-within t c =
    let at = c.in_ok-a-in-One.a in
    cell-within c.args.t.now _ c.in-One.ensures c.cell_over.result at at c.cell_over.ensures (length c.put_replaced.new.self) (c.in_ok-a-in-One.ensures.within, tt)

pub put_replaced-intern-requires-in-One-clause-small : goal.put_replaced-intern-requires-in-One-clause-small
put_replaced-intern-requires-in-One-clause-small t c =
    let whole = c.args.t.now in
    let at = c.in_ok-a-in-One.a in
    let ls = leaves_of c.args.self.now c.args.leaves.now in
    let st = stays c.args.self.now c.args.leaves.now whole (sym c.in-None.ensures) in
    cell-small whole _ c.in-One.ensures c.cell_over.result at at c.cell_over.ensures ls st c.put_replaced.new.self (λ j. c.in_ok-a-in-One.ensures.tree j ∷ []) c.requires.small

pub put_replaced-intern-requires-in-One-clause-well_formed : goal.put_replaced-intern-requires-in-One-clause-well_formed
put_replaced-intern-requires-in-One-clause-well_formed t c =
    let at = c.in_ok-a-in-One.a in
    cell-sound c.args.t.now _ c.in-One.ensures c.cell_over.result at at c.cell_over.ensures c.requires.well_formed

pub put_replaced-intern-requires-in-Two-clause-within : goal.put_replaced-intern-requires-in-Two-clause-within
put_replaced-intern-requires-in-Two-clause-within t c =
    let both = c.in_ok-a-in-Two.ensures.within in
    cell-within c.args.t.now _ c.in-Two.ensures c.cell_over-in-Two.result c.in_ok-a-in-Two.a c.in_ok-a-in-Two.b c.cell_over-in-Two.ensures (length c.put_two_replaced.new.self) (both.0, (both.1, tt))

pub put_replaced-intern-requires-in-Two-clause-small : goal.put_replaced-intern-requires-in-Two-clause-small
put_replaced-intern-requires-in-Two-clause-small t c =
    let whole = c.args.t.now in
    let ls = leaves_of c.args.self.now c.args.leaves.now in
    let st = stays c.args.self.now c.args.leaves.now whole (sym c.in-None.ensures) in
    cell-small whole _ c.in-Two.ensures c.cell_over-in-Two.result c.in_ok-a-in-Two.a c.in_ok-a-in-Two.b c.cell_over-in-Two.ensures ls st c.put_two_replaced.new.self (λ j. c.in_ok-a-in-Two.ensures.first j ∷ c.in_ok-a-in-Two.ensures.second j ∷ []) c.requires.small

pub put_replaced-intern-requires-in-Two-clause-well_formed : goal.put_replaced-intern-requires-in-Two-clause-well_formed
put_replaced-intern-requires-in-Two-clause-well_formed t c =
    cell-sound c.args.t.now _ c.in-Two.ensures c.cell_over-in-Two.result c.in_ok-a-in-Two.a c.in_ok-a-in-Two.b c.cell_over-in-Two.ensures c.requires.well_formed
