use Rattle.std.proofs.Common.{sym, map, slice_get}
use Rattle.term_logic.specs.Table.{tree_at}
use Rattle.term_logic.specs.Formulas.{formula_of}
use Rattle.outline_rules.specs.States.{number}
use Rattle.heap_logic.proofs.Compared.{bound-is, sides-none, sides-then, sides-else}
use Rattle.heap_logic.proofs.facts.says_natural.Goals as goal

pub returns-in-None : goal.returns-in-None
returns-in-None c =
    let ts = c.args.table.now in
    let o = slice_get (map (formula_of ts) c.args.heap.now.facts) c.args.fact in
    sides-none _ _ (number 0) (tree_at ts c.args.a) (bound-is o (number 0) (tree_at ts c.args.a)) (sym c.in-None.ensures.sides)

pub returns-then-is_number : goal.returns-then-is_number
returns-then-is_number c =
    let ts = c.args.table.now in
    let o = slice_get (map (formula_of ts) c.args.heap.now.facts) c.args.fact in
    sides-then _ _ (number 0) (tree_at ts c.args.a) (bound-is o (number 0) (tree_at ts c.args.a)) _ _ (sym c.in-Some.ensures.sides) _ c.is_number.ensures c.if-is_number.true _ c.same_tree.ensures.value

pub returns-else-is_number : goal.returns-else-is_number
returns-else-is_number c =
    let ts = c.args.table.now in
    let o = slice_get (map (formula_of ts) c.args.heap.now.facts) c.args.fact in
    sides-else _ _ (number 0) (tree_at ts c.args.a) (bound-is o (number 0) (tree_at ts c.args.a)) _ _ (sym c.in-Some.ensures.sides) _ c.is_number.ensures c.if-is_number.false
