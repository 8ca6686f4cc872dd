use Rattle.std.proofs.Common.{sym, map, slice_get}
use Rattle.term_trees.specs.declared.term.Term.TheVariants as term
use Rattle.term_logic.specs.Table.{tree_at}
use Rattle.term_logic.specs.Formulas.{formula_of}
use Rattle.outline_rules.specs.States.{number}
use Rattle.heap_logic.proofs.Compared.{equation-is, sides-none, sides-then, sides-else}
use Rattle.heap_logic.proofs.facts.says_row_end.Goals as goal

pub returns-in-None : goal.returns-in-None
returns-in-None c =
    let ts = c.args.table.now in
    let o = slice_get (map (formula_of ts) c.args.heap.now.facts) c.args.fact in
    sides-none _ _ (tree_at ts c.args.end) (term.Add (tree_at ts c.args.at) (term.Mul (number c.args.width) (tree_at ts c.args.count))) (equation-is o (tree_at ts c.args.end) (term.Add (tree_at ts c.args.at) (term.Mul (number c.args.width) (tree_at ts c.args.count)))) (sym c.in-None.ensures.sides)

pub returns-then-same_tree : goal.returns-then-same_tree
returns-then-same_tree c =
    let ts = c.args.table.now in
    let o = slice_get (map (formula_of ts) c.args.heap.now.facts) c.args.fact in
    sides-then _ _ (tree_at ts c.args.end) (term.Add (tree_at ts c.args.at) (term.Mul (number c.args.width) (tree_at ts c.args.count))) (equation-is o (tree_at ts c.args.end) (term.Add (tree_at ts c.args.at) (term.Mul (number c.args.width) (tree_at ts c.args.count)))) _ _ (sym c.in-Some.ensures.sides) _ c.same_tree.ensures.value c.if-same_tree.true _ c.is_row_end.ensures

pub returns-else-same_tree : goal.returns-else-same_tree
returns-else-same_tree c =
    let ts = c.args.table.now in
    let o = slice_get (map (formula_of ts) c.args.heap.now.facts) c.args.fact in
    sides-else _ _ (tree_at ts c.args.end) (term.Add (tree_at ts c.args.at) (term.Mul (number c.args.width) (tree_at ts c.args.count))) (equation-is o (tree_at ts c.args.end) (term.Add (tree_at ts c.args.at) (term.Mul (number c.args.width) (tree_at ts c.args.count)))) _ _ (sym c.in-Some.ensures.sides) _ c.same_tree.ensures.value c.if-same_tree.false
