use Rattle.std.proofs.Common.{Ok, sym, ap, ◌∙◌, arith}
use Rattle.std.proofs.lemmas.Bool.{lt-leb, le-leb}
use Rattle.term_trees.specs.Formulas.{formula_nodes}
use Rattle.term_trees.specs.Leaves.{replaced_formula}
use Rattle.symbolic_state.proofs.Leafing.{small-large, small-there}
use Rattle.symbolic_state.proofs.instances.put_small.Goals as goal

pub returns-then-replaced_formula_nodes-gt-NODES-clause-put : goal.returns-then-replaced_formula_nodes-gt-NODES-clause-put
returns-then-replaced_formula_nodes-gt-NODES-clause-put c =
    let is = ap (λ l. formula_nodes (replaced_formula l c.args.f.now)) (c.in_place_of_variables-leaves.ensures.trees c.args.table.now) in
    small-large _ (lt-leb _ 4096 (omega (arith, is, c.replaced_formula_nodes.ensures, c.if-replaced_formula_nodes-gt-NODES.true)))

pub returns-clause-put : goal.returns-clause-put
returns-clause-put c =
    let same = ap (λ l. replaced_formula l c.args.f.now) (c.in_place_of_variables-leaves.ensures.trees c.args.table.now) in
    let is = ap formula_nodes same in
    small-there _ (le-leb _ 4096 (omega (arith, is, c.replaced_formula_nodes.ensures, c.if-replaced_formula_nodes-gt-NODES.false)))
    ∙ ap (λ f. Ok f) (sym (c.in_ok-put_replaced_formula.ensures.tree ∙ same))
