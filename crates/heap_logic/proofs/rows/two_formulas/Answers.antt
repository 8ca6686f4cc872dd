use Rattle.std.proofs.Common.{sym, subst}
use Rattle.std.specs.Prelude.{nat_le, IsTrue}
use Rattle.term_trees.specs.Formulas.{formula_nodes}
use Rattle.term_trees.specs.Rows.{at_position}
use Rattle.heap_logic.proofs.rows.two_formulas.Goals as goal

pub formula_at-requires-2-clause-small : goal.formula_at-requires-2-clause-small
formula_at-requires-2-clause-small c =
    let more = c.in_ok-rest.ensures.kept in
    subst (λ f. IsTrue (nat_le (formula_nodes f) 4096))
    (λ j. at_position (sym (more.formula c.args.each.now c.requires.each) j) (sym (more.kept c.args.cell.0 c.requires.cell.0) j) (sym (more.kept c.args.cell.1 c.requires.cell.1) j))
    c.requires.second
