use Rattle.std.proofs.Common.{◌≡◌, map, IfOk, subst, ◌∙◌}
use Rattle.term_trees.specs.Rows.{at_position}
use Rattle.term_logic.specs.Table.{tree_at}
use Rattle.term_logic.specs.Formulas.{formula_of}
use Rattle.symbolic_state.proofs.Grows.{grown-then, id-kept, formula-kept}
use Rattle.symbolic_moves.proofs.Celled.{hyps-are}
use Rattle.symbolic_moves.proofs.rows.row_hyps.Goals as goal

pub returns-clause-hyps : goal.returns-clause-hyps
returns-clause-hyps c =
    let old = c.args.state.now in
    let one = c.at_position.new.self in
    let two = c.range_of.new.state in
    let row = c.args.row.now in
    let more = grown-then old one two c.in_ok-says.ensures.kept c.in_ok-range.ensures.kept in
    subst (λ fs. IfOk c.hyps_of.result (λ hs. map (formula_of two.terms) hs ≡ fs))
    (hyps-are old.state row.width (tree_at old.terms row.count) (formula_of old.terms row.each)
    (tree_at two.terms c.args.cell.0) (tree_at two.terms c.args.cell.1) (tree_at two.terms row.count)
    (tree_at two.terms c.in_ok-range.range.0) (tree_at two.terms c.in_ok-range.range.1) (formula_of two.terms c.in_ok-says.says)
    (id-kept old two more c.args.cell.0 c.requires.cell.0 ∙ c.requires.index)
    (id-kept old two more c.args.cell.1 c.requires.cell.1 ∙ c.requires.item)
    (id-kept old two more row.count c.requires.count)
    c.in_ok-range.ensures.least
    c.in_ok-range.ensures.greatest
    (formula-kept one two c.in_ok-range.ensures.kept c.in_ok-says.says c.in_ok-says.ensures.within
    ∙ c.in_ok-says.ensures.formula
    ∙ λ j. at_position (formula_of old.terms row.each) (c.requires.index j) (c.requires.item j)))
    c.hyps_of.ensures.hyps
