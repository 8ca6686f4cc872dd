use Rattle.std.proofs.Common.{subst, ◌∙◌}
use Rattle.wasm_values.specs.Answers.{Gives}
use Rattle.term_trees.specs.Rows.{at_position}
use Rattle.term_logic.specs.Table.{tree_at}
use Rattle.term_logic.specs.Formulas.{formula_of}
use Rattle.outline_rules.specs.Moves.{any_index, any_item}
use Rattle.symbolic_state.specs.Refused.{refusal_of}
use Rattle.symbolic_state.proofs.Grows.{grown-then, id-kept, formula-kept}
use Rattle.symbolic_moves.proofs.Celled.{derived-over}
use Rattle.symbolic_moves.proofs.rows.row_derived.Goals as goal

pub returns-clause-derived : goal.returns-clause-derived
returns-clause-derived c =
    let old = c.args.state.now in
    let one = c.any_cell.new.state in
    let two = c.at_position.new.self in
    let row = c.args.row.now in
    let more = grown-then old one two c.in_ok-cell.ensures.kept c.in_ok-goal.ensures.kept in
    subst (Gives refusal_of (λ _. tt) c.cell_derived.result)
    (derived-over old.state two.state row.width (tree_at old.terms row.count) (tree_at two.terms row.count)
    (formula_of old.terms row.each) (formula_of two.terms row.each)
    (at_position (formula_of old.terms c.args.each.now) (any_index old.state) (any_item old.state)) (formula_of two.terms c.in_ok-goal.goal)
    c.args.steps.now
    (c.in_ok-goal.ensures.state ∙ c.in_ok-cell.ensures.state)
    (id-kept old two more row.count c.requires.count)
    (formula-kept old two more row.each c.requires.before)
    (c.in_ok-goal.ensures.formula
    ∙ λ j. at_position (formula-kept old one c.in_ok-cell.ensures.kept c.args.each.now c.requires.each j) (c.in_ok-cell.ensures.index j) (c.in_ok-cell.ensures.item j)))
    c.cell_derived.ensures.derived
