use Rattle.std.proofs.Common.{sym, subst, ◌∙◌}
use Rattle.wasm_values.specs.Answers.{Gives}
use Rattle.term_logic.specs.Table.{tree_at}
use Rattle.term_logic.specs.Formulas.{formula_of}
use Rattle.heap_logic.specs.Faults.{refusal_of}
use Rattle.heap_logic.specs.words.Effects.{bare, effect_of}
use Rattle.heap_logic.specs.words.Shifts.{picked_at}
use Rattle.heap_logic.proofs.Growing.{extends-then}
use Rattle.heap_logic.proofs.Picking.{pick-goes}
use Rattle.heap_logic.proofs.rows.pick.Goals as goal

pub returns-clause-planned : goal.returns-clause-planned
returns-clause-planned c =
    let ts = c.args.table.now in
    let first = c.in_ok-cell.ensures.kept in
    let second = c.in_ok-terms.ensures.kept in
    let more = extends-then _ _ _ first second in
    let row = c.in-Ok.row in
    subst (λ r. Gives refusal_of (effect_of c.picked.new.table) c.picked.result r)
    ((λ j. picked_at c.args.c row.width (more.kept row.at c.in-Ok.ensures.within.0 j) (more.formula row.each.now c.in-Ok.ensures.within.2 j) (more.kept c.args.t c.requires.position j)
    (second.kept c.in_ok-cell.cell c.in_ok-cell.ensures.within.0 j, second.kept c.in_ok-cell.next c.in_ok-cell.ensures.within.2 j, second.kept c.in_ok-cell.left c.in_ok-cell.ensures.within.3 j)
    (c.in_ok-terms.ensures.index j) (c.in_ok-terms.ensures.item j) (c.in_ok-terms.ensures.value j) c.args.heap.now.vars)
    ∙ sym (pick-goes c.args.c (tree_at ts c.args.t) c.args.f c.args.g (bare ts c.args.heap.now)
    (row.width, tree_at ts row.at, tree_at ts row.count, formula_of ts row.each.now) _ c.in-Ok.ensures.wanted c.in_ok-cell.ensures.made))
    c.picked.ensures.made
