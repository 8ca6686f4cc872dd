use Rattle.std.proofs.Common.{◌≡◌, IfOk, subst}
use Rattle.term_trees.specs.Rows.{at_position}
use Rattle.outline_rules.specs.HeapMoves.{is_fact}
use Rattle.heap_logic.proofs.Growing.{bare-kept}
use Rattle.heap_logic.proofs.rows.says_first.Goals as goal

pub returns-clause-said : goal.returns-clause-said
returns-clause-said c =
    let more = c.in_ok-first.ensures.kept in
    subst (λ said. IfOk c.says_at.result (λ b. b ≡ said))
    (λ j. is_fact (bare-kept c.args.table.now c.number.new.table more c.args.heap.now c.requires.heap j) c.args.fact
    (at_position (more.formula c.args.each.now c.requires.each j) (c.in_ok-first.ensures.tree j) (more.kept c.args.value c.requires.value j)))
    c.says_at.ensures
