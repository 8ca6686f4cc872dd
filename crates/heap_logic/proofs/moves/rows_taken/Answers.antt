use Rattle.std.proofs.Common.{subst}
use Rattle.wasm_values.specs.Answers.{Gives}
use Rattle.heap_logic.specs.Faults.{refusal_of}
use Rattle.heap_logic.specs.words.Effects.{bare, effect_of}
use Rattle.heap_logic.specs.words.RowPlans.{rows_plan}
use Rattle.heap_logic.proofs.Binds.{met-then}
use Rattle.heap_logic.proofs.Growing.{bare-kept}
use Rattle.heap_logic.proofs.moves.rows_taken.Goals as goal

pub returns-clause-planned : goal.returns-clause-planned
returns-clause-planned c =
    let known = c.in_ok-each.ensures in
    subst (λ r. Gives refusal_of (effect_of c.rows.new.table) c.rows.result r)
    (met-then _ _ (λ v s. rows_plan c.args.c c.args.width v s) (bare c.taken_formula.new.table c.args.heap.now) (bare c.args.table.now c.args.heap.now) known.taken
    (bare-kept c.args.table.now c.taken_formula.new.table known.kept c.args.heap.now c.requires.heap))
    c.rows.ensures.planned
