use Rattle.std.proofs.Common.{sym, ap, ◌∙◌, ℕ}
use Rattle.term_trees.specs.Ground.{ground_truth}
use Rattle.term_trees.specs.Rows.{at_position}
use Rattle.outline_rules.specs.States.{number}
use Rattle.outline_rules.specs.Initial.{is_truth}
use Rattle.initial_memory.proofs.Cells.{true_fails}
use Rattle.initial_memory.proofs.rows.are_true.Goals as goal

pub returns-then-not-is_true_at : goal.returns-then-not-is_true_at
returns-then-not-is_true_at c =
    true_fails c.args.window.now c.args.count c.args.width c.loop-index.index c.args.each.now c.loop-index-test.true
    (sym (ap (λ (n : ℕ). is_truth (ground_truth (at_position c.args.each.now (number c.loop-index.index) (number n)))) c.number_in.ensures) ∙ sym c.is_true_at.ensures ∙ c.if-not-is_true_at.true)
