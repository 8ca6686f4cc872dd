use Rattle.std.proofs.Common.{◌≡◌, ◌+◌, ◌*◌, ◌++◌, drop, map}
use Rattle.bitvector_rules.proofs.Weights.{weight, weights, weights_of}
use Rattle.notes_grammar.specs.Printed.{printed_more}
use Rattle.notes_grammar.specs.Shapes.{trees_in}
use Rattle.notes_print.specs.Steps.{plain_step, plain_sub}
use Rattle.notes_print.proofs.steps.+steps.Given as goal

abbrev pub decreases-more_step : goal.decreases-more_step
decreases-more_step l = 4 * weight l.step.now + 2

abbrev pub decreases-print_step : goal.decreases-print_step
decreases-print_step l = 4 * weight l.step.now + 1

abbrev pub decreases-more_parts : goal.decreases-more_parts
decreases-more_parts l = 4 * weight l.step.now

abbrev pub decreases-more_subs : goal.decreases-more_subs
decreases-more_subs l = 4 * weights_of l.subs.now + 6

abbrev pub decreases-more_sub : goal.decreases-more_sub
decreases-more_sub l = 4 * weights l.sub.now + 5

abbrev pub decreases-print_sub : goal.decreases-print_sub
decreases-print_sub l = 4 * weights l.steps.now + 4

abbrev pub decreases-more_steps : goal.decreases-more_steps
decreases-more_steps l = 4 * weights l.steps.now + 3

abbrev pub invariant-more_subs-loop-sub : goal.invariant-more_subs-loop-sub
invariant-more_subs-loop-sub l =
    l.out ++ printed_more (trees_in (map plain_sub (drop l.sub-index l.subs))) ≡ l.initial.out ++ printed_more (trees_in (map plain_sub l.subs))

abbrev pub invariant-more_steps-loop-step : goal.invariant-more_steps-loop-step
invariant-more_steps-loop-step l =
    l.out ++ printed_more (trees_in (map plain_step (drop l.step-index l.steps))) ≡ l.initial.out ++ printed_more (trees_in (map plain_step l.steps))
