use Rattle.std.proofs.Common.{arith}
use Rattle.notes_grammar.specs.Parts.{part_of, parts_of}
use Rattle.notes_grammar.specs.Reading.{list_of, formula_in, reference, rule_in, whole}
use Rattle.notes_terms.proofs.StepLemmas.{size_at, sub_listed, step_listed, four_smaller}
use Rattle.notes_terms.proofs.steps.+steps.Goals as goal

pub read_step-returns-in-List : goal.read_step-returns-in-List
read_step-returns-in-List t c =
    rw (c.in-List.ensures, step_listed c.args.context.now.later c.in-List.close (parts_of c.in-List.parts.now) c.args.level) c.listed_step.ensures

pub listed_step-returns : goal.listed_step-returns
listed_step-returns t c = rw c.in_ok-rule.ensures (c.with_subs.ensures _ c.read_subs.ensures)

pub listed_step-read_subs-requires : goal.listed_step-read_subs-requires
listed_step-read_subs-requires t c = (
  omega (arith, c.decreases, four_smaller rule_in (formula_in c.args.context.now.later) (list_of reference) (list_of whole) c.args.close (parts_of c.args.parts.now) (parts_of c.in_ok-rule.rest.now) _ _ _ _ c.in_ok-rule.ensures),
  omega arith,
)

pub read_subs-read_sub-requires : goal.read_subs-read_sub-requires
read_subs-read_sub-requires t c = (omega (arith, c.decreases, size_at c.args.parts.now c.loop-part.part-index c.part-item.result c.loop-part-test.true c.part-item.is), omega arith)

pub steps_at-read_step-requires : goal.steps_at-read_step-requires
steps_at-read_step-requires t c = (omega (arith, c.decreases, size_at c.args.parts.now c.loop-part.part-index c.part-item.result c.loop-part-test.true c.part-item.is), omega arith)

pub read_sub-returns-else-level-gt-MAX_LEVEL : goal.read_sub-returns-else-level-gt-MAX_LEVEL
read_sub-returns-else-level-gt-MAX_LEVEL t c =
    rw (sub_listed c.args.context.now.later (part_of c.args.part.now) _ (parts_of c.in-List.parts.now) _ c.args.level c.in-List.ensures (omega (arith, c.if-level-gt-MAX_LEVEL.false))) c.steps_at.ensures
