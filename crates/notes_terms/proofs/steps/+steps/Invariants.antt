use Rattle.std.proofs.Common.{◌≡◌, ◌+◌, drop}
use Rattle.notes_grammar.specs.Parts.{part_of, parts_of}
use Rattle.notes_grammar.specs.Reading.{all_of, step_in, sub_in}
use Rattle.notes_terms.specs.words.Sizes.{size, sizes}
use Rattle.notes_terms.proofs.EntryLoop.{behind_read}
use Rattle.notes_terms.proofs.steps.+steps.Given as goal

abbrev pub decreases-read_step : goal.decreases-read_step
decreases-read_step l = size (part_of l.part.now)

abbrev pub decreases-listed_step : goal.decreases-listed_step
decreases-listed_step l = sizes (parts_of l.parts.now) + 2

abbrev pub decreases-read_subs : goal.decreases-read_subs
decreases-read_subs l = sizes (parts_of l.parts.now) + 1

abbrev pub decreases-read_sub : goal.decreases-read_sub
decreases-read_sub l = size (part_of l.part.now)

abbrev pub decreases-steps_at : goal.decreases-steps_at
decreases-steps_at l = sizes (parts_of l.parts.now) + 1

abbrev pub invariant-read_subs-loop-part : goal.invariant-read_subs-loop-part
invariant-read_subs-loop-part l =
    behind_read l.subs (all_of (λ p. sub_in l.context.later p l.level) (parts_of (drop l.part-index l.parts))) ≡ all_of (λ p. sub_in l.context.later p l.level) (parts_of l.parts)

abbrev pub invariant-steps_at-loop-part : goal.invariant-steps_at-loop-part
invariant-steps_at-loop-part l =
    behind_read l.steps (all_of (λ p. step_in l.context.later p l.level) (parts_of (drop l.part-index l.parts))) ≡ all_of (λ p. step_in l.context.later p l.level) (parts_of l.parts)
