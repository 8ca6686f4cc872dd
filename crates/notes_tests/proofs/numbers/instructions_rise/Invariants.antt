use Rattle.std.proofs.Common.{◌≡◌, map, drop}
use Rattle.notes.specs.declared.outline.Note.{Note}
use Rattle.outline_rules.specs.Tests.{rise_within}
use Rattle.notes_tests.proofs.numbers.instructions_rise.Given as goal

abbrev pub invariant-loop-note : goal.invariant-loop-note
invariant-loop-note l = rise_within 0 l.high (map (λ (n : Note). n.at) l.notes) ≡ rise_within l.least l.high (map (λ (n : Note). n.at) (drop l.note-index l.notes))
