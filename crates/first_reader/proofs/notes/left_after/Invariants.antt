use Rattle.std.proofs.Common.{◌≡◌, drop}
use Rattle.first_reader.specs.ReadingNotes.{left_after}
use Rattle.first_reader.proofs.notes.left_after.Given as goal

abbrev pub invariant-loop-note : goal.invariant-loop-note
invariant-loop-note l = left_after l.left (drop l.note-index l.notes) ≡ left_after l.fn.left l.notes
