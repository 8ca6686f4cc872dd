use Rattle.std.proofs.Common.{◌≡◌, length}
use Rattle.notes_grammar.specs.Parts.{parts_of}
use Rattle.annot_text.specs.words.Functions.{note_parts}
use Rattle.annot_text.proofs.NoteLoop.{behind_moves}
use Rattle.annot_text.proofs.functions.note_parts.Given as goal

abbrev pub invariant-loop-rest : goal.invariant-loop-rest
invariant-loop-rest l = behind_moves l.moves (note_parts l.context (parts_of l.rest)) ≡ note_parts l.context (parts_of l.parts)

abbrev pub decreases-loop-rest : goal.decreases-loop-rest
decreases-loop-rest l = length l.rest
