-- The notes of a function as a list, and the note of an instruction.
use Rattle.std.specs.Prelude.{◌≡◌, ℕ, ◌==◌, List, [], find, Option, Some, None}
use Rattle.notes.specs.declared.outline.FuncNotes.{FuncNotes}
use Rattle.notes.specs.declared.outline.Note.{Note}
use Rattle.outline_rules.specs.Settings.{Setting, notes_of}

-- The notes of instructions that there are.
abbrev pub noted_in : Option FuncNotes → List Note
noted_in None = []
noted_in (Some n) = n.notes

-- The first of these notes with an instruction's number.
abbrev pub noted_at : List Note → ℕ → Option Note
noted_at notes n = find (λ (note : Note). note.at == n) notes

-- These are the notes of a function.
abbrev pub IsNotesOf : Setting → ℕ → List Note → Type 0
IsNotesOf c f notes = notes ≡ noted_in (notes_of c f)
