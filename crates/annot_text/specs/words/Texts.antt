-- What reading a text answers.
use Rattle.std.specs.Prelude.{◌≡◌, ℕ, List, Result, Ok, Err}
use Rattle.sexp_text.specs.declared.fault.TextFault.{TextFault}
use Rattle.sexp_text.specs.declared.fault.TextFault.TheVariants.{Refused, Limit, OutOfMemory}
use Rattle.sexp_text.specs.declared.sexp.Sexp.{Sexp}
use Rattle.sexp_text.specs.Spelling.{SexpSpells}
use Rattle.notes.specs.declared.outline.Notes.{Notes}
use Rattle.notes_grammar.specs.Parts.{part_of}
use Rattle.notes_grammar.specs.Reading.{notes_in}
use Rattle.notes_grammar.specs.Spelling.{NotesFault}

-- the notes of the text's value, its fault, or want of memory
abbrev pub IsRead : List ℕ → Result Notes TextFault → Type 0
IsRead text (Ok n) = (s : Sexp) × SexpSpells text s × (notes_in (part_of s) ≡ Ok n)
IsRead text (Err (Refused at w)) = NotesFault text (Refused at w)
IsRead text (Err (Limit at w)) = NotesFault text (Limit at w)
IsRead text (Err OutOfMemory) = Unit {0}
