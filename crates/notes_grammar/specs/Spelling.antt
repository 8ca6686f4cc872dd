-- Which texts spell which notes, and the faults of the others.
use Rattle.std.specs.Prelude.{◌≡◌, ◌⊎◌, ℕ, true, List, Result, Ok, Err}
use Rattle.sexp_text.specs.declared.fault.TextFault.{TextFault}
use Rattle.sexp_text.specs.declared.sexp.Sexp.{Sexp}
use Rattle.sexp_text.specs.Printing.{tree_of}
use Rattle.sexp_text.specs.Reading.{read}
use Rattle.sexp_text.specs.Spelling.{SexpSpells}
use Rattle.notes.specs.declared.outline.Notes.{Notes}
use Rattle.notes_grammar.specs.Parts.{Part, part_of}
use Rattle.notes_grammar.specs.Parts as part
use Rattle.notes_grammar.specs.Shapes.{Shape, first_notes, second_notes}
use Rattle.notes_grammar.specs.Reading.{notes_in}

-- the value of a text has this shape, up to its places, and what it is the text of keeps to its limits
abbrev pub HasShape : Sexp → Shape → Type 0
HasShape s x = (tree_of s ≡ x.tree) × (x.fits ≡ true)

-- A part is read so exactly where it has the shape of the value, up to its places.
pub record IsReadExactly {A : Type 0} (read : Part → Result A TextFault) (shape : A → Shape) : Type 0 where
  pub sound : (p : Part) (a : A) → read p ≡ Ok a → (part.tree_of p ≡ (shape a).tree) × ((shape a).fits ≡ true)
  pub whole : (p : Part) (a : A) → (part.tree_of p ≡ (shape a).tree) × ((shape a).fits ≡ true) → read p ≡ Ok a

-- The text spells the notes, in version 1 or in version 2: its value, up to places, is the tree of the notes by the
-- grammar, and the notes keep to the limits of texts.
unfoldable pub NotesSpell : List ℕ → Notes → Type 0
NotesSpell text n = (s : Sexp) × SexpSpells text s × (HasShape s (first_notes n) ⊎ HasShape s (second_notes n))

-- The text has the fault: that of its list where it spells none, else the first in the order of the text by the grammar.
unfoldable pub NotesFault : List ℕ → TextFault → Type 0
NotesFault text fault = (read text ≡ Err fault) ⊎ ((s : Sexp) × SexpSpells text s × (notes_in (part_of s) ≡ Err fault))
