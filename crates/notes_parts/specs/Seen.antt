-- What a part of a text is seen as.
use Rattle.std.specs.Prelude.{ℕ}
use Rattle.notes_grammar.specs.Parts.{Part, Number, Name, Quote, Branch, parts_of}
use Rattle.notes_grammar.specs.Reading.{Headed}
use Rattle.notes_parts.specs.declared.leaves.Headed.{Headed as Lent}
use Rattle.notes_parts.specs.declared.part.Seen.{Seen}
use Rattle.notes_parts.specs.declared.part.Seen.TheVariants as seen

-- the part at this place that is seen so
abbrev pub part_seen : ℕ → Seen → Part
part_seen at (seen.Number z) = Number at z
part_seen at (seen.Word w) = Name at w.now
part_seen at (seen.Quote s) = Quote at s.now
part_seen at (seen.List parts close) = Branch at (parts_of parts.now) close

-- a list that begins with a word
abbrev pub headed_seen : Lent → Headed
headed_seen h = record { at = h.at; head = h.head; rest = parts_of h.rest.now; close = h.close }
