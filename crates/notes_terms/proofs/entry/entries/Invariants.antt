use Rattle.std.proofs.Common.{◌≡◌, drop}
use Rattle.notes_grammar.specs.Parts.{parts_of}
use Rattle.notes_grammar.specs.Reading.{all_of}
use Rattle.notes_terms.proofs.EntryLoop.{behind_read}
use Rattle.notes_terms.proofs.entry.entries.Given as goal

abbrev pub invariant-loop-part : goal.invariant-loop-part
invariant-loop-part g l = behind_read l.entries (all_of (g.E.Entry.reads l.context) (parts_of (drop l.part-index l.parts))) ≡ all_of (g.E.Entry.reads l.context) (parts_of l.parts)
