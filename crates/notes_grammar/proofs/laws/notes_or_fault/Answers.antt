use Rattle.notes_grammar.proofs.NotesLaws as notes
use Rattle.notes_grammar.proofs.laws.notes_or_fault.Goals as goal

pub returns-clause-some : goal.returns-clause-some
returns-clause-some c = notes.notes_or_fault

pub returns-clause-not_both : goal.returns-clause-not_both
returns-clause-not_both c = notes.no_both

pub returns-clause-one : goal.returns-clause-one
returns-clause-one c = notes.one_fault
