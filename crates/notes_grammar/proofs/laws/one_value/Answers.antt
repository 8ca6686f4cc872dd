use Rattle.notes_grammar.proofs.NotesLaws.{one_notes}
use Rattle.notes_grammar.proofs.laws.one_value.Goals as goal

pub returns : goal.returns
returns c = one_notes
