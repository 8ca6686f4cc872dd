use Rattle.notes_grammar.proofs.NotesLaws.{notes_again}
use Rattle.notes_grammar.proofs.laws.printed_again.Goals as goal

pub returns : goal.returns
returns c = notes_again
