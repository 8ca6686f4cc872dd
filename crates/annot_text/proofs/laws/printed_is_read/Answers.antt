use Rattle.notes_grammar.proofs.NotesLaws.{notes_again}
use Rattle.annot_text.proofs.TextLaws.{alone}
use Rattle.annot_text.proofs.laws.printed_is_read.Goals as goal

pub returns-clause-spelled : goal.returns-clause-spelled
returns-clause-spelled c = notes_again

pub returns-clause-alone : goal.returns-clause-alone
returns-clause-alone c = alone
