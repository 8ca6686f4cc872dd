use Rattle.notes_grammar.proofs.NotesLaws.{spelled_reads, reads_spelled}
use Rattle.notes_grammar.proofs.laws.spelled_is_read.Goals as goal

pub returns-clause-read : goal.returns-clause-read
returns-clause-read c = spelled_reads

pub returns-clause-spelled : goal.returns-clause-spelled
returns-clause-spelled c = reads_spelled
