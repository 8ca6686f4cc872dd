use Rattle.annot_text.proofs.TextLaws as laws
use Rattle.annot_text.proofs.reading.read_notes.Goals as goal

pub returns-clause-found : goal.returns-clause-found
returns-clause-found c = laws.found _ _ c.read_whole.ensures

pub returns-clause-only : goal.returns-clause-only
returns-clause-only c = laws.only _ _ c.read_whole.ensures

pub returns-clause-fault : goal.returns-clause-fault
returns-clause-fault c = laws.is_fault _ _ c.read_whole.ensures

pub returns-clause-refused : goal.returns-clause-refused
returns-clause-refused c = laws.refused _ _ c.read_whole.ensures

pub returns-clause-again : goal.returns-clause-again
returns-clause-again c = laws.again _ _ c.read_whole.ensures
