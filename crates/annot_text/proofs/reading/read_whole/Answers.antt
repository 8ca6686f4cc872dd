use Rattle.annot_text.proofs.TextLaws as laws
use Rattle.annot_text.proofs.reading.read_whole.Goals as goal

pub returns-in-Ok : goal.returns-in-Ok
returns-in-Ok c = laws.read_value _ _ _ c.in-Ok.ensures.found c.read_tree.ensures

pub returns-in-Err : goal.returns-in-Err
returns-in-Err c = laws.read_fault _ _ c.in-Err.ensures.exact
