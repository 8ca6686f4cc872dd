use Rattle.annot_text.proofs.reading.read_rest.Goals as goal

pub returns : goal.returns
returns c = rw c.in_ok-invariant.ensures (c.joined.ensures _ c.entries.ensures)
