use Rattle.annot_text.proofs.functions.initial_parts.Goals as goal

pub returns : goal.returns
returns c = rw c.in_ok-chunks.ensures (c.joined.ensures _ c.after_parts.ensures)
