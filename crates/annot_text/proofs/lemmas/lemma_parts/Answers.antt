use Rattle.annot_text.proofs.lemmas.lemma_parts.Goals as goal

pub returns : goal.returns
returns c = rw c.in_ok-name.ensures (c.joined.ensures _ c.read_steps.ensures)
