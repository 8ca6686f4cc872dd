use Rattle.annot_text.proofs.functions.function_parts.Goals as goal

pub returns : goal.returns
returns c = rw c.in_ok-contract.ensures (c.joined.ensures _ c.entries.ensures)
