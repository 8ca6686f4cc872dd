use Rattle.notes_moves.proofs.moves.read_derivation.Goals as goal

pub returns : goal.returns
returns c = rw c.in_ok-formula.ensures (c.joined.ensures _ c.read_steps.ensures)
