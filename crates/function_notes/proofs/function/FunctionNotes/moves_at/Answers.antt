use Rattle.std.proofs.Common.{IsTrue, subst, sym}
use Rattle.std.specs.List.{list_all}
use Rattle.notes.specs.WellFormed.{well_formed_move}
use Rattle.function_notes.proofs.Found.{moves-well-formed}
use Rattle.function_notes.proofs.function.FunctionNotes.moves_at.Goals as goal

pub returns-in-Some-clause-well_formed : goal.returns-in-Some-clause-well_formed
returns-in-Some-clause-well_formed c =
    subst (λ ms. IsTrue (list_all well_formed_move ms)) (sym c.as_slice.ensures)
    (moves-well-formed c.args.self.now c.args.number c.in-Some.note.now c.requires c.in-Some.ensures)
