use Rattle.function_notes.proofs.Found.{use-well-formed}
use Rattle.function_notes.proofs.function.FunctionNotes.use_at.Goals as goal

pub returns-in-Some-clause-well_formed : goal.returns-in-Some-clause-well_formed
returns-in-Some-clause-well_formed c = use-well-formed c.args.self.now c.args.number c.in-Some.note.now c.requires c.in-Some.ensures
