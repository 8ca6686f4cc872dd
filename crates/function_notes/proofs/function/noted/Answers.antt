use Rattle.std.proofs.Common.{IsTrue, subst, sym}
use Rattle.std.specs.List.{list_all}
use Rattle.notes.specs.WellFormed.{well_formed_note}
use Rattle.function_notes.proofs.Found.{func-well-formed}
use Rattle.function_notes.proofs.function.noted.Goals as goal

pub returns-in-Some-clause-well_formed : goal.returns-in-Some-clause-well_formed
returns-in-Some-clause-well_formed c =
    subst (λ ns. IsTrue (list_all well_formed_note ns)) (sym c.as_slice.ensures)
    (func-well-formed c.args.setting.now c.args.func c.in-Some.notes.now c.requires c.in-Some.ensures)
