use Rattle.std.proofs.Common.{subst}
use Rattle.first_reader.specs.Reading.{Gives}
use Rattle.first_reader.proofs.NoteLaws.{is_found, found_again}
use Rattle.first_reader.proofs.notes.read_notes.Goals as goal

pub returns-clause-found : goal.returns-clause-found
returns-clause-found c = is_found c.args.text.now c.first.result c.first.ensures

pub returns-clause-only : goal.returns-clause-only
returns-clause-only c = λ a h. subst (λ r. Gives (λ a. a) c.first.result r) (found_again c.args.text.now a h) c.first.ensures
