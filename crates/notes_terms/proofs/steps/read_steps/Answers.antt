use Rattle.notes_grammar.specs.Parts.{parts_of}
use Rattle.notes_terms.proofs.StepLemmas.{all_steps}
use Rattle.notes_terms.proofs.steps.read_steps.Goals as goal

pub returns : goal.returns
returns c = rw (all_steps c.args.context.now.later (parts_of c.args.parts.now) 0) c.steps_at.ensures
