use Rattle.notes_print.proofs.StepLemmas.{same_step}
use Rattle.notes_print.proofs.steps.StepsPrintStep.print.Goals as goal

pub returns : goal.returns
returns c = rw (same_step 0 c.args.value.now) c.print_step.ensures
