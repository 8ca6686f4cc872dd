use Rattle.step_bound.proofs.Parts.{at_most_one}
use Rattle.step_bound.proofs.Answering.{one_answer, same_answers}
use Rattle.step_bound.proofs.laws.bounds_are_unique.Goals as goal

pub returns : goal.returns
returns c = record { bound = at_most_one; answers = same_answers; answer = one_answer }
