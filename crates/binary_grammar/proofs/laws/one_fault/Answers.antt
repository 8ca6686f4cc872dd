use Rattle.binary_grammar.specs.Bounds.{the_bounds}
use Rattle.binary_grammar.proofs.FaultLaws.{some_answer, not_both, one_fault, of_bytes}
use Rattle.binary_grammar.proofs.laws.one_fault.Goals as goal

pub returns-clause-some : goal.returns-clause-some
returns-clause-some c = some_answer the_bounds

pub returns-clause-not_both : goal.returns-clause-not_both
returns-clause-not_both c = not_both the_bounds

pub returns-clause-one : goal.returns-clause-one
returns-clause-one c = one_fault the_bounds

pub returns-clause-of_bytes : goal.returns-clause-of_bytes
returns-clause-of_bytes c = of_bytes the_bounds
