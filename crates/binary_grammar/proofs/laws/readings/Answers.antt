use Rattle.binary_grammar.specs.Bounds.{the_bounds}
use Rattle.binary_grammar.proofs.PlanWhole.{reads_module, stops_module}
use Rattle.binary_grammar.proofs.laws.readings.Goals as goal

pub returns-clause-complete : goal.returns-clause-complete
returns-clause-complete c = reads_module the_bounds

pub returns-clause-fault : goal.returns-clause-fault
returns-clause-fault c = stops_module the_bounds
