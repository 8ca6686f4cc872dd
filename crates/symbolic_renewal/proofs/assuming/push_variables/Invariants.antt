use Rattle.symbolic_renewal.proofs.Numbering.{Numbers}
use Rattle.symbolic_renewal.proofs.assuming.push_variables.Given as goal

abbrev pub invariant-loop-k : goal.invariant-loop-k
invariant-loop-k l = Numbers l.fn.state l.state l.fn.ids l.ids l.first l.k
