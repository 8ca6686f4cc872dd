use Rattle.outline_entry.proofs.Numbered.{Numbering}
use Rattle.outline_entry.proofs.precondition.variables_from.Given as goal

abbrev pub invariant-loop-k : goal.invariant-loop-k
invariant-loop-k l = Numbering l.fn.state l.state l.first l.count l.k l.ids
