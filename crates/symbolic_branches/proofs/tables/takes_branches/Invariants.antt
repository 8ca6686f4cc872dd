use Rattle.symbolic_branches.specs.Labels.{labels_of}
use Rattle.symbolic_branches.proofs.Tabling.{Tabling}
use Rattle.symbolic_branches.proofs.tables.takes_branches.Given as goal

abbrev pub invariant-loop-i : goal.invariant-loop-i
invariant-loop-i l = Tabling l.fn.setting l.fn.func (labels_of l.fn.labels) l.fn.ks l.fn.last l.fn.takes l.fn.condition l.fn.state l.state l.i
