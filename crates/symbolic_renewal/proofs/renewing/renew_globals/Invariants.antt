use Rattle.symbolic_renewal.proofs.Renewals.{Globals}
use Rattle.symbolic_renewal.proofs.renewing.renew_globals.Given as goal

abbrev pub invariant-loop-global : goal.invariant-loop-global
invariant-loop-global l = Globals l.fn.state l.state l.fn.globals l.global-index
