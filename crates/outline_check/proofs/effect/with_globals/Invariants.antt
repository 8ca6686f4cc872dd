use Rattle.std.proofs.Common.{◌≡◌, ◌≤◌, Ok}
use Rattle.outline_check.specs.States.{with_globals}
use Rattle.outline_check.proofs.effect.with_globals.Given as goal

abbrev pub invariant-loop-k : goal.invariant-loop-k
invariant-loop-k l = record { so_far : with_globals l._k ≡ Ok l.state; few : l.state.variables ≤ 1000000 }
