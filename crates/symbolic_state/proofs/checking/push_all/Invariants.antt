use Rattle.std.proofs.Common.{◌≡◌, ◌++◌}
use Rattle.symbolic_state.proofs.checking.push_all.Given as goal

abbrev pub invariant-loop-fact : goal.invariant-loop-fact
invariant-loop-fact l = l.facts ≡ l.initial.facts ++ l.yielded
