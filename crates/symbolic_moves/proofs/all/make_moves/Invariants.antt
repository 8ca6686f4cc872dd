use Rattle.symbolic_moves.proofs.Moving.{Moving}
use Rattle.symbolic_moves.proofs.all.make_moves.Given as goal

abbrev pub invariant-loop-m : goal.invariant-loop-m
invariant-loop-m l = Moving l.fn.setting l.fn.moves l.m-index l.fn.state l.state
