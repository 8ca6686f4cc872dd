use Rattle.symbolic_calls.specs.words.Topmost.{Gathered}
use Rattle.symbolic_calls.proofs.arguments.topmost.Given as goal

abbrev pub invariant-gathering : goal.invariant-gathering
invariant-gathering l = Gathered l.fn.state l.fn.count l.left l.terms

abbrev pub decreases-gathering : goal.decreases-gathering
decreases-gathering l = l.left
