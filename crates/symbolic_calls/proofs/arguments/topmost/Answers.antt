use Rattle.std.proofs.Common.{arith}
use Rattle.symbolic_calls.proofs.arguments.topmost.Goals as goal

pub gathering-preserved : goal.gathering-preserved
gathering-preserved c = c.in_ok-push_operand.ensures c.args.count c.gathering.left (omega arith) c.gathering.invariant
