use Rattle.std.proofs.Common.{◌≡◌, drop}
use Rattle.outline_check.specs.Outlines.{moved}
use Rattle.outline_check.proofs.moves.moved.Given as goal

abbrev pub invariant-loop-step : goal.invariant-loop-step
invariant-loop-step l = moved (drop l.step-index l.moves) l.state ≡ moved l.fn.moves l.fn.state
