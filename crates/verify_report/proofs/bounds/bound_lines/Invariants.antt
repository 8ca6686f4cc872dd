use Rattle.std.proofs.Common.{◌≡◌, ◌+◌, ◌++◌, drop}
use Rattle.verify_report.specs.Lines.{bound_lines}
use Rattle.verify_report.proofs.bounds.bound_lines.Given as goal

abbrev pub invariant-loop-n : goal.invariant-loop-n
invariant-loop-n l = l.text.items ++ bound_lines (l.first + l.n) (drop l.n l.bounds) ≡ bound_lines l.first l.bounds
