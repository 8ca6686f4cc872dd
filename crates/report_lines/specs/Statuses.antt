-- The statuses of a run.
use Rattle.std.specs.Prelude.{ℕ}
use Rattle.report_lines.specs.declared.status.Status.{Status}
use Rattle.report_lines.specs.declared.status.Status.TheVariants as status

-- The exit codes 0 to 6, in the order of the statuses.
abbrev pub code_of : Status → ℕ
code_of status.Good = 0
code_of status.Negative = 1
code_of status.Words = 2
code_of status.ReadFault = 3
code_of status.WriteFault = 4
code_of status.OutOfMemory = 5
code_of status.Limit = 6
