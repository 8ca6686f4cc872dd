-- The command that the code read from words.
use Rattle.verify_report.specs.declared.commands.Asked.{Asked}
use Rattle.verify_report.specs.declared.commands.Asked.TheVariants as asked
use Rattle.verify_report.specs.Reports.{Command, Check, Show, Verify, Seal, Sealed, Link, Steps}

abbrev pub command_in : Asked → Command
command_in (asked.Check «module») = Check «module».now
command_in (asked.Show «module») = Show «module».now
command_in (asked.Steps «module») = Steps «module».now
command_in (asked.Verify «module» notes) = Verify «module».now notes.now
command_in (asked.Seal «module» notes) = Seal «module».now notes.now
command_in (asked.Sealed file) = Sealed file.now
command_in (asked.Link script) = Link script.now
