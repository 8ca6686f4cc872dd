-- What `link` may report, by the files.
use Rattle.std.specs.Prelude.{◌≡◌, ◌≤◌, ◌⊎◌, ℕ, List, length, Result, Ok, Err}
use Rattle.rw_edge.specs.Files.{contents_of}
use Rattle.wasm_values.specs.declared.limit.LimitWord.TheVariants as word
use Rattle.wasm_typing.specs.declared.fault.ValidFault.{ValidFault}
use Rattle.wasm_typing.specs.declared.fault.ValidFault.TheVariants as valid
use Rattle.sexp_text.specs.declared.fault.TextFault.{TextFault}
use Rattle.sexp_text.specs.declared.fault.TextFault.TheVariants as text
use Rattle.script_text.specs.declared.script.Script.{Script}
use Rattle.script_text.specs.Spelling.{ScriptSpells, ScriptFault}
use Rattle.wasm_link.specs.declared.fault.LinkFault.{LinkFault}
use Rattle.wasm_link.specs.declared.fault.LinkFault.TheVariants as fault
use Rattle.wasm_link.specs.declared.log.Log.{Log}
use Rattle.wasm_link.specs.Logs.{ScriptLog}
use Rattle.wasm_link.specs.Answers.{ScriptAnswers}
use Rattle.report_lines.specs.declared.status.Status.TheVariants as status
use Rattle.report_lines.specs.Lines.{limit_line}
use Rattle.report_lines.specs.Reports.{Report, ReportsOf, Files, OfFile, IsFaultReport, invalid_report, module_too_long, nothing_read}
use Rattle.link_report.specs.Lines.{script_line, name_line, module_line}

-- A script file has at most 1,048,576 bytes.
abbrev pub script_limit : ℕ
script_limit = 1048576

-- A script file that is too long.
abbrev pub script_too_long : Report
script_too_long = record { text = limit_line word.Script script_limit; status = status.Limit }

-- The log of a script.
abbrev pub log_report : List ℕ → Report
log_report log = record { text = log; status = status.Good }

-- A live instance lacks the export whose name stands at this place.
abbrev pub name_report : ℕ → Report
name_report at = record { text = name_line at; status = status.Negative }

-- What is said of a module, told of the one that a script gives this name.
abbrev pub of_module : List ℕ → Report → Report
of_module name said = record { text = module_line name said.text; status = said.status }

-- A text's fault: it spells no script, or a limit of texts is passed.
abbrev pub IsTextReport : TextFault → Report → Type 0
IsTextReport (text.Refused at w) r = r ≡ record { text = script_line w at; status = status.Negative }
IsTextReport (text.Limit at w) r = r ≡ record { text = limit_line w at; status = status.Limit }
IsTextReport text.OutOfMemory r = ⊥

-- The first fault of a module that isn't valid.
abbrev pub IsInvalidReport : ValidFault → Report → Type 0
IsInvalidReport (valid.Invalid at w) r = r ≡ invalid_report at w
IsInvalidReport valid.OutOfMemory r = ⊥

-- What a script comes to: its log; an export that is lacking; or a load that gives no module, since its file is missing or too long,
-- its bytes have a fault, or the module isn't valid.
abbrev pub IsEndReport : Result Log LinkFault → Report → Type 0
IsEndReport (Ok log) r = r ≡ log_report log.text
IsEndReport (Err (fault.UnknownName at)) r = r ≡ name_report at
IsEndReport (Err fault.Shelf) r = r ≡ nothing_read
IsEndReport (Err (fault.TooLong name)) r = r ≡ of_module name module_too_long
IsEndReport (Err (fault.Decode name f)) r = (said : Report) × IsFaultReport f said × (r ≡ of_module name said)
IsEndReport (Err (fault.Invalid name f)) r = (said : Report) × IsInvalidReport f said × (r ≡ of_module name said)
IsEndReport (Err fault.OutOfMemory) r = ⊥

-- Of a script over files: what it comes to.
unfoldable pub OfRun : Files → ReportsOf Script
OfRun files x r = (end : Result Log LinkFault) × ScriptAnswers files x end × IsEndReport end r

-- Of a text over files: what the script that it spells comes to, or else its fault.
unfoldable pub OfScript : Files → ReportsOf (List ℕ)
OfScript files text r =
    ((x : Script) × ScriptSpells text x × OfRun files x r) ⊎
    ((fault : TextFault) × ScriptFault text fault × IsTextReport fault r)

-- `link SCRIPT`: the script file and its length, then its text, then for each load in order its file, its length, its bytes and
-- whether the module is valid, then how the script goes.
abbrev pub OfLink : Files → List ℕ → Report → Type 0
OfLink files script = OfFile script_limit script_too_long (OfScript files) (contents_of files script)

-- The text spells a script, within the limits of a file, and the script has a log over the files.
pub record AcceptsScript (files : Files) (text : List ℕ) : Type 0 where
  pub script : Script
  pub log : List ℕ
  pub short : length text ≤ script_limit
  pub spelled : ScriptSpells text script
  pub logged : ScriptLog files script log
