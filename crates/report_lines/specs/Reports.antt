-- Reports: texts and statuses, and what is said of a file, of bytes that are no module, and of a module that isn't valid.
use Rattle.std.specs.Prelude.{◌≡◌, ◌<◌, ◌≤◌, ◌⊎◌, ℕ, List, [], length, Option, Some, None, All}
use Rattle.binary_grammar.specs.declared.fault.DecodeFault.{DecodeFault}
use Rattle.binary_grammar.specs.declared.fault.DecodeFault.TheVariants as decode
use Rattle.wasm_typing.specs.declared.fault.ValidWord.{ValidWord}
use Rattle.wasm_typing.specs.Valid.{BytesInRange}
use Rattle.wasm_values.specs.declared.limit.LimitWord.TheVariants as word
use Rattle.report_lines.specs.declared.status.Status.{Status}
use Rattle.report_lines.specs.declared.status.Status.TheVariants as status
use Rattle.report_lines.specs.declared.report.Report as reports
use Rattle.report_lines.specs.Lines.{limit_line, malformed_line, invalid_line}

-- A report is a text and a status.
pub record Report : Type 0 where
  pub text : List ℕ
  pub status : Status

-- What the code's report is.
abbrev pub seen : reports.Report → Report
seen r = record { text = r.text.items; status = r.status }

-- A module file has at most 4,194,304 bytes.
abbrev pub module_limit : ℕ
module_limit = 4194304

-- A status that comes with a line about files.
abbrev pub IsSpoken : Status → Type 0
IsSpoken status.Good = Unit {0}
IsSpoken status.Negative = Unit {0}
IsSpoken status.Limit = Unit {0}
IsSpoken _ = ⊥

-- A file that is missing or can't be read.
abbrev pub nothing_read : Report
nothing_read = record { text = []; status = status.ReadFault }

-- A module file that is too long.
abbrev pub module_too_long : Report
module_too_long = record { text = limit_line word.Module module_limit; status = status.Limit }

-- Files by name: each is its name and its contents.
abbrev pub Files : Type 0
Files = List (List ℕ × List ℕ)

-- What files hold are bytes.
abbrev pub HoldBytes : Files → Type 0
HoldBytes files = All (λ file. BytesInRange file.1) files

-- The bytes' fault: they are malformed, or a limit of the decoder is passed.
abbrev pub IsFaultReport : DecodeFault → Report → Type 0
IsFaultReport (decode.Malformed at w) r = r ≡ record { text = malformed_line w at; status = status.Negative }
IsFaultReport (decode.Limit at w) r = r ≡ record { text = limit_line w at; status = status.Limit }
IsFaultReport decode.OutOfMemory r = ⊥

-- The first fault of a module that isn't valid.
abbrev pub invalid_report : ℕ → ValidWord → Report
invalid_report at w = record { text = invalid_line w at; status = status.Negative }

-- What may be reported of something.
abbrev pub ReportsOf : Type 0 → Type 1
ReportsOf A = A → Report → Type 0

-- Of a file: it is missing, or too long, or else what Next says of its contents.
unfoldable pub OfFile : ℕ → Report → ReportsOf (List ℕ) → ReportsOf (Option (List ℕ))
OfFile limit too_long Next None r = r ≡ nothing_read
OfFile limit too_long Next (Some contents) r =
    ((limit < length contents) × (r ≡ too_long)) ⊎ ((length contents ≤ limit) × Next contents r)
