-- What a run comes to and writes.
use Rattle.std.specs.Io.KnownBytes.{Appends}
use Rattle.std.specs.declared.string.String.{String}
use Rattle.std.specs.declared.alloc.Global.{Global}
use Rattle.std.specs.Prelude.{◌≡◌, ◌≤◌, ◌⊎◌, ℕ, map, take, string_bytes, List, length, Option, IsSomeAnd, codes}
use Rattle.report_lines.specs.declared.status.Status.{Status}
use Rattle.report_lines.specs.declared.status.Status.TheVariants as status
use Rattle.report_lines.specs.Reports.{Report}
use Rattle.verify_report.specs.Reports.{Command, Check, Show, Verify, Seal, Sealed, Link, command_of, Steps}
use Rattle.report_lines.specs.Lines.{line}

-- The texts of words.
abbrev pub texts : List (String Global) → List (List ℕ)
texts words = map string_bytes words

-- A status with which nothing is written.
abbrev pub IsQuiet : Status → Type 0
IsQuiet status.ReadFault = Unit {0}
IsQuiet status.OutOfMemory = Unit {0}
IsQuiet _ = ⊥

-- A run comes to a status, or else memory was wanting, or the outside failed.
abbrev pub Comes : Status → Status → Type 0 → Type 0 → Type 0
Comes came wanted read_fault write_fault =
    (came ≡ wanted) ⊎ ((came ≡ status.OutOfMemory) ⊎ (((came ≡ status.ReadFault) × read_fault) ⊎ ((came ≡ status.WriteFault) × write_fault)))

-- A text was written whole with the statuses 0, 1, 2 and 6, a prefix of it with status 4, and nothing with 3 and 5.
abbrev pub Wrote : Status → List ℕ → Option (List ℕ) → Option (List ℕ) → Type 0
Wrote status.ReadFault text old new = new ≡ old
Wrote status.OutOfMemory text old new = new ≡ old
Wrote status.WriteFault text old new = (n : ℕ) × (n ≤ length text) × Appends old new (take n text)
Wrote _ text old new = Appends old new text

-- A run comes to a status of what may be reported and writes that report, or a prefix of it where the sink fails; or it
-- writes nothing, where memory was wanting or the shelf failed.
abbrev pub Told : Status → (Report → Type 0) → Type 0 → Type 0 → Option (List ℕ) → Option (List ℕ) → Type 0
Told came Is read_fault write_fault old new =
    ((r : Report) × Is r × ((came ≡ r.status) ⊎ ((came ≡ status.WriteFault) × write_fault)) × Wrote came r.text old new) ⊎
    (((came ≡ status.OutOfMemory) ⊎ ((came ≡ status.ReadFault) × read_fault)) × (new ≡ old))

-- A command that asks for a verdict on notes alone.
abbrev pub IsVerify : Command → Type 0
IsVerify (Check «module») = ⊥
IsVerify (Show «module») = ⊥
IsVerify (Steps «module») = ⊥
IsVerify (Verify «module» notes) = Unit {0}
IsVerify (Seal «module» notes) = ⊥
IsVerify (Sealed file) = Unit {0}
IsVerify (Link script) = ⊥

-- Words that ask for one.
abbrev pub AskVerdict : List (List ℕ) → Type 0
AskVerdict words = IsSomeAnd (command_of words) IsVerify

-- The good verdict on notes.
abbrev pub verified_text : List ℕ
verified_text = line (codes "verified")
