-- What a run may report: texts and statuses, by the words and the files.
use Rattle.std.specs.Prelude.{◌≡◌, ◌⊎◌, ℕ, List, [], ◌∷◌, Option, Some, None, if◌then◌else◌, Bool, true, false, codes}
use Rattle.std.specs.Str.{bytes_eq}
use Rattle.wasm_syntax.specs.declared.module.Module.{Module}
use Rattle.wasm_syntax.specs.declared.module.Marks.{Marks}
use Rattle.binary_grammar.specs.declared.fault.DecodeFault.{DecodeFault}
use Rattle.binary_grammar.specs.Bounds.{the_bounds}
use Rattle.binary_grammar.specs.ModuleGrammar.{Spells, InLimits}
use Rattle.binary_grammar.specs.Plans.{Fault}
use Rattle.wasm_typing.specs.declared.fault.ValidWord.{ValidWord}
use Rattle.wasm_typing.specs.Valid.{Valid}
use Rattle.wasm_typing.specs.faults.Faults.{InvalidAt}
use Rattle.rw_edge.specs.Files.{contents_of}
use Rattle.wasm_seal.specs.Sealed.{sealed_file, Split}
use Rattle.wasm_values.specs.declared.limit.LimitWord.TheVariants as word
use Rattle.outline_check.specs.declared.notes.Notes.{Notes}
use Rattle.outline_check.specs.First.{IsFirst}
use Rattle.outline_check.specs.Refusals.{Outline}
use Rattle.outline_check.specs.Refusals as outlines
use Rattle.outline_check.specs.Outlines.{outline}
use Rattle.first_reader.specs.ReadingNotes.{first_notes}
use Rattle.module_listing.specs.Listing.{listing_text}
use Rattle.report_lines.specs.declared.status.Status.{Status}
use Rattle.report_lines.specs.declared.status.Status.TheVariants as status
use Rattle.report_lines.specs.Lines.{line, word_line, limit_line}
use Rattle.report_lines.specs.Reports.{Report, Files, module_limit, module_too_long, invalid_report, IsFaultReport, ReportsOf, OfFile}
use Rattle.verify_report.specs.Lines.{failed_line, bound_lines}
use Rattle.link_report.specs.Links.{OfLink}
use Rattle.step_bound.specs.declared.bound.Bound.{Bound}
use Rattle.step_bound.specs.Bounds.{imported_funcs}
use Rattle.step_bound.specs.Told.{AreBoundsOf}

-- A notes file has at most 16,777,216 bytes.
abbrev pub notes_limit : ℕ
notes_limit = 16777216

-- Words of no listed form.
abbrev pub words_refused : Report
words_refused = record { text = line (codes "words refused"); status = status.Words }

-- A notes file that is too long.
abbrev pub notes_too_long : Report
notes_too_long = record { text = limit_line word.Notes notes_limit; status = status.Limit }

-- A sealed file has at most 20,971,538 bytes: those of the longest module and of the longest notes, and 18 between them.
abbrev pub sealed_limit : ℕ
sealed_limit = 20971538

-- A sealed file that is too long.
abbrev pub sealed_too_long : Report
sealed_too_long = record { text = word_line (codes "limit") (codes "sealed") sealed_limit; status = status.Limit }

-- A file that is not a module's bytes with notes behind them.
abbrev pub not_sealed : Report
not_sealed = record { text = line (codes "unsealed"); status = status.Negative }

-- A module that is valid.
abbrev pub module_valid : Report
module_valid = record { text = line (codes "valid"); status = status.Good }

-- The listing of a module.
abbrev pub module_listed : Module → Marks → Report
module_listed m k = record { text = listing_text m k; status = status.Good }

-- The bounds of the functions that a module defines, each with its number.
abbrev pub bounds_listed : Module → List Bound → Report
bounds_listed m bounds = record { text = bound_lines (imported_funcs m) bounds; status = status.Good }

-- A valid module that is not of the form First.
abbrev pub unbuilt_module : Report
unbuilt_module = record { text = line (codes "unbuilt module"); status = status.Negative }

-- Notes that are not of the form FirstNotes.
abbrev pub unbuilt_notes : Report
unbuilt_notes = record { text = line (codes "unbuilt notes"); status = status.Negative }

-- What the outline is.
abbrev pub outlined : Outline → Report
outlined outlines.Verified = record { text = line (codes "verified"); status = status.Good }
outlined (outlines.Failed at function reason) = record { text = failed_line at function reason; status = status.Negative }
outlined (outlines.Limit at word) = record { text = limit_line word at; status = status.Limit }

-- The notes, and then the outline.
abbrev pub noted : Module → Marks → Option Notes → Report
noted m k None = unbuilt_notes
noted m k (Some notes) = outlined (outline m k notes)

-- Of bytes: what Next says of the module and the marks that they spell within the limits, or else their fault.
unfoldable pub OfBytes : (Module → Marks → Report → Type 0) → ReportsOf (List ℕ)
OfBytes Next bytes r =
    ((m : Module) × (k : Marks) × Spells bytes m k × InLimits the_bounds m × Next m k r) ⊎
    ((fault : DecodeFault) × Fault the_bounds bytes fault × IsFaultReport fault r)

-- Of a module with its marks: what Next says where it is valid, or else its first fault.
unfoldable pub OfModule : (Module → Marks → Report → Type 0) → Module → Marks → Report → Type 0
OfModule Next m k r =
    (Valid m × Next m k r) ⊎ ((at : ℕ) × (w : ValidWord) × InvalidAt m k at w × (r ≡ invalid_report at w))

-- Of a valid module with its marks, for a text of notes: it is not of the form First, or else what the notes and the outline
-- come to.
unfoldable pub OfFirst : List ℕ → Module → Marks → Report → Type 0
OfFirst text m k r = (IsFirst m × (r ≡ noted m k (first_notes text))) ⊎ ((IsFirst m → ⊥) × (r ≡ unbuilt_module))

-- Of a valid module: the bounds of its functions.
abbrev pub OfBounds : ReportsOf Module
OfBounds m r = (bounds : List Bound) × AreBoundsOf m bounds × (r ≡ bounds_listed m bounds)

-- The listed forms of words: `check MODULE`, `show MODULE`, `steps MODULE`, `verify MODULE NOTES`, `seal MODULE NOTES`,
-- `sealed FILE` and `link SCRIPT`.
pub data Command : Type 0 where
  Check : List ℕ → Command
  Show : List ℕ → Command
  Steps : List ℕ → Command
  Verify : List ℕ → List ℕ → Command
  Seal : List ℕ → List ℕ → Command
  Sealed : List ℕ → Command
  Link : List ℕ → Command

-- The command that words are, if they have a listed form.
abbrev pub command_of : List (List ℕ) → Option Command
command_of (word ∷ file ∷ []) =
    if bytes_eq word (codes "check") then Some (Check file) else
    (if bytes_eq word (codes "show") then Some (Show file) else
    (if bytes_eq word (codes "steps") then Some (Steps file) else
    (if bytes_eq word (codes "sealed") then Some (Sealed file) else
    (if bytes_eq word (codes "link") then Some (Link file) else None))))
command_of (word ∷ «module» ∷ notes ∷ []) =
    if bytes_eq word (codes "verify") then Some (Verify «module» notes) else
    (if bytes_eq word (codes "seal") then Some (Seal «module» notes) else None)
command_of _ = None

-- Whether bytes spell a valid module.
abbrev pub OfChecked : ReportsOf (List ℕ)
OfChecked = OfBytes (OfModule (λ m k r. r ≡ module_valid))

-- The listing of the module that bytes spell.
abbrev pub OfShown : ReportsOf (List ℕ)
OfShown = OfBytes (λ m k r. r ≡ module_listed m k)

-- The bounds of the functions of the module that bytes spell.
abbrev pub OfBounded : ReportsOf (List ℕ)
OfBounded = OfBytes (OfModule (λ m k. OfBounds m))

-- Whether the notes verify the module that bytes spell.
abbrev pub OfJudged : List ℕ → ReportsOf (List ℕ)
OfJudged bytes text = OfBytes (OfModule (OfFirst text)) bytes

-- The notes file, for a module that was read.
abbrev pub OfNotes : List ℕ → ReportsOf (Option (List ℕ))
OfNotes bytes = OfFile notes_limit notes_too_long (OfJudged bytes)

-- `check MODULE`: the module file and its length, then its bytes, then whether the module is valid.
abbrev pub OfCheck : Files → List ℕ → Report → Type 0
OfCheck files «module» = OfFile module_limit module_too_long OfChecked (contents_of files «module»)

-- `show MODULE`: the module file and its length, then its bytes.
abbrev pub OfShow : Files → List ℕ → Report → Type 0
OfShow files «module» = OfFile module_limit module_too_long OfShown (contents_of files «module»)

-- `steps MODULE`: the module file and its length, then its bytes, then whether the module is valid, then its bounds.
abbrev pub OfSteps : Files → List ℕ → Report → Type 0
OfSteps files «module» = OfFile module_limit module_too_long OfBounded (contents_of files «module»)

-- `verify MODULE NOTES`: the module file and its length, then the notes file and its length, then the module's bytes, its
-- validity and its form, then the notes, then the outline.
abbrev pub OfVerify : Files → List ℕ → List ℕ → Report → Type 0
OfVerify files «module» notes = OfFile module_limit module_too_long (λ bytes. OfNotes bytes (contents_of files notes)) (contents_of files «module»)

-- Whether a status is that of a good report.
abbrev pub is_good : Status → Bool
is_good status.Good = true
is_good _ = false

-- What sealing reports of a module's bytes and notes of which this is said: the sealed file alone where it is good, and else
-- the same.
abbrev pub sealing : List ℕ → List ℕ → Report → Report
sealing bytes text said = if is_good said.status then record { text = sealed_file bytes text; status = status.Good } else said

-- A module's bytes and notes, sealed where the notes verify the module.
abbrev pub OfSealing : List ℕ → ReportsOf (List ℕ)
OfSealing bytes text r = (said : Report) × OfJudged bytes text said × (r ≡ sealing bytes text said)

-- The notes file that is sealed with a module that was read.
abbrev pub OfSealedNotes : List ℕ → ReportsOf (Option (List ℕ))
OfSealedNotes bytes = OfFile notes_limit notes_too_long (OfSealing bytes)

-- `seal MODULE NOTES`: as `verify` does, and then the sealed file.
abbrev pub OfSeal : Files → List ℕ → List ℕ → Report → Type 0
OfSeal files «module» notes = OfFile module_limit module_too_long (λ bytes. OfSealedNotes bytes (contents_of files notes)) (contents_of files «module»)

-- A module's bytes and notes as `verify` takes them from two files: the module's length, then the length of the notes, then
-- whether these verify the module.
abbrev pub OfParts : List ℕ → List ℕ → Report → Type 0
OfParts bytes text = OfFile module_limit module_too_long (λ b. OfNotes b (Some text)) (Some bytes)

-- The parts that a file is split into, or that it has none.
unfoldable pub OfSplit : ReportsOf (List ℕ)
OfSplit file r =
    ((bytes : List ℕ) × (text : List ℕ) × Split file bytes text × OfParts bytes text r) ⊎
    (((bytes text : List ℕ) → Split file bytes text → ⊥) × (r ≡ not_sealed))

-- `sealed FILE`: the file and its length, then its parts.
abbrev pub OfSealed : Files → List ℕ → Report → Type 0
OfSealed files file = OfFile sealed_limit sealed_too_long OfSplit (contents_of files file)

-- Of a command, or of words that are none.
abbrev pub OfCommand : Files → Option Command → Report → Type 0
OfCommand files None r = r ≡ words_refused
OfCommand files (Some (Check «module»)) r = OfCheck files «module» r
OfCommand files (Some (Show «module»)) r = OfShow files «module» r
OfCommand files (Some (Steps «module»)) r = OfSteps files «module» r
OfCommand files (Some (Verify «module» notes)) r = OfVerify files «module» notes r
OfCommand files (Some (Seal «module» notes)) r = OfSeal files «module» notes r
OfCommand files (Some (Sealed file)) r = OfSealed files file r
OfCommand files (Some (Link script)) r = OfLink files script r

-- The report of the words over the files; there is at most one, and one where the files hold bytes.
abbrev pub IsReport : List (List ℕ) → Files → Report → Type 0
IsReport words files r = OfCommand files (command_of words) r
