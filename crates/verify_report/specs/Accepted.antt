-- What it means that a command is good, without the report.
use Rattle.std.specs.Prelude.{◌≡◌, ◌≤◌, ℕ, List, length, Option, Some, None, IsSomeAnd}
use Rattle.wasm_syntax.specs.declared.module.Module.{Module}
use Rattle.wasm_syntax.specs.declared.module.Marks.{Marks}
use Rattle.binary_grammar.specs.Bounds.{the_bounds}
use Rattle.binary_grammar.specs.ModuleGrammar.{Spells, InLimits}
use Rattle.wasm_typing.specs.Valid.{Valid}
use Rattle.outline_check.specs.declared.notes.Notes.{Notes}
use Rattle.outline_check.specs.First.{IsFirst}
use Rattle.outline_check.specs.Refusals.{Verified}
use Rattle.outline_check.specs.Outlines.{outline}
use Rattle.first_reader.specs.FirstNotes.{IsFirstText}
use Rattle.rw_edge.specs.Files.{contents_of}
use Rattle.wasm_seal.specs.Sealed.{Split}
use Rattle.link_report.specs.Links.{AcceptsScript}
use Rattle.report_lines.specs.Reports.{Files, module_limit}
use Rattle.verify_report.specs.Reports.{Command, Check, Show, Verify, Seal, Sealed, Link, notes_limit, sealed_limit, command_of, Steps}

-- The bytes spell a module, within the limits of a file and of the decoder.
pub record IsModule (bytes : List ℕ) : Type 0 where
  pub «module» : Module
  pub marks : Marks
  pub few_bytes : length bytes ≤ module_limit
  pub spelled : Spells bytes «module» marks
  pub within : InLimits the_bounds «module»

-- The bytes spell such a module, and it is valid.
pub record IsValidModule (bytes : List ℕ) : Type 0 where
  pub «module» : Module
  pub marks : Marks
  pub few_bytes : length bytes ≤ module_limit
  pub spelled : Spells bytes «module» marks
  pub within : InLimits the_bounds «module»
  pub valid : Valid «module»

-- The bytes spell a valid module and the text notes, within the limits of files and of the decoder and of the forms that are
-- taken so far, and the outline of the one by the other is verified.
pub record Accepts (bytes text : List ℕ) : Type 0 where
  pub «module» : Module
  pub marks : Marks
  pub notes : Notes
  pub few_bytes : length bytes ≤ module_limit
  pub short : length text ≤ notes_limit
  pub spelled : Spells bytes «module» marks
  pub within : InLimits the_bounds «module»
  pub valid : Valid «module»
  pub first : IsFirst «module»
  pub noted : IsFirstText text notes
  pub verified : outline «module» marks notes ≡ Verified

-- The file is split into bytes and a text that are accepted.
pub record AcceptsSealed (file : List ℕ) : Type 0 where
  pub bytes : List ℕ
  pub text : List ℕ
  pub few_bytes : length file ≤ sealed_limit
  pub split : Split file bytes text
  pub accepted : Accepts bytes text

-- The files that a command names are there, and it accepts them.
abbrev pub Accepted : Files → Option Command → Type 0
Accepted files None = ⊥
Accepted files (Some (Check «module»)) = IsSomeAnd (contents_of files «module») IsValidModule
Accepted files (Some (Show «module»)) = IsSomeAnd (contents_of files «module») IsModule
Accepted files (Some (Steps «module»)) = IsSomeAnd (contents_of files «module») IsValidModule
Accepted files (Some (Verify «module» notes)) = IsSomeAnd (contents_of files «module») (λ bytes. IsSomeAnd (contents_of files notes) (Accepts bytes))
Accepted files (Some (Seal «module» notes)) = IsSomeAnd (contents_of files «module») (λ bytes. IsSomeAnd (contents_of files notes) (Accepts bytes))
Accepted files (Some (Sealed file)) = IsSomeAnd (contents_of files file) AcceptsSealed
Accepted files (Some (Link script)) = IsSomeAnd (contents_of files script) (AcceptsScript files)

-- The words have a listed form, and the files that they name are accepted.
abbrev pub IsAccepted : List (List ℕ) → Files → Type 0
IsAccepted words files = Accepted files (command_of words)
