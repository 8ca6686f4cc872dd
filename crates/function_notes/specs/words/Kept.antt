-- What is kept beside the notes of a function.
use Rattle.std.specs.Prelude.{◌≡◌, ℕ, List, slice_get, Option, option_and_then}
use Rattle.notes.specs.declared.outline.Note.{Note}
use Rattle.notes.specs.declared.uses.Use.{Use}
use Rattle.notes.specs.declared.uses.Use.TheVariants as used
use Rattle.function_notes.specs.Noted.{noted_at}

-- a table gives the place of the first note of each instruction that has one
abbrev pub IsNoted : List Note → (ℕ → Option ℕ) → Type 0
IsNoted notes place = (n : ℕ) → option_and_then (slice_get notes) (place n) ≡ noted_at notes n

-- what is kept is what the notes say
pub record IsKept (notes : List Note) (place : ℕ → Option ℕ) (none : Use) : Type 0 where
  pub noted : IsNoted notes place
  pub nothing : none ≡ used.Nothing
