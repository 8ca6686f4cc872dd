-- What a setting keeps beside the module and the notes.
use Rattle.std.specs.Prelude.{◌≡◌, ℕ, ◌==◌, List, find, slice_get, Option, None, option_and_then}
use Rattle.wasm_values.specs.declared.number.ValType.{ValType}
use Rattle.wasm_syntax.specs.declared.module.Module.{Module}
use Rattle.wasm_syntax.specs.declared.module.FuncType.{FuncType}
use Rattle.wasm_typing.specs.Valid.{type_or_none}
use Rattle.body_check.specs.declared.scope.Scope.{Scope}
use Rattle.body_check.specs.words.Answers.{IsScopeOf}
use Rattle.escape_analysis.specs.declared.stability.Exposure.{Exposure}
use Rattle.escape_analysis.specs.Exposure.{exposure_of}
use Rattle.notes.specs.declared.outline.FuncNotes.{FuncNotes}
use Rattle.notes.specs.declared.outline.Notes.{Notes}
use Rattle.outline_rules.specs.Settings.{setting, private_globals}

-- a table gives the place of the first notes of each function that has some
abbrev pub IsNoted : List FuncNotes → (ℕ → Option ℕ) → Type 0
IsNoted funcs place = (f : ℕ) → option_and_then (slice_get funcs) (place f) ≡ find (λ (n : FuncNotes). n.func == f) funcs

-- what is kept is what the module and the notes say
pub record IsKept (m : Module) (notes : Notes) (e : Exposure) (scope : Scope) (place : ℕ → Option ℕ) (privates : List (ℕ × ValType)) (none : FuncType) : Type 0 where
  pub exposed : e ≡ exposure_of m
  pub names : IsScopeOf m scope
  pub noted : IsNoted notes.funcs place
  pub private : privates ≡ private_globals (setting m notes)
  pub nothing : none ≡ type_or_none None
