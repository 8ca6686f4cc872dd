-- How a module with its notes is stored: as the pair of the two.
use Rattle.std.specs.Prelude.{refl}
use Rattle.std.specs.Coded.{Coded, code_by, coded×}
use Rattle.wasm_syntax.specs.declared.module.Module.{Module}
use Rattle.wasm_syntax.specs.contracts.module.Module as of_module
use Rattle.notes.specs.declared.outline.Notes.{Notes}
use Rattle.notes.specs.contracts.outline.Notes as of_notes
use Rattle.outline_rules.specs.Settings.{Setting, setting}

-- The code of a module with its notes.
abbrev pub setting_code : Coded Setting
setting_code =
    code_by (Module × Notes) (coded× of_module.the_row.coded of_notes.the_row.coded) (λ c. (c.code, c.notes)) (λ p. setting p.0 p.1) (λ _. refl)
