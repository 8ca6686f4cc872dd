-- What a draft is behind sections, and what may stand behind it.
use Rattle.std.specs.Prelude.{◌≡◌, ℕ, ◌<◌, ◌⊎◌, List, [], ◌∷◌, ◌++◌, length}
use Rattle.wasm_syntax.specs.declared.module.Module.{Module}
use Rattle.wasm_syntax.specs.declared.module.Marks.{Marks}
use Rattle.binary_grammar.specs.declared.section.Section.{Section}
use Rattle.binary_grammar.specs.declared.section.Section.TheVariants as section
use Rattle.binary_grammar.specs.declared.section.Draft.{Draft}
use Rattle.binary_grammar.specs.words.SectionReading.{with_section, no_sections, whole_module, header}
use Rattle.binary_grammar.specs.ModuleGrammar.{id_of, InTurn}

-- A section may stand behind those of a draft: it is custom, or has a greater id than the last that is not, and there are
-- as many bodies as functions are declared.
abbrev pub InOrder : ℕ → ℕ → Type 0
InOrder last id = (id ≡ 0) ⊎ (last < id)

abbrev pub Counts : ℕ → Section → Type 0
Counts declared (section.Bodies bs) = length bs ≡ declared
Counts declared _ = Unit {0}

abbrev pub MayStand : Draft → List Section → Type 0
MayStand d [] = Unit {0}
MayStand d (s ∷ ss) = InOrder d.last (id_of s) × Counts (length d.declared) s × MayStand (with_section d s) ss

-- A draft with further sections.
abbrev pub with_sections : Draft → List Section → Draft
with_sections d [] = d
with_sections d (s ∷ ss) = with_sections (with_section d s) ss

-- Bytes are the header and sections in their order, which put together are a module with its marks.
pub record Drafted (bytes : List ℕ) (m : Module) (k : Marks) : Type 0 where
  pub sections : List Section
  pub rest : List ℕ
  pub parts : bytes ≡ header ++ rest
  pub turn : InTurn 8 rest sections
  pub stand : MayStand no_sections sections
  pub counted : length (with_sections no_sections sections).bodies ≡ length (with_sections no_sections sections).declared
  pub is : whole_module (length bytes) (with_sections no_sections sections) ≡ record { «module» = m; marks = k }
