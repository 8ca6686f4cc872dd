-- A module and its notes in one file. The form is this project's own: a custom section that holds the notes is the last of
-- the file (Core Specification, 5.5).
use Rattle.std.specs.Prelude.{◌≡◌, ℕ, ◌+◌, nat_lt, if◌then◌else◌, List, [], ◌∷◌, ◌++◌, length, is_some, codes}
use Rattle.std.specs.List.{AllByRecursion, concat}
use Rattle.wasm_syntax.specs.declared.module.Module.{Module}
use Rattle.binary_grammar.specs.declared.section.Section.TheVariants as section
use Rattle.binary_grammar.specs.Numbers.{SpellsU32}
use Rattle.binary_grammar.specs.ModuleGrammar.{magic, version, SpellsSection}
use Rattle.wasm_write.specs.Shortest.{number_text}

-- The name of the custom section that holds notes: 12 bytes.
abbrev pub notes_name : List ℕ
notes_name = codes "robust.notes"

-- A module's bytes, and behind them a custom section with its shortest size that holds notes (5.5.2, 5.5.3): its contents
-- are the name behind its length, which takes 13 bytes, and the notes.
unfoldable pub sealed_file : List ℕ → List ℕ → List ℕ
sealed_file bytes notes = bytes ++ 0 ∷ (number_text (13 + length notes) ++ 12 ∷ (notes_name ++ notes))

-- A whole section with any id: a byte, a size in any spelling, and so many bytes (5.5.2).
abbrev pub IsSection : List ℕ → Type 0
IsSection text = (id : ℕ) × (size : List ℕ) × (contents : List ℕ) × (text ≡ id ∷ (size ++ contents)) × SpellsU32 size (length contents)

-- The header of a module, and whole sections behind it (5.5.15).
abbrev pub AreSections : List ℕ → Type 0
AreSections bytes = (sections : List (List ℕ)) × (bytes ≡ magic ++ (version ++ concat sections)) × AllByRecursion IsSection sections

-- A custom section with the name of notes, and these bytes behind the name; size and length in any spelling (5.5.3).
abbrev pub HoldsNotes : ℕ → List ℕ → List ℕ → Type 0
HoldsNotes at text notes = SpellsSection at text (section.Custom notes_name notes)

-- A file is the bytes of a header and whole sections, and behind them one section that holds notes.
pub record Split (file bytes notes : List ℕ) : Type 0 where
  pub last : List ℕ
  pub parts : file ≡ bytes ++ last
  pub whole : AreSections bytes
  pub holds : HoldsNotes (length bytes) last notes

-- The id of the last section of a module that has an entry, or 0 (5.5.2). Functions have entries in two sections, of which the
-- later has their bodies.
abbrev pub last_entry : Module → ℕ
last_entry m =
    if nat_lt 0 (length m.segments) then 11 else
    (if nat_lt 0 (length m.funcs) then 10 else
    (if nat_lt 0 (length m.elems) then 9 else
    (if is_some m.start then 8 else
    (if nat_lt 0 (length m.exports) then 7 else
    (if nat_lt 0 (length m.globals) then 6 else
    (if nat_lt 0 (length m.memories) then 5 else
    (if nat_lt 0 (length m.tables) then 4 else
    (if nat_lt 0 (length m.imports) then 2 else
    (if nat_lt 0 (length m.types) then 1 else 0)))))))))

-- The module with one custom section more behind all others, which holds notes (5.5.3).
abbrev pub with_notes : List ℕ → Module → Module
with_notes notes m = record m { customs = m.customs ++ record { after = last_entry m; name = notes_name; bytes = notes } ∷ [] }
