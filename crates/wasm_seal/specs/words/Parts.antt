-- What the parts of a split take from the front of bytes. These words are the project's own.
use Rattle.std.specs.Prelude.{◌≡◌, ℕ, List, [], ◌++◌, length}
use Rattle.std.specs.List.{AllByRecursion, concat}
use Rattle.binary_grammar.specs.Numbers.{SpellsU32}
use Rattle.wasm_seal.specs.Sealed.{notes_name, IsSection}

-- The bytes begin with a u32, and this follows it.
abbrev pub BeginsNumber : List ℕ → ℕ → List ℕ → Type 0
BeginsNumber bytes n rest = (text : List ℕ) × (bytes ≡ text ++ rest) × SpellsU32 text n

-- The bytes begin with a size and so many bytes, and this follows them.
abbrev pub BeginsSized : List ℕ → List ℕ → List ℕ → Type 0
BeginsSized bytes contents after = (size : List ℕ) × (bytes ≡ size ++ (contents ++ after)) × SpellsU32 size (length contents)

-- The bytes begin with a whole section, and this follows it.
abbrev pub BeginsWhole : List ℕ → List ℕ → Type 0
BeginsWhole bytes after = (text : List ℕ) × (bytes ≡ text ++ after) × IsSection text

-- The bytes are whole sections, and this is the last of them.
abbrev pub EndsWith : List ℕ → List ℕ → Type 0
EndsWith bytes last = (sections : List (List ℕ)) × (bytes ≡ concat sections ++ last) × AllByRecursion IsSection sections × IsSection last

-- These bytes are a section's behind its id, and it holds notes.
abbrev pub NotesBehindId : List ℕ → List ℕ → Type 0
NotesBehindId rest notes = (contents : List ℕ) × BeginsSized rest contents [] × BeginsSized contents notes_name notes
