-- How values are spelled, by cases on how the bytes are put together from parts (Core Specification, chapter 5).
-- A spelling relates the place where a text begins, the text and a value.
use Rattle.std.specs.Prelude.{◌≡◌, ℕ, ◌+◌, Bool, true, false, List, [], ◌∷◌, ◌++◌, length, Option, Some, None}
use Rattle.std.specs.Str.{IsUtf8}
use Rattle.wasm_values.specs.declared.number.ValType.{ValType}
use Rattle.wasm_values.specs.declared.number.ValType.TheVariants.{I32, I64}
use Rattle.wasm_syntax.specs.declared.module.FuncType.{FuncType}
use Rattle.wasm_syntax.specs.declared.module.Limits.{Limits}
use Rattle.wasm_syntax.specs.declared.module.GlobalType.{GlobalType}
use Rattle.wasm_syntax.specs.declared.module.Import.{Import}
use Rattle.wasm_syntax.specs.declared.module.ImportKind.{ImportKind}
use Rattle.wasm_syntax.specs.declared.module.ImportKind.TheVariants as import
use Rattle.wasm_syntax.specs.declared.module.Export.{Export}
use Rattle.wasm_syntax.specs.declared.module.ExportKind.{ExportKind}
use Rattle.wasm_syntax.specs.declared.module.ExportKind.TheVariants as export
use Rattle.binary_grammar.specs.Numbers.{SpellsU32}

-- A relation between the place where a text begins, the text, and a value that it spells.
abbrev pub Spelling : Type 0 → Type 1
Spelling A = ℕ → List ℕ → A → Type 0

-- A text of two parts: the first spells a value, and the second what may depend on it.
unfoldable pub Then : {A B : Type 0} → Spelling A → (A → Spelling B) → Spelling B
Then {A} P Q at text y = (x : A) × (first : List ℕ) × (second : List ℕ) × (text ≡ first ++ second) × P at first x × Q x (at + length first) second y

-- No bytes, for this value.
unfoldable pub Done : {A : Type 0} → A → Spelling A
Done x at text y = (text ≡ []) × (y ≡ x)

-- This byte alone.
unfoldable pub TheByte : ℕ → Spelling ℕ
TheByte b at text x = (text ≡ b ∷ []) × (x ≡ b)

-- A byte, and what it lets follow.
unfoldable pub Tagged : {A : Type 0} → (ℕ → Spelling A) → Spelling A
Tagged K at text x = (b : ℕ) × (rest : List ℕ) × (text ≡ b ∷ rest) × K b (at + 1) rest x

-- A u32 (5.2.2).
unfoldable pub SpellsNumber : Spelling ℕ
SpellsNumber at text n = SpellsU32 text n

-- Parts one after another, each of which spells one value, and the place of each.
abbrev pub Each : {A : Type 0} → Spelling A → Spelling (List A × List ℕ)
Each P at text ([], []) = text ≡ []
Each P at text (x ∷ xs, []) = ⊥
Each P at text ([], p ∷ ps) = ⊥
Each P at text (x ∷ xs, p ∷ ps) =
    (p ≡ at) × (first : List ℕ) × (second : List ℕ) × (text ≡ first ++ second) × P at first x × Each P (at + length first) second (xs, ps)

-- So many of them.
unfoldable pub Many : {A : Type 0} → Spelling A → ℕ → Spelling (List A × List ℕ)
Many P n at text x = (length x.0 ≡ n) × Each P at text x

-- A vector: a count, and so many entries, with the place of each (5.1.3).
unfoldable pub SpellsVector : {A : Type 0} → Spelling A → Spelling (List A × List ℕ)
SpellsVector P = Then SpellsNumber (Many P)

-- A vector whose places do not matter.
unfoldable pub SpellsList : {A : Type 0} → Spelling A → Spelling (List A)
SpellsList P = Then (SpellsVector P) (λ x. Done x.0)

-- So many bytes, for themselves.
unfoldable pub Bytes : ℕ → Spelling (List ℕ)
Bytes n at text bs = (length text ≡ n) × (bs ≡ text)

-- A vector of bytes.
unfoldable pub SpellsBytes : Spelling (List ℕ)
SpellsBytes = Then SpellsNumber Bytes

-- So many bytes in UTF-8.
unfoldable pub Utf8 : ℕ → Spelling (List ℕ)
Utf8 n at text bs = (length text ≡ n) × IsUtf8 text × (bs ≡ text)

-- A name: its length, and that many bytes in UTF-8 (5.2.4).
unfoldable pub SpellsName : Spelling (List ℕ)
SpellsName = Then SpellsNumber Utf8

-- A value type (5.3.1).
unfoldable pub SpellsValueType : Spelling ValType
SpellsValueType at text I32 = text ≡ 0x7f ∷ []
SpellsValueType at text I64 = text ≡ 0x7e ∷ []

-- A block type (5.3.2).
unfoldable pub SpellsBlockType : Spelling (Option ValType)
SpellsBlockType at text None = text ≡ 0x40 ∷ []
SpellsBlockType at text (Some t) = SpellsValueType at text t

-- A function type (5.3.3).
unfoldable pub SpellsFuncType : Spelling FuncType
SpellsFuncType =
    Then (TheByte 0x60) (λ tag. Then (SpellsVector SpellsValueType) (λ params. Then (SpellsList SpellsValueType) (λ results.
    Done (record { params = params.0; results = results }))))

-- Whether a maximum follows, or whether a global is mutable.
unfoldable pub SpellsFlag : Spelling Bool
SpellsFlag at text false = text ≡ 0 ∷ []
SpellsFlag at text true = text ≡ 1 ∷ []

-- The maximum of limits, which there is where the flag says so (5.3.4).
unfoldable pub SpellsGreatest : Bool → Spelling (Option ℕ)
SpellsGreatest false = Done None
SpellsGreatest true = Then SpellsNumber (λ n. Done (Some n))

-- Limits (5.3.4).
unfoldable pub SpellsLimits : Spelling Limits
SpellsLimits =
    Then SpellsFlag (λ flag. Then SpellsNumber (λ least. Then (SpellsGreatest flag) (λ greatest.
    Done (record { min = least; max = greatest }))))

-- A table type (5.3.6).
unfoldable pub SpellsTableType : Spelling Limits
SpellsTableType = Then (TheByte 0x70) (λ tag. SpellsLimits)

-- A global type (5.3.7).
unfoldable pub SpellsGlobalType : Spelling GlobalType
SpellsGlobalType = Then SpellsValueType (λ t. Then SpellsFlag (λ flag. Done (record { value = t; mutable = flag })))

-- The byte of the kind of what is imported (5.5.5).
abbrev pub import_tag : ImportKind → ℕ
import_tag (import.Func n) = 0
import_tag (import.Table l) = 1
import_tag (import.Memory l) = 2
import_tag (import.Global g) = 3

-- The description of what is imported: the number of a function's type, or the type of a table, memory or global (5.5.5).
abbrev pub SpellsImported : Spelling ImportKind
SpellsImported at text (import.Func n) = SpellsNumber at text n
SpellsImported at text (import.Table l) = SpellsTableType at text l
SpellsImported at text (import.Memory l) = SpellsLimits at text l
SpellsImported at text (import.Global g) = SpellsGlobalType at text g

-- What is imported: its kind's byte, and its description (5.5.5).
unfoldable pub SpellsImportKind : Spelling ImportKind
SpellsImportKind = Tagged (λ b at text k. (b ≡ import_tag k) × SpellsImported at text k)

-- An import (5.5.5).
unfoldable pub SpellsImport : Spelling Import
SpellsImport =
    Then SpellsName (λ first. Then SpellsName (λ second. Then SpellsImportKind (λ kind.
    Done (record { «module» = first; name = second; kind = kind }))))

-- The byte of the kind of what is exported (5.5.10).
abbrev pub export_tag : ExportKind → ℕ
export_tag (export.Func n) = 0
export_tag (export.Table n) = 1
export_tag (export.Memory n) = 2
export_tag (export.Global n) = 3

-- The index of what is exported (5.5.10).
abbrev pub export_index : ExportKind → ℕ
export_index (export.Func n) = n
export_index (export.Table n) = n
export_index (export.Memory n) = n
export_index (export.Global n) = n

-- What is exported: its kind's byte, and its index (5.5.10).
unfoldable pub SpellsExportKind : Spelling ExportKind
SpellsExportKind = Tagged (λ b at text k. (b ≡ export_tag k) × SpellsNumber at text (export_index k))

-- An export (5.5.10).
unfoldable pub SpellsExport : Spelling Export
SpellsExport = Then SpellsName (λ name. Then SpellsExportKind (λ kind. Done (record { name = name; kind = kind })))
