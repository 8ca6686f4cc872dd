-- The listing of a module: one line for each entry and each instruction. Its form is this project's own.
use Rattle.std.specs.Prelude.{◌≡◌, ℕ, ◌/◌, ◌%◌, Bool, true, false, nat_le, ◌&&◌, ◌||◌, if◌then◌else◌, List, [], ◌∷◌, ◌++◌, length, slice_get, Option, Some, None, codes}
use Rattle.std.specs.Char.{digit_char}
use Rattle.std.specs.Fmt.{decimal}
use Rattle.std.specs.List.{flat_map, zip, enumerate_from, count_by}
use Rattle.wasm_values.specs.declared.number.ValType.{ValType}
use Rattle.wasm_syntax.specs.declared.module.FuncType.{FuncType}
use Rattle.wasm_syntax.specs.declared.module.Limits.{Limits}
use Rattle.wasm_syntax.specs.declared.module.GlobalType.{GlobalType}
use Rattle.wasm_syntax.specs.declared.module.Import.{Import}
use Rattle.wasm_syntax.specs.declared.module.ImportKind.{ImportKind}
use Rattle.wasm_syntax.specs.declared.module.ImportKind.TheVariants as import
use Rattle.wasm_syntax.specs.declared.module.Export.{Export}
use Rattle.wasm_syntax.specs.declared.module.ExportKind.{ExportKind}
use Rattle.wasm_syntax.specs.declared.module.ExportKind.TheVariants as export
use Rattle.wasm_syntax.specs.declared.module.Global.{Global}
use Rattle.wasm_syntax.specs.declared.module.Func.{Func}
use Rattle.wasm_syntax.specs.declared.module.Elem.{Elem}
use Rattle.wasm_syntax.specs.declared.module.Segment.{Segment}
use Rattle.wasm_syntax.specs.declared.module.Custom.{Custom}
use Rattle.wasm_syntax.specs.declared.module.Module.{Module}
use Rattle.wasm_syntax.specs.declared.module.Marks.{Marks}
use Rattle.wasm_syntax.specs.FlatForm.{flat_body}
use Rattle.module_listing.specs.Instructions.{value_type_text, items_text}

-- A byte lies between two others, both included.
abbrev pub is_between : ℕ → ℕ → ℕ → Bool
is_between low high b = nat_le low b && nat_le b high

-- A byte stands for itself in a string: it is printable, no quote and no backslash.
abbrev pub is_plain : ℕ → Bool
is_plain b = is_between 32 33 b || is_between 35 91 b || is_between 93 126 b

-- A byte of a string: itself, or else a backslash and two hexadecimal digits in lower case.
unfoldable pub string_byte : ℕ → List ℕ
string_byte b = if is_plain b then b ∷ [] else (92 ∷ digit_char (b / 16) ∷ digit_char (b % 16) ∷ [])

-- A name is a string in double quotes.
unfoldable pub quoted : List ℕ → List ℕ
quoted bytes = 34 ∷ (flat_map string_byte bytes ++ 34 ∷ [])

-- Value types with a space between two of them.
unfoldable pub value_types_text : List ValType → List ℕ
value_types_text [] = []
value_types_text (t ∷ ts) = value_type_text t ++ flat_map (λ u. 32 ∷ value_type_text u) ts

-- `[..] -> [..]`
unfoldable pub func_type_text : FuncType → List ℕ
func_type_text t = codes "[" ++ (value_types_text t.params ++ (codes "] -> [" ++ (value_types_text t.results ++ codes "]")))

-- The least size, and the greatest one behind a space, where there is one.
abbrev pub between_text : ℕ → Option ℕ → List ℕ
between_text least None = decimal least
between_text least (Some greatest) = decimal least ++ 32 ∷ decimal greatest

-- Limits: the least size, and the greatest one, if there is one.
unfoldable pub limits_text : Limits → List ℕ
limits_text l = between_text l.min l.max

-- The value type of a global, behind `mut ` where it may be written.
abbrev pub global_type_text : GlobalType → List ℕ
global_type_text g = if g.mutable then codes "mut " ++ value_type_text g.value else value_type_text g.value

-- What is imported.
unfoldable pub import_kind_text : ImportKind → List ℕ
import_kind_text (import.Func n) = codes "func " ++ decimal n
import_kind_text (import.Table l) = codes "table " ++ limits_text l
import_kind_text (import.Memory l) = codes "memory " ++ limits_text l
import_kind_text (import.Global g) = codes "global " ++ global_type_text g

-- The two names of an import, and what is imported.
unfoldable pub import_text : Import → List ℕ
import_text i = quoted i.«module» ++ 32 ∷ (quoted i.name ++ 32 ∷ import_kind_text i.kind)

-- What is exported.
unfoldable pub export_kind_text : ExportKind → List ℕ
export_kind_text (export.Func n) = codes "func " ++ decimal n
export_kind_text (export.Table n) = codes "table " ++ decimal n
export_kind_text (export.Memory n) = codes "memory " ++ decimal n
export_kind_text (export.Global n) = codes "global " ++ decimal n

-- The name of an export, and what is exported.
unfoldable pub export_text : Export → List ℕ
export_text e = quoted e.name ++ 32 ∷ export_kind_text e.kind

-- The type of a function.
abbrev pub func_text : Func → List ℕ
func_text f = codes "type " ++ decimal f.ty

-- The type of a global.
abbrev pub global_text : Global → List ℕ
global_text g = global_type_text g.ty

-- How many functions an element segment has.
abbrev pub elem_text : Elem → List ℕ
elem_text e = decimal (length e.funcs)

-- How many bytes a data segment has.
abbrev pub segment_text : Segment → List ℕ
segment_text s = decimal (length s.bytes)

-- The line of an entry: what it is, its number, and what is told of it.
unfoldable pub entry_line : List ℕ → ℕ → List ℕ → List ℕ
entry_line word n text = word ++ 32 ∷ (decimal n ++ (codes ": " ++ (text ++ 10 ∷ [])))

-- The lines of entries that are numbered from a number on.
unfoldable pub entries_text : {A : Type 0} → List ℕ → (A → List ℕ) → ℕ → List A → List ℕ
entries_text word text first xs = flat_map (λ e. entry_line word e.0 (text e.1)) (enumerate_from first xs)

-- The line of the start function, where there is one.
unfoldable pub start_text : Option ℕ → List ℕ
start_text None = []
start_text (Some f) = codes "start: " ++ (decimal f ++ 10 ∷ [])

-- The lines of a function's code: its number, and its instructions at their places.
unfoldable pub func_code_text : ℕ → List ℕ → Func → List ℕ
func_code_text n places f = codes "code " ++ (decimal n ++ 10 ∷ items_text places (flat_body f.body))

-- The lines of the code of functions that are numbered from a number on.
unfoldable pub code_text : ℕ → List (List ℕ) → List Func → List ℕ
code_text first places funcs = flat_map (λ e. func_code_text e.0 e.1.0 e.1.1) (enumerate_from first (zip places funcs))

-- The line of a custom section: its name, and how many bytes follow it.
unfoldable pub custom_line : Custom → List ℕ
custom_line c = codes "custom: " ++ (quoted c.name ++ 32 ∷ (decimal (length c.bytes) ++ 10 ∷ []))

-- An import is of a function.
abbrev pub is_func : ImportKind → Bool
is_func (import.Func n) = true
is_func _ = false

-- An import is of a table.
abbrev pub is_table : ImportKind → Bool
is_table (import.Table l) = true
is_table _ = false

-- An import is of a memory.
abbrev pub is_memory : ImportKind → Bool
is_memory (import.Memory l) = true
is_memory _ = false

-- An import is of a global.
abbrev pub is_global : ImportKind → Bool
is_global (import.Global g) = true
is_global _ = false

-- How many imports are of a kind: the numbers of the module's own entries follow on theirs (section 2.5.1).
unfoldable pub imported : (ImportKind → Bool) → List Import → ℕ
imported of_kind = count_by (λ i. of_kind i.kind)

-- The lines of types, imports, functions, tables, memories and globals.
unfoldable pub first_lines : Module → List ℕ
first_lines m =
    entries_text (codes "type") func_type_text 0 m.types ++
    (entries_text (codes "import") import_text 0 m.imports ++
    (entries_text (codes "function") func_text (imported is_func m.imports) m.funcs ++
    (entries_text (codes "table") limits_text (imported is_table m.imports) m.tables ++
    (entries_text (codes "memory") limits_text (imported is_memory m.imports) m.memories ++
    entries_text (codes "global") global_text (imported is_global m.imports) m.globals))))

-- The others: exports, the start function, element segments, code, data segments, and custom sections.
unfoldable pub last_lines : Module → Marks → List ℕ
last_lines m k =
    entries_text (codes "export") export_text 0 m.exports ++
    (start_text m.start ++
    (entries_text (codes "elem") elem_text 0 m.elems ++
    (code_text (imported is_func m.imports) k.code m.funcs ++
    (entries_text (codes "data") segment_text 0 m.segments ++
    flat_map custom_line m.customs))))

-- The listing of a module with its marks: the entries in the order of the ids of their sections (section 5.5.2), the custom
-- sections last.
unfoldable pub listing_text : Module → Marks → List ℕ
listing_text m k = first_lines m ++ last_lines m k

-- The marks have a list of places for each function, and in it one place for each instruction of its body, `else` and `end`
-- included.
pub record HasPlaces (m : Module) (k : Marks) : Type 0 where
  pub code : length k.code ≡ length m.funcs
  pub items : (n : ℕ) (f : Func) (places : List ℕ) → slice_get m.funcs n ≡ Some f → slice_get k.code n ≡ Some places → length places ≡ length (flat_body f.body)
