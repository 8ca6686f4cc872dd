-- Reading types, limits, imports and exports (Core Specification, 5.3 and 5.5).
use Rattle.std.specs.Prelude.{ℕ, ◌==◌, ◌||◌, if◌then◌else◌, Bool, true, false, Option, Some, None, Result, Ok, Err}
use Rattle.wasm_values.specs.declared.number.ValType.{ValType}
use Rattle.wasm_values.specs.declared.number.ValType.TheVariants.{I32, I64}
use Rattle.wasm_syntax.specs.declared.module.FuncType.{FuncType}
use Rattle.wasm_syntax.specs.declared.module.Limits.{Limits}
use Rattle.wasm_syntax.specs.declared.module.GlobalType.{GlobalType}
use Rattle.wasm_syntax.specs.declared.module.Import.{Import}
use Rattle.wasm_syntax.specs.declared.module.ImportKind.{ImportKind}
use Rattle.wasm_syntax.specs.declared.module.ImportKind.TheVariants as import
use Rattle.wasm_syntax.specs.declared.module.Export.{Export}
use Rattle.wasm_syntax.specs.declared.module.ExportKind.{ExportKind}
use Rattle.wasm_syntax.specs.declared.module.ExportKind.TheVariants as export
use Rattle.binary_grammar.specs.declared.fault.DecodeFault.{DecodeFault}
use Rattle.binary_grammar.specs.declared.fault.DecodeFault.TheVariants.{Malformed}
use Rattle.binary_grammar.specs.declared.fault.DecodeWord.TheVariants.{Byte, Float}
use Rattle.wasm_values.specs.declared.limit.LimitWord.TheVariants.{Params}
use Rattle.binary_grammar.specs.words.Reading.{◌>>=◌, Reader, then_at, done_at, of_byte, tagged_at, number_at, name_at, list_at, limited_at}

-- The value type that a byte at a place is; that of a floating-point type has a fault of its own (5.3.1).
abbrev pub value_type_of : ℕ → ℕ → Result ValType DecodeFault
value_type_of at b =
    if b == 0x7f then Ok I32 else (if b == 0x7e then Ok I64 else
    (if b == 0x7d || b == 0x7c then Err (Malformed at Float) else Err (Malformed at Byte)))

-- A value type (5.3.1).
unfoldable pub value_type_at : Reader ValType
value_type_at = of_byte value_type_of

-- A byte that must be this one.
abbrev pub tag_of : ℕ → ℕ → ℕ → Result ℕ DecodeFault
tag_of tag at b = if b == tag then Ok b else Err (Malformed at Byte)

-- The same, read from the front.
unfoldable pub tag_at : ℕ → Reader ℕ
tag_at tag = of_byte (tag_of tag)

-- A byte that must be 0 or 1.
abbrev pub flag_of : ℕ → ℕ → Result Bool DecodeFault
flag_of at b = if b == 0 then Ok false else (if b == 1 then Ok true else Err (Malformed at Byte))

-- The same, read from the front.
unfoldable pub flag_at : Reader Bool
flag_at = of_byte flag_of

-- The block type that a byte at a place is (5.3.2).
abbrev pub block_type_of : ℕ → ℕ → Result (Option ValType) DecodeFault
block_type_of at b = if b == 0x40 then Ok None else (value_type_of at b >>= λ t. Ok (Some t))

-- A block type (5.3.2).
unfoldable pub block_type_at : Reader (Option ValType)
block_type_at = of_byte block_type_of

-- A function type (5.3.3). It has at most so many parameters.
unfoldable pub func_type_at : ℕ → Reader FuncType
func_type_at most =
    then_at (tag_at 0x60) (λ tag. then_at (limited_at value_type_at most Params) (λ params. then_at (list_at value_type_at) (λ results.
    done_at (record { params = params.0; results = results }))))

-- The maximum of limits, which there is where the flag says so (5.3.4).
abbrev pub greatest_at : Bool → Reader (Option ℕ)
greatest_at false = done_at None
greatest_at true = then_at number_at (λ n. done_at (Some n))

-- Limits (5.3.4).
unfoldable pub limits_at : Reader Limits
limits_at =
    then_at flag_at (λ flag. then_at number_at (λ least. then_at (greatest_at flag) (λ greatest.
    done_at (record { min = least; max = greatest }))))

-- A table type (5.3.6).
unfoldable pub table_type_at : Reader Limits
table_type_at = then_at (tag_at 0x70) (λ tag. limits_at)

-- A global type (5.3.7).
unfoldable pub global_type_at : Reader GlobalType
global_type_at = then_at value_type_at (λ t. then_at flag_at (λ flag. done_at (record { value = t; mutable = flag })))

-- What is imported, by the byte of its kind, which stands at a place.
unfoldable pub import_kind_of : ℕ → ℕ → Reader ImportKind
import_kind_of at b end bytes =
    if b == 0 then (then_at number_at (λ x. done_at (import.Func x)) end bytes) else
    (if b == 1 then (then_at table_type_at (λ x. done_at (import.Table x)) end bytes) else
    (if b == 2 then (then_at limits_at (λ x. done_at (import.Memory x)) end bytes) else
    (if b == 3 then (then_at global_type_at (λ x. done_at (import.Global x)) end bytes) else Err (Malformed at Byte))))

-- What is imported: its kind's byte, and its description (5.5.5).
unfoldable pub import_kind_at : Reader ImportKind
import_kind_at = tagged_at import_kind_of

-- An import (5.5.5).
unfoldable pub import_at : Reader Import
import_at =
    then_at name_at (λ first. then_at name_at (λ second. then_at import_kind_at (λ kind.
    done_at (record { «module» = first; name = second; kind = kind }))))

-- What is exported, by the byte of its kind, which stands at a place.
unfoldable pub export_kind_of : ℕ → ℕ → Reader ExportKind
export_kind_of at b end bytes =
    if b == 0 then (then_at number_at (λ x. done_at (export.Func x)) end bytes) else
    (if b == 1 then (then_at number_at (λ x. done_at (export.Table x)) end bytes) else
    (if b == 2 then (then_at number_at (λ x. done_at (export.Memory x)) end bytes) else
    (if b == 3 then (then_at number_at (λ x. done_at (export.Global x)) end bytes) else Err (Malformed at Byte))))

-- What is exported: its kind's byte, and its index (5.5.10).
unfoldable pub export_kind_at : Reader ExportKind
export_kind_at = tagged_at export_kind_of

-- An export (5.5.10).
unfoldable pub export_at : Reader Export
export_at = then_at name_at (λ name. then_at export_kind_at (λ kind. done_at (record { name = name; kind = kind })))
