-- What a valid module must pass to be of the form First. The rest of the form comes from validity.
use Rattle.std.specs.Prelude.{◌^◌, Bool, true, false, ◌&&◌, ◌==◌, nat_lt, List, length, is_none}
use Rattle.std.specs.List.{list_all}
use Rattle.wasm_values.specs.declared.number.Val.TheVariants as value
use Rattle.wasm_values.specs.declared.number.ValType.{ValType}
use Rattle.wasm_values.specs.declared.number.ValType.TheVariants as type
use Rattle.wasm_syntax.specs.declared.instr.Instr.{Instr, Plain, Const, GlobalGet, GlobalSet}
use Rattle.wasm_syntax.specs.declared.instr.Plain.TheVariants.{Nop, Drop}
use Rattle.wasm_syntax.specs.declared.flat.Flat.{Flat}
use Rattle.wasm_syntax.specs.declared.flat.Flat.TheVariants.{One}
use Rattle.wasm_syntax.specs.declared.module.FuncType.{FuncType}
use Rattle.wasm_syntax.specs.declared.module.Func.{Func}
use Rattle.wasm_syntax.specs.declared.module.Global.{Global}
use Rattle.wasm_syntax.specs.declared.module.ExportKind.{ExportKind}
use Rattle.wasm_syntax.specs.declared.module.ExportKind.TheVariants as kind
use Rattle.wasm_syntax.specs.declared.module.Module.{Module}

-- Whether a list has no entry.
abbrev pub is_empty : {A : Type 0} → List A → Bool
is_empty xs = length xs == 0

-- Whether a vector has fewer than 2^32 entries (Core 2.1.3).
abbrev pub is_vector : {A : Type 0} → List A → Bool
is_vector xs = nat_lt (length xs) (2 ^ 32)

-- Whether a function type is `[] -> []` (Core 2.3.3).
abbrev pub is_empty_type : FuncType → Bool
is_empty_type ty = is_empty ty.params && is_empty ty.results

-- Whether a value type is i32 (Core 2.3.1).
abbrev pub is_i32 : ValType → Bool
is_i32 type.I32 = true
is_i32 type.I64 = false

-- Whether a global is a mutable i32 (Core 2.5.6).
abbrev pub is_first_global : Global → Bool
is_first_global global = is_i32 global.ty.value && global.ty.mutable

-- Whether what is exported is a function (Core 2.5.10).
abbrev pub is_function : ExportKind → Bool
is_function (kind.Func f) = true
is_function _ = false

-- Whether an instruction is one of `nop`, `drop`, `i32.const`, `global.get` and `global.set` (Core 2.4).
abbrev pub is_first_instr : Instr → Bool
is_first_instr (Plain Nop) = true
is_first_instr (Plain Drop) = true
is_first_instr (Const (value.I32 n)) = true
is_first_instr (GlobalGet k) = true
is_first_instr (GlobalSet k) = true
is_first_instr _ = false

-- Whether an item of code is such an instruction.
abbrev pub is_first_item : Flat → Bool
is_first_item (One instr) = is_first_instr instr
is_first_item _ = false

-- Whether a function has no declared locals and only such instructions (Core 2.5.3).
abbrev pub is_first_func : Func → Bool
is_first_func func = is_empty func.locals && list_all is_first_instr func.body

-- Whether the four vectors that a module of the form may have are vectors.
abbrev pub are_vectors : Module → Bool
are_vectors m = is_vector m.types && is_vector m.funcs && is_vector m.globals && is_vector m.exports

-- Whether a module has none of the parts that the form leaves out.
abbrev pub lacks_other_parts : Module → Bool
lacks_other_parts m =
    is_empty m.imports && is_empty m.tables && is_empty m.memories && is_none m.start && is_empty m.elems && is_empty m.segments

-- Whether the parts that it has are as in the form.
abbrev pub has_first_parts : Module → Bool
has_first_parts m =
    list_all is_empty_type m.types
    && list_all is_first_global m.globals
    && list_all (λ export. is_function export.kind) m.exports
    && list_all is_first_func m.funcs

-- Whether a valid module is of the form.
abbrev pub is_first : Module → Bool
is_first m = are_vectors m && lacks_other_parts m && has_first_parts m
