-- The smallest class of modules that the outline check takes, named First.
use Rattle.std.specs.Prelude.{◌≡◌, ◌≢◌, ℕ, zero, suc, ◌^◌, ◌<◌, true, List, [], ◌∷◌, length, All, AllPairs, None}
use Rattle.wasm_values.specs.declared.number.ValType.TheVariants as type
use Rattle.wasm_values.specs.declared.number.Val.TheVariants as value
use Rattle.wasm_syntax.specs.declared.instr.Instr.{Instr, Plain, Const, GlobalGet, GlobalSet}
use Rattle.wasm_syntax.specs.declared.instr.Plain.TheVariants.{Nop, Drop}
use Rattle.wasm_syntax.specs.declared.module.FuncType.{FuncType}
use Rattle.wasm_syntax.specs.declared.module.Func.{Func}
use Rattle.wasm_syntax.specs.declared.module.Global.{Global}
use Rattle.wasm_syntax.specs.declared.module.Export.{Export}
use Rattle.wasm_syntax.specs.declared.module.ExportKind.{ExportKind}
use Rattle.wasm_syntax.specs.declared.module.ExportKind.TheVariants as kind
use Rattle.wasm_syntax.specs.declared.module.Custom.{Custom}
use Rattle.wasm_syntax.specs.declared.module.Module.{Module}
use Rattle.wasm_syntax.specs.FlatForm.{flat_body}

-- A number fits 32 bits (Core 2.2.2).
abbrev pub IsU32 : ℕ → Type 0
IsU32 n = n < 2 ^ 32

-- A vector has fewer than 2^32 entries (Core 2.1.3).
abbrev pub IsVector : {A : Type 0} → List A → Type 0
IsVector xs = length xs < 2 ^ 32

-- A list holds bytes (Core 2.2.1).
abbrev pub AreBytes : List ℕ → Type 0
AreBytes = All (λ byte. byte < 256)

-- A function type is `[] -> []` (Core 2.3.3).
pub record IsEmptyType (ty : FuncType) : Type 0 where
  pub params : ty.params ≡ []
  pub results : ty.results ≡ []

-- An expression is one `i32.const` of a number of 32 bits (Core 2.4.6).
abbrev pub IsI32Const : List Instr → Type 0
IsI32Const (Const (value.I32 n) ∷ []) = IsU32 n
IsI32Const _ = ⊥

-- A global is a mutable i32 whose initial value is one `i32.const` (Core 2.5.6).
pub record IsFirstGlobal (global : Global) : Type 0 where
  pub value : global.ty.value ≡ type.I32
  pub mutable : global.ty.mutable ≡ true
  pub init : IsI32Const global.init

-- With so many globals and so many operands at hand, the instructions are of `nop`, `drop`, `i32.const`, `global.get`
-- and `global.set` alone, every global exists, no operand is missing, and none is left at the end (Core 3.3.6).
abbrev pub IsFirstBody : ℕ → ℕ → List Instr → Type 0
IsFirstBody globals zero [] = Unit {0}
IsFirstBody globals depth (Plain Nop ∷ rest) = IsFirstBody globals depth rest
IsFirstBody globals (suc depth) (Plain Drop ∷ rest) = IsFirstBody globals depth rest
IsFirstBody globals depth (Const (value.I32 n) ∷ rest) = IsU32 n × IsFirstBody globals (suc depth) rest
IsFirstBody globals depth (GlobalGet k ∷ rest) = (k < globals) × IsFirstBody globals (suc depth) rest
IsFirstBody globals (suc depth) (GlobalSet k ∷ rest) = (k < globals) × IsFirstBody globals depth rest
IsFirstBody _ _ _ = ⊥

-- A function has a type that exists, no declared locals, and such a body (Core 2.5.3).
pub record IsFirstFunc (types globals : ℕ) (func : Func) : Type 0 where
  pub ty : func.ty < types
  pub locals : func.locals ≡ []
  pub body : IsFirstBody globals 0 func.body

-- What is exported is a function that exists (Core 2.5.10).
abbrev pub IsFunction : ℕ → ExportKind → Type 0
IsFunction funcs (kind.Func f) = f < funcs
IsFunction funcs _ = ⊥

-- An export has a name of bytes and is such a function (Core 2.5.10).
pub record IsFirstExport (funcs : ℕ) (export : Export) : Type 0 where
  pub name : AreBytes export.name
  pub kind : IsFunction funcs export.kind

-- The numbers of a custom section are in their ranges (Core 5.5.3).
pub record IsCustom (custom : Custom) : Type 0 where
  pub after : custom.after < 256
  pub name : AreBytes custom.name
  pub bytes : AreBytes custom.bytes

-- A module is First: every type is `[] -> []`; there are no imports, tables, memories, start, element segments or data
-- segments; globals, functions and exports are as above, and the names of exports differ (Core 2.5). Nothing is said
-- of the module's bytes.
pub record IsFirst (m : Module) : Type 0 where
  pub few_types : IsVector m.types
  pub few_funcs : IsVector m.funcs
  pub few_globals : IsVector m.globals
  pub few_exports : IsVector m.exports
  pub types : All IsEmptyType m.types
  pub imports : m.imports ≡ []
  pub funcs : All (IsFirstFunc (length m.types) (length m.globals)) m.funcs
  pub tables : m.tables ≡ []
  pub memories : m.memories ≡ []
  pub globals : All IsFirstGlobal m.globals
  pub exports : All (IsFirstExport (length m.funcs)) m.exports
  pub names : AllPairs (λ first second. first.name ≢ second.name) m.exports
  pub start : m.start ≡ None
  pub elems : m.elems ≡ []
  pub segments : m.segments ≡ []
  pub customs : All IsCustom m.customs

-- The places of a body's instructions are as many as its instructions, its last `end` counted.
abbrev pub HasPlaceEach : Func → List ℕ → Type 0
HasPlaceEach func places = length places ≡ length (flat_body func.body)
