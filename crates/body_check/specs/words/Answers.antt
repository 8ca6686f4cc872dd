-- Words for what the parts of the validator answer.
use Rattle.std.specs.Prelude.{◌≡◌, ℕ, length, ◌<◌, All, Result}
use Rattle.wasm_syntax.specs.declared.module.Module.{Module}
use Rattle.wasm_syntax.specs.declared.module.Func.{Func}
use Rattle.wasm_typing.specs.declared.fault.ValidWord.{ValidWord}
use Rattle.wasm_typing.specs.declared.fault.ValidFault.{ValidFault}
use Rattle.wasm_typing.specs.faults.Faults.{fault_of}
use Rattle.wasm_values.specs.Answers as answers
use Rattle.body_check.specs.declared.scope.Scope.{Scope}
use Rattle.wasm_typing.specs.Valid.{TypeValid, func_types_of, tables_of, memories_of, globals_of, imported_globals_of}

-- Where all is well the first holds; a fault is as the second says; or memory is wanting.
abbrev pub Answers : {A : Type 0} → (A → Type 0) → (ℕ → ValidWord → Type 0) → Result A ValidFault → Type 0
Answers holds fails result = answers.Answers fault_of holds (λ fault. fails fault.0 fault.1) result

-- A scope has what the entries of a module may name.
pub record IsScopeOf (m : Module) (s : Scope) : Type 0 where
  pub funcs : s.funcs.items ≡ func_types_of m
  pub tables : s.tables ≡ length (tables_of m)
  pub memories : s.memories ≡ length (memories_of m)
  pub imported : s.imported.items ≡ imported_globals_of m
  pub globals : s.globals.items ≡ globals_of m

-- What bodies rest on: types have at most one result each, and functions have types that exist.
pub record HasTypes (m : Module) : Type 0 where
  pub few : All TypeValid m.types
  pub known : All (λ t. t < length m.types) (func_types_of m)
  pub own : All (λ (f : Func). f.ty < length m.types) m.funcs
