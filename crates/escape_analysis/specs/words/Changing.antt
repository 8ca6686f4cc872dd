-- Words of contracts and proofs: lists some of whose items are changed, and a module's functions and globals before it is
-- known which are exported.
use Rattle.std.specs.Prelude.{ℕ, suc, ◌==◌, Bool, true, false, if◌then◌else◌, List, [], ◌∷◌, ◌++◌, map}
use Rattle.std.specs.List.{filter_map, list_any}
use Rattle.wasm_syntax.specs.declared.module.Module.{Module}
use Rattle.wasm_syntax.specs.declared.module.Import.{Import}
use Rattle.wasm_syntax.specs.declared.module.Export.{Export}
use Rattle.wasm_syntax.specs.declared.module.Elem.{Elem}
use Rattle.wasm_syntax.specs.declared.module.Func.{Func}
use Rattle.wasm_syntax.specs.declared.module.Global.{Global}
use Rattle.wasm_syntax.specs.declared.module.GlobalType.{GlobalType}
use Rattle.wasm_typing.specs.Valid.{func_import, imported_globals_of}
use Rattle.escape_analysis.specs.declared.stability.Stability.{Stability}
use Rattle.escape_analysis.specs.declared.stability.Stability.TheVariants.{Unstable, Immutable, Private}
use Rattle.escape_analysis.specs.Exposure.{exports_func, exports_global}

-- The list, whose items have the numbers from k on, once those whose numbers pass a test are changed.
abbrev pub changed_where : {A : Type 0} → (A → A) → (ℕ → Bool) → ℕ → List A → List A
changed_where change test k [] = []
changed_where change test k (x ∷ xs) = (if test k then change x else x) ∷ changed_where change test (suc k) xs

-- Whether some of these exports is the function with a number.
abbrev pub func_among : List Export → ℕ → Bool
func_among es f = list_any (λ (e : Export). exports_func f e.kind) es

-- Whether some of these exports is the global with a number.
abbrev pub global_among : List Export → ℕ → Bool
global_among es k = list_any (λ (e : Export). exports_global k e.kind) es

-- Whether a number is one of these.
abbrev pub number_among : List ℕ → ℕ → Bool
number_among xs f = list_any (λ x. x == f) xs

-- Whether some of these element segments names the function with a number.
abbrev pub named_among : List Elem → ℕ → Bool
named_among es f = list_any (λ (e : Elem). number_among e.funcs f) es

-- Exposed, whatever it was.
abbrev pub exposing : Bool → Bool
exposing b = true

-- The stability of a global once it is exported.
abbrev pub exporting : Stability → Stability
exporting Unstable = Unstable
exporting Immutable = Immutable
exporting Private = Unstable

-- The stability of an imported global.
abbrev pub imported_stability : GlobalType → Stability
imported_stability g = if g.mutable then Unstable else Immutable

-- The stability of a global that the module defines, where it isn't exported.
abbrev pub defined_stability : GlobalType → Stability
defined_stability g = if g.mutable then Private else Immutable

-- The stability of each global, were none exported.
abbrev pub unexported_globals : Module → List Stability
unexported_globals m =
    map imported_stability (imported_globals_of m) ++ map (λ (g : Global). defined_stability g.ty) m.globals

-- Whether each function is imported.
abbrev pub imported_marks : Module → List Bool
imported_marks m =
    map (λ t. true) (filter_map (λ (i : Import). func_import i.kind) m.imports) ++ map (λ (f : Func). false) m.funcs
