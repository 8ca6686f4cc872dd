-- What of a module others can reach: its globals, memory, table and functions.
use Rattle.std.specs.Prelude.{ℕ, zero, suc, ◌-◌, ◌==◌, Bool, true, false, not, ◌&&◌, ◌||◌, nat_lt, nat_le, if◌then◌else◌, List, [], ◌∷◌, length}
use Rattle.std.specs.List.{list_any}
use Rattle.wasm_syntax.specs.declared.module.Module.{Module}
use Rattle.wasm_syntax.specs.declared.module.GlobalType.{GlobalType}
use Rattle.wasm_syntax.specs.declared.module.ExportKind.{ExportKind}
use Rattle.wasm_syntax.specs.declared.module.ExportKind.TheVariants as export
use Rattle.wasm_typing.specs.Valid.{func_types_of, globals_of, imported_globals_of}
use Rattle.escape_analysis.specs.declared.stability.Exposure.{Exposure}
use Rattle.escape_analysis.specs.declared.stability.Stability.{Stability}
use Rattle.escape_analysis.specs.declared.stability.Stability.TheVariants.{Unstable, Immutable, Private}

-- Whether an export is the function with a number.
abbrev pub exports_func : ℕ → ExportKind → Bool
exports_func f (export.Func x) = x == f
exports_func f _ = false

-- Whether an export is the global with a number.
abbrev pub exports_global : ℕ → ExportKind → Bool
exports_global k (export.Global x) = x == k
exports_global k _ = false

-- Whether an export is a memory.
abbrev pub exports_memory : ExportKind → Bool
exports_memory (export.Memory x) = true
exports_memory _ = false

-- Whether an export is a table.
abbrev pub exports_table : ExportKind → Bool
exports_table (export.Table x) = true
exports_table _ = false

-- Whether some export of a module is what the test wants.
abbrev pub is_exported : Module → (ExportKind → Bool) → Bool
is_exported m test = list_any (λ e. test e.kind) m.exports

-- A global is private where it is defined, mutable and not exported, and immutable where it is immutable.
abbrev pub stability : Module → ℕ → GlobalType → Stability
stability m k g =
    if not g.mutable then Immutable
    else if nat_le (length (imported_globals_of m)) k && not (is_exported m (exports_global k)) then Private
    else Unstable

-- the stability of each of these globals, which have the numbers from k on
abbrev pub stabilities_from : Module → ℕ → List GlobalType → List Stability
stabilities_from m k [] = []
stabilities_from m k (g ∷ gs) = stability m k g ∷ stabilities_from m (suc k) gs

-- Whether a list has items.
abbrev pub is_some_item : {A : Type 0} → List A → Bool
is_some_item [] = false
is_some_item (x ∷ xs) = true

-- Whether a memory is defined and not exported. A valid module has at most one, imported ones counted.
abbrev pub has_private_memory : Module → Bool
has_private_memory m = is_some_item m.memories && not (is_exported m exports_memory)

-- Whether a table is defined and not exported. A valid module has at most one, imported ones counted.
abbrev pub has_private_table : Module → Bool
has_private_table m = is_some_item m.tables && not (is_exported m exports_table)

-- Whether an element segment names the function with a number.
abbrev pub is_in_segment : Module → ℕ → Bool
is_in_segment m f = list_any (λ e. list_any (λ x. x == f) e.funcs) m.elems

-- How many functions a module imports.
abbrev pub imported_funcs : Module → ℕ
imported_funcs m = length (func_types_of m) - length m.funcs

-- Whether a function is exposed: it is imported or exported, or an element segment names it and the table is imported or
-- exported.
abbrev pub is_exposed : Module → ℕ → Bool
is_exposed m f =
    nat_lt f (imported_funcs m) || (is_exported m (exports_func f) || (not (has_private_table m) && is_in_segment m f))

-- whether each of so many functions is exposed, which have the numbers from f on
abbrev pub exposed_from : Module → (f count : ℕ) → List Bool
exposed_from m f zero = []
exposed_from m f (suc n) = is_exposed m f ∷ exposed_from m (suc f) n

-- The exposure of a module.
abbrev pub exposure_of : Module → Exposure
exposure_of m = record {
  globals = stabilities_from m 0 (globals_of m);
  memory = has_private_memory m;
  table = has_private_table m;
  exposed = exposed_from m 0 (length (func_types_of m));
}
