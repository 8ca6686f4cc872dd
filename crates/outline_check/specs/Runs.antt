-- What a verified outline says of runs: the invariant's formulas are true of the globals at first, and each function
-- keeps them true.
use Rattle.std.specs.Prelude.{◌≡◌, ℕ, ◌^◌, ◌<◌, true, pos, List, [], ◌∷◌, length, map, drop, slice_get, slice_index, slice_set, All, Some}
use Rattle.std.specs.List.{list_all}
use Rattle.std.specs.Ordering.{int_eq}
use Rattle.wasm_values.specs.declared.number.Val.TheVariants as value
use Rattle.wasm_syntax.specs.declared.instr.Instr.{Instr, Plain, Const, GlobalGet, GlobalSet}
use Rattle.wasm_syntax.specs.declared.instr.Plain.TheVariants.{Drop}
use Rattle.wasm_syntax.specs.declared.module.Func.{Func}
use Rattle.wasm_syntax.specs.declared.module.Module.{Module}
use Rattle.wasm_syntax.specs.declared.module.Marks.{Marks}
use Rattle.outline_check.specs.declared.notes.Formula.{Formula}
use Rattle.outline_check.specs.declared.notes.Notes.{Notes}
use Rattle.outline_check.specs.First.{IsFirst}
use Rattle.outline_check.specs.Refusals.{Verified}
use Rattle.outline_check.specs.Outlines.{outline}

-- The globals after instructions of First, from values of globals and operands with the top first (Core 4.4.1 to 4.4.3).
abbrev pub ran : List ℕ → List ℕ → List Instr → List ℕ
ran globals operands [] = globals
ran globals operands (Plain Drop ∷ rest) = ran globals (drop 1 operands) rest
ran globals operands (Const (value.I32 n) ∷ rest) = ran globals (n ∷ operands) rest
ran globals operands (GlobalGet k ∷ rest) = ran globals (slice_index globals k ∷ operands) rest
ran globals (top ∷ operands) (GlobalSet k ∷ rest) = ran (slice_set globals k top) operands rest
ran globals operands (_ ∷ rest) = ran globals operands rest

-- The value that a global begins with.
abbrev pub initial_value : List Instr → ℕ
initial_value (Const (value.I32 n) ∷ []) = n
initial_value _ = 0

-- The formulas are true of these globals.
abbrev pub AreMet : List Formula → List ℕ → Type 0
AreMet formulas globals =
    list_all (λ formula. int_eq (pos (slice_index globals formula.global)) formula.value) formulas ≡ true

-- The globals have values of 32 bits, one each.
pub record AreValues (m : Module) (globals : List ℕ) : Type 0 where
  pub each : length globals ≡ length m.globals
  pub values : All (λ number. number < 2 ^ 32) globals

-- Where the outline is verified the invariant's formulas are true of the initial globals, and each function that begins
-- with globals of which they are true ends with such globals.
abbrev pub OutlinesKeepTheInvariant : Type 0
OutlinesKeepTheInvariant =
    (m : Module) (marks : Marks) (notes : Notes) → IsFirst m → outline m marks notes ≡ Verified →
    AreMet notes.invariant.formulas (map (λ global. initial_value global.init) m.globals)
    × ((f : ℕ) (func : Func) (globals : List ℕ) → slice_get m.funcs f ≡ Some func → AreValues m globals →
    AreMet notes.invariant.formulas globals → AreMet notes.invariant.formulas (ran globals [] func.body))
