-- Bounds on the steps of a module's functions, over instruction trees (Core Specification, sections 2.4 and 2.5.3). The
-- bounds are the project's own.
use Rattle.std.specs.Prelude.{◌≡◌, ℕ, ◌+◌, max, Bool, true, false, IsTrue, count_by, slice_get, Some}
use Rattle.wasm_syntax.specs.declared.module.Import.{Import}
use Rattle.wasm_syntax.specs.declared.module.ImportKind.{ImportKind}
use Rattle.wasm_syntax.specs.declared.module.ImportKind.TheVariants as import
use Rattle.wasm_syntax.specs.declared.module.Func.{Func}
use Rattle.wasm_syntax.specs.declared.module.Module.{Module}
use Rattle.wasm_syntax.specs.Trees as tree
use Rattle.wasm_syntax.specs.Trees.{Instruction, Sequence, Empty, Then, IfElse, sequence_of}

-- What is imported is a function (section 2.5.11).
abbrev pub is_function : ImportKind → Bool
is_function (import.Func t) = true
is_function _ = false

-- How many functions a module imports. The numbers of the functions that it defines begin there (section 2.5.1).
abbrev pub imported_funcs : Module → ℕ
imported_funcs m = count_by (λ (i : Import). is_function i.kind) m.imports

-- An instruction that holds no others and calls nothing (section 2.4.5).
abbrev pub is_single : Instruction → Bool
is_single (tree.Block ty body) = false
is_single (tree.Loop ty body) = false
is_single (tree.If ty first) = false
is_single (IfElse ty first second) = false
is_single (tree.Call x) = false
is_single (tree.CallIndirect x) = false
is_single _ = true

-- The bounded functions are the least set of defined functions without `loop` and `call_indirect` whose calls all go to
-- functions of this set. So the relation is inductive: a bound is a finite tree of calls.
mutual
  -- An instruction has a bound. A `loop`, a `call_indirect` and a call of an imported function have none.
  pub data InstructionBound (m : Module) : Instruction → (bound : ℕ) → Type 0 where
    single : (i : Instruction) → IsTrue (is_single i) → InstructionBound m i 1
    call : (x k n : ℕ) → x ≡ imported_funcs m + k → FunctionBound m k n → InstructionBound m (tree.Call x) (1 + n)
    block : (ty : _) (body : Sequence) (n : ℕ) → SequenceBound m body n → InstructionBound m (tree.Block ty body) (2 + n)
    one_side : (ty : _) (first : Sequence) (n : ℕ) → SequenceBound m first n → InstructionBound m (tree.If ty first) (2 + max n 0)
    two_sides : (ty : _) (first second : Sequence) (n p : ℕ) → SequenceBound m first n → SequenceBound m second p →
        InstructionBound m (IfElse ty first second) (2 + max n p)

  -- A sequence has a bound: the sum of those of its instructions.
  pub data SequenceBound (m : Module) : Sequence → (bound : ℕ) → Type 0 where
    nothing : SequenceBound m Empty 0
    more : (i : Instruction) (rest : Sequence) (n p : ℕ) → InstructionBound m i n → SequenceBound m rest p → SequenceBound m (Then i rest) (n + p)

  -- The function with a place among those that the module defines has a bound: that of its body, and 1 for its end.
  pub data FunctionBound (m : Module) : (k bound : ℕ) → Type 0 where
    function : (k n : ℕ) (f : Func) → slice_get m.funcs k ≡ Some f → SequenceBound m (sequence_of f.body) n → FunctionBound m k (n + 1)
