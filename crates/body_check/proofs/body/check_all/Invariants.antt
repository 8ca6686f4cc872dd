use Rattle.std.proofs.Common.{◌≡◌, ℕ, ◌<◌, Some, slice_get}
use Rattle.wasm_syntax.specs.declared.module.Func.{Func}
use Rattle.wasm_typing.specs.Valid.{FuncValid}
use Rattle.body_check.proofs.body.check_all.Given as goal

abbrev pub invariant-loop-n : goal.invariant-loop-n
invariant-loop-n l = (k : ℕ) (f : Func) → k < l.n → slice_get l.«module».funcs k ≡ Some f → FuncValid l.«module» f
