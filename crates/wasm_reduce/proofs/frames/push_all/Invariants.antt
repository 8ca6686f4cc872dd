use Rattle.std.proofs.Common.{◌≡◌, ◌++◌, take}
use Rattle.wasm_reduce.proofs.frames.push_all.Given as goal

abbrev pub invariant-loop-value : goal.invariant-loop-value
invariant-loop-value l = l.operands ≡ l.initial.operands ++ take l.value-index l.values
