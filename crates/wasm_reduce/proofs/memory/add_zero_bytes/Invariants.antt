use Rattle.std.proofs.Common.{◌≡◌, ◌++◌, replicate}
use Rattle.wasm_reduce.proofs.memory.add_zero_bytes.Given as goal

abbrev pub invariant-loop : goal.invariant-loop
invariant-loop l = l.bytes ≡ l.initial.bytes ++ replicate l.counter 0
