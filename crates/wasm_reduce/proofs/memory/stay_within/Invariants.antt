use Rattle.std.proofs.Common.{◌≡◌, ◌+◌, take}
use Rattle.std.specs.List.{sum_by}
use Rattle.wasm_store.specs.Memory.{pages_of}
use Rattle.wasm_reduce.proofs.memory.stay_within.Given as goal

abbrev pub invariant-loop-memory : goal.invariant-loop-memory
invariant-loop-memory l = record {
  sum : l.total ≡ l.pages + sum_by pages_of (take l.memory-index l.memories);
}
