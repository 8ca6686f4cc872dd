use Rattle.std.proofs.Common.{◌≡◌, min, sum_by, take}
use Rattle.wasm_store.specs.Memory.{pages_of}
use Rattle.module_instances.proofs.limits.pages_in.Given as goal

abbrev pub invariant-loop-memory : goal.invariant-loop-memory
invariant-loop-memory l = l.pages ≡ min (sum_by pages_of (take l.memory-index l.memories)) 18446744073709551615
