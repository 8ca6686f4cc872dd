use Rattle.std.proofs.Common.{◌≡◌, take}
use Rattle.wasm_store.specs.Memory.{overwritten}
use Rattle.module_instances.proofs.writes.write_bytes.Given as goal

abbrev pub invariant-loop-k : goal.invariant-loop-k
invariant-loop-k l = l.bytes ≡ overwritten l.initial.bytes l.at (take l.k l.others)
