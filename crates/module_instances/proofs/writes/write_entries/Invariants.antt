use Rattle.std.proofs.Common.{◌≡◌, Some, map, take}
use Rattle.std.specs.Prelude.{slice_index}
use Rattle.wasm_store.specs.Memory.{overwritten}
use Rattle.module_instances.proofs.writes.write_entries.Given as goal

abbrev pub invariant-loop-k : goal.invariant-loop-k
invariant-loop-k l = l.entries ≡ overwritten l.initial.entries l.at (map (λ x. Some (slice_index l.funcs x)) (take l.k l.numbers))
