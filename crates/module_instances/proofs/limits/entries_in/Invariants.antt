use Rattle.std.proofs.Common.{◌≡◌, length, min, sum_by, take}
use Rattle.wasm_store.specs.declared.store.TableInst.{TableInst}
use Rattle.module_instances.proofs.limits.entries_in.Given as goal

abbrev pub invariant-loop-table : goal.invariant-loop-table
invariant-loop-table l = l.entries ≡ min (sum_by (λ (t : TableInst). length t.entries) (take l.table-index l.tables)) 18446744073709551615
