use Rattle.std.proofs.Common.{◌≡◌, ◌++◌, take}
use Rattle.std.specs.List.{flat_map}
use Rattle.wasm_write.specs.Encoding.{table_type_text}
use Rattle.wasm_write.proofs.sections.write_table_types.Given as goal

abbrev pub invariant-loop-table : goal.invariant-loop-table
invariant-loop-table l = l.out ≡ l.initial.out ++ flat_map table_type_text (take l.table-index l.tables)
