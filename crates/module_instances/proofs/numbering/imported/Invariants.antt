use Rattle.std.proofs.Common.{◌≡◌, take}
use Rattle.std.specs.List.{filter_map}
use Rattle.wasm_sessions.specs.Instantiation.{func_in_extern, table_in_extern, memory_in_extern, global_in_extern}
use Rattle.module_instances.proofs.numbering.imported.Given as goal

abbrev pub invariant-loop-given : goal.invariant-loop-given
invariant-loop-given l = record {
  funcs : l.funcs ≡ filter_map func_in_extern (take l.given-index l.externs);
  tables : l.tables ≡ filter_map table_in_extern (take l.given-index l.externs);
  memories : l.memories ≡ filter_map memory_in_extern (take l.given-index l.externs);
  globals : l.globals ≡ filter_map global_in_extern (take l.given-index l.externs);
}
