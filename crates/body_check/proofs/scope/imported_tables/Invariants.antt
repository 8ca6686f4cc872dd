use Rattle.std.proofs.Common.{◌≡◌, ◌≤◌, length, take}
use Rattle.std.specs.List.{filter_map}
use Rattle.wasm_syntax.specs.declared.module.Import.{Import}
use Rattle.wasm_typing.specs.Valid.{table_import}
use Rattle.body_check.proofs.scope.imported_tables.Given as goal

abbrev pub invariant-loop-import : goal.invariant-loop-import
invariant-loop-import l =
    (l.tables ≡ length (filter_map (λ (i : Import). table_import i.kind) (take l.import-index l.«module».imports))) × (l.tables ≤ l.import-index)
