use Rattle.wasm_syntax.specs.declared.module.Import.{Import}
use Rattle.wasm_typing.specs.Valid.{table_import}
use Rattle.body_check.proofs.SectionLemmas.{counted_read, grown}
use Rattle.body_check.proofs.scope.imported_tables.Goals as goal

pub loop-import-preserved : goal.loop-import-preserved
loop-import-preserved c = (
  counted_read (λ (i : Import). table_import i.kind) c.args.module.now.imports c.as_slice-import-items.result.now c.loop-import.import-index c.import-item.result
      c.loop-import.tables c.table_count-tables.result c.as_slice-import-items.ensures c.loop-import-test.true c.import-item.is c.loop-import.invariant.0 c.table_count-tables.ensures,
  grown _ _ _ _ c.loop-import.invariant.1 c.table_count-tables.ensures,
)
