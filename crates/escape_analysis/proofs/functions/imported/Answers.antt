use Rattle.std.proofs.Common.{true}
use Rattle.wasm_syntax.specs.declared.module.Import.{Import}
use Rattle.wasm_typing.specs.Valid.{func_import}
use Rattle.escape_analysis.proofs.ChangeLemmas.{gathered-of}
use Rattle.escape_analysis.proofs.functions.imported.Goals as goal

pub loop-import-preserved : goal.loop-import-preserved
loop-import-preserved c =
    gathered-of (λ (i : Import). func_import i.kind) (λ t. true) c.args.module.now.imports c.as_slice-import-items.result.now c.loop-import.import-index
    c.import-item.result c.loop-import.marks _ c.as_slice-import-items.ensures c.loop-import-test.true c.import-item.is c.loop-import.invariant
    c.in_ok-push_imported.ensures
