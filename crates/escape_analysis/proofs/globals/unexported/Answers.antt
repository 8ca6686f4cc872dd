use Rattle.wasm_syntax.specs.declared.module.Import.{Import}
use Rattle.wasm_typing.specs.Valid.{global_import}
use Rattle.escape_analysis.specs.words.Changing.{imported_stability}
use Rattle.escape_analysis.proofs.ChangeLemmas.{gathered-of}
use Rattle.escape_analysis.proofs.globals.unexported.Goals as goal

pub loop-import-preserved : goal.loop-import-preserved
loop-import-preserved c =
    gathered-of (λ (i : Import). global_import i.kind) imported_stability c.args.module.now.imports c.as_slice-import-items.result.now
    c.loop-import.import-index c.import-item.result c.loop-import.globals _ c.as_slice-import-items.ensures c.loop-import-test.true c.import-item.is
    c.loop-import.invariant c.in_ok-push_imported.ensures
