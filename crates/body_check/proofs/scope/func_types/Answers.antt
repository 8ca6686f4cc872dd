use Rattle.wasm_syntax.specs.declared.module.Import.{Import}
use Rattle.wasm_typing.specs.Valid.{func_import}
use Rattle.body_check.proofs.SectionLemmas.{gathered_read}
use Rattle.body_check.proofs.scope.func_types.Goals as goal

pub loop-import-preserved : goal.loop-import-preserved
loop-import-preserved c =
    gathered_read (λ (i : Import). func_import i.kind) c.args.module.now.imports c.as_slice-import-items.result.now c.loop-import.import-index c.import-item.result
    c.loop-import.funcs.items _ c.as_slice-import-items.ensures c.loop-import-test.true c.import-item.is c.loop-import.invariant c.in_ok-push_func.ensures
