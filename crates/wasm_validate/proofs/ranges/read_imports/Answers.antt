use Rattle.wasm_typing.specs.Valid.{BytesInRange, ImportInRange}
use Rattle.wasm_syntax.specs.declared.module.Import.{Import}
use Rattle.body_check.proofs.SectionLemmas.{each_more, each_all}
use Rattle.wasm_validate.proofs.ranges.read_imports.Goals as goal

pub loop-import-preserved : goal.loop-import-preserved
loop-import-preserved c = each_more (λ (i : Import). BytesInRange i.module × BytesInRange i.name × ImportInRange i.kind) c.args.module.now.imports c.as_slice-import-items.result.now c.loop-import.import-index c.import-item.result c.loop-import.invariant c.as_slice-import-items.ensures c.loop-import-test.true c.import-item.is c.read_one_import.ensures

pub returns : goal.returns
returns c = each_all (λ (i : Import). BytesInRange i.module × BytesInRange i.name × ImportInRange i.kind) c.args.module.now.imports c.as_slice-import-items.result.now c.loop-import.import-index c.loop-import.invariant c.as_slice-import-items.ensures c.loop-import-test.false
