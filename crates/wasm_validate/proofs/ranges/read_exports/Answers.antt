use Rattle.wasm_typing.specs.Valid.{BytesInRange, ExportInRange}
use Rattle.wasm_syntax.specs.declared.module.Export.{Export}
use Rattle.body_check.proofs.SectionLemmas.{each_more, each_all}
use Rattle.wasm_validate.proofs.ranges.read_exports.Goals as goal

pub loop-export-preserved : goal.loop-export-preserved
loop-export-preserved c = each_more (λ (e : Export). BytesInRange e.name × ExportInRange e.kind) c.args.module.now.exports c.as_slice-export-items.result.now c.loop-export.export-index c.export-item.result c.loop-export.invariant c.as_slice-export-items.ensures c.loop-export-test.true c.export-item.is c.read_one_export.ensures

pub returns : goal.returns
returns c = each_all (λ (e : Export). BytesInRange e.name × ExportInRange e.kind) c.args.module.now.exports c.as_slice-export-items.result.now c.loop-export.export-index c.loop-export.invariant c.as_slice-export-items.ensures c.loop-export-test.false
