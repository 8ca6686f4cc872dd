use Rattle.wasm_syntax.specs.declared.module.Export.{Export}
use Rattle.escape_analysis.specs.Exposure.{exports_global}
use Rattle.escape_analysis.specs.words.Changing.{exporting}
use Rattle.escape_analysis.proofs.ChangeLemmas.{changed-next, changed-end}
use Rattle.escape_analysis.proofs.ExposureLemmas.{exporting_once}
use Rattle.escape_analysis.proofs.globals.export_globals.Goals as goal

pub loop-export-preserved : goal.loop-export-preserved
loop-export-preserved c =
    changed-next exporting (λ (e : Export) k. exports_global k e.kind) c.args.exports.now c.loop-export.export-index c.export-item.result
    c.loop-export.globals c.export_by.new.globals _ exporting_once c.loop-export-test.true c.export-item.is c.export_by.ensures c.loop-export.invariant

pub returns : goal.returns
returns c =
    changed-end exporting (λ (e : Export) k. exports_global k e.kind) c.args.exports.now c.loop-export.export-index c.loop-export.globals _
    c.loop-export-test.false c.loop-export.invariant
