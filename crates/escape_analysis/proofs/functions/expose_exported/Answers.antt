use Rattle.std.proofs.Common.{refl}
use Rattle.wasm_syntax.specs.declared.module.Export.{Export}
use Rattle.escape_analysis.specs.Exposure.{exports_func}
use Rattle.escape_analysis.specs.words.Changing.{exposing}
use Rattle.escape_analysis.proofs.ChangeLemmas.{changed-next, changed-end}
use Rattle.escape_analysis.proofs.functions.expose_exported.Goals as goal

pub loop-export-preserved : goal.loop-export-preserved
loop-export-preserved c =
    changed-next exposing (λ (e : Export) f. exports_func f e.kind) c.args.exports.now c.loop-export.export-index c.export-item.result
    c.loop-export.marks c.expose_by.new.marks _ (λ b. refl) c.loop-export-test.true c.export-item.is c.expose_by.ensures c.loop-export.invariant

pub returns : goal.returns
returns c =
    changed-end exposing (λ (e : Export) f. exports_func f e.kind) c.args.exports.now c.loop-export.export-index c.loop-export.marks _
    c.loop-export-test.false c.loop-export.invariant
