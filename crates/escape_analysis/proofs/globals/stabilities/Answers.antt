use Rattle.std.proofs.Common.{List, ap, ◌∙◌}
use Rattle.wasm_syntax.specs.declared.module.Export.{Export}
use Rattle.escape_analysis.specs.declared.stability.Stability.{Stability}
use Rattle.escape_analysis.specs.words.Changing.{changed_where, exporting, global_among, unexported_globals}
use Rattle.escape_analysis.proofs.ExposureLemmas.{stabilities-all}
use Rattle.escape_analysis.proofs.globals.stabilities.Goals as goal

pub returns : goal.returns
returns c =
    c.export_globals.ensures
    ∙ ap (λ (gs : List Stability). changed_where exporting (global_among c.as_slice.result.now) 0 gs) c.in_ok-globals.ensures
    ∙ ap (λ (es : List Export). changed_where exporting (global_among es) 0 (unexported_globals c.args.module.now)) c.as_slice.ensures
    ∙ stabilities-all c.args.module.now
