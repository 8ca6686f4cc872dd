use Rattle.std.proofs.Common.{◌≡◌, Bool, List, sym, ap, ◌∙◌}
use Rattle.wasm_syntax.specs.declared.module.Export.{Export}
use Rattle.wasm_syntax.specs.declared.module.Elem.{Elem}
use Rattle.escape_analysis.specs.words.Changing.{changed_where, exposing, func_among, named_among, imported_marks}
use Rattle.escape_analysis.proofs.ExposureLemmas.{exposed-open, exposed-private}
use Rattle.escape_analysis.proofs.functions.exposed.Goals as goal

pub returns-then-private_table : goal.returns-then-private_table
returns-then-private_table c =
    c.expose_exported.ensures
    ∙ ap (λ (bs : List Bool). changed_where exposing (func_among c.as_slice.result.now) 0 bs) c.in_ok-marks.ensures
    ∙ ap (λ (es : List Export). changed_where exposing (func_among es) 0 (imported_marks c.args.module.now)) c.as_slice.ensures
    ∙ exposed-private c.args.module.now (sym c.requires ∙ c.if-private_table.true)

pub returns : goal.returns
returns c =
    let first : c.expose_exported.new.marks ≡ changed_where exposing (func_among c.args.module.now.exports) 0 (imported_marks c.args.module.now) =
    c.expose_exported.ensures
    ∙ ap (λ (bs : List Bool). changed_where exposing (func_among c.as_slice.result.now) 0 bs) c.in_ok-marks.ensures
    ∙ ap (λ (es : List Export). changed_where exposing (func_among es) 0 (imported_marks c.args.module.now)) c.as_slice.ensures in
    c.expose_elements.ensures
    ∙ ap (λ (bs : List Bool). changed_where exposing (named_among c.as_slice-2.result.now) 0 bs) first
    ∙ ap (λ (es : List Elem). changed_where exposing (named_among es) 0 (changed_where exposing (func_among c.args.module.now.exports) 0 (imported_marks c.args.module.now)))
    c.as_slice-2.ensures
    ∙ exposed-open c.args.module.now (sym c.requires ∙ c.if-private_table.false)
