use Rattle.std.proofs.Common.{◌≡◌, ap, sym, ◌∙◌, None, Ok, Err, true, List, rules, Bor, Option}
use Rattle.std.specs.Option.{option_map}
use Rattle.notes.specs.declared.assertion.Contract.{Contract}
use Rattle.notes.specs.declared.reason.Reason.{Reason}
use Rattle.escape_analysis.specs.Exposure.{has_private_table}
use Rattle.wasm_syntax.specs.declared.module.Elem.{Elem}
use Rattle.wasm_syntax.specs.declared.module.Module.{Module}
use Rattle.outline_setting.specs.words.Judging.{judged_walk}
use Rattle.outline_setting.specs.Reasons.{refusal_for}
use Rattle.outline_setting.proofs.Candidacy.{judged_privately, gives_at, listed}
use Rattle.outline_setting.proofs.judging.judged.Goals as goal

pub returns-in-Ok : goal.returns-in-Ok
returns-in-Ok c =
    let private : has_private_table c.args.setting.now.code ≡ true = search rules in
    let elems : c.args.setting.now.code.elems ≡ c.as_slice.result.now = ap (λ (m : Module). m.elems) (sym c.module.ensures.same) ∙ sym c.as_slice.ensures in
    gives_at {A = Option (Bor Contract)} {E = Reason} refusal_for (λ found. option_map (λ (b : Bor Contract). b.now) found) c.judged_end.result _ _
    (judged_privately c.args.setting.now c.args.ty.now (Ok c.in-Ok.first) private
    (ap (λ (es : List Elem). judged_walk c.args.setting.now c.args.ty.now None (listed es)) elems ∙ c.in-Ok.ensures))
    c.judged_end.ensures

pub returns-in-Err : goal.returns-in-Err
returns-in-Err c =
    let private : has_private_table c.args.setting.now.code ≡ true = search rules in
    let elems : c.args.setting.now.code.elems ≡ c.as_slice.result.now = ap (λ (m : Module). m.elems) (sym c.module.ensures.same) ∙ sym c.as_slice.ensures in
    judged_privately c.args.setting.now c.args.ty.now (Err _) private
    (ap (λ (es : List Elem). judged_walk c.args.setting.now c.args.ty.now None (listed es)) elems ∙ c.in-Err.ensures)
