use Rattle.std.proofs.Common.{sym, ◌∙◌}
use Rattle.module_instances.proofs.PreparingLemmas.{made_globals_are, before_is, fit_is, limits_are, parts_are}
use Rattle.module_instances.proofs.preparing.prepare.Goals as goal

pub segments_fit-requires-clause-before : goal.segments_fit-requires-clause-before
segments_fit-requires-clause-before c =
    let s = c.args.store.now in
    let externs = c.args.externs.now in
    let m = c.args.module.now in
    let n = c.in_ok-imported.imported in
    let made = c.as_slice-3.ensures ∙ made_globals_are s externs m c.in_ok-globals.globals c.as_slice.result.now c.as_slice-2.result.now c.as_slice.ensures (c.as_slice-2.ensures ∙ c.in_ok-imported.ensures.globals) c.in_ok-globals.ensures in
    before_is s c.requires.typed m c.requires.valid externs c.in-None.ensures n c.as_slice-3.result.now c.in_ok-imported.ensures made

pub returns-then-not-segments_fit : goal.returns-then-not-segments_fit
returns-then-not-segments_fit c =
    let s = c.args.store.now in
    let externs = c.args.externs.now in
    let m = c.args.module.now in
    let n = c.in_ok-imported.imported in
    let made = c.as_slice-3.ensures ∙ made_globals_are s externs m c.in_ok-globals.globals c.as_slice.result.now c.as_slice-2.result.now c.as_slice.ensures (c.as_slice-2.ensures ∙ c.in_ok-imported.ensures.globals) c.in_ok-globals.ensures in
    (c.in-None.ensures, sym (fit_is s m externs n c.as_slice-3.result.now c.in_ok-imported.ensures made) ∙ sym c.segments_fit.ensures ∙ c.if-not-segments_fit.true)

pub returns-then-not-stays_within : goal.returns-then-not-stays_within
returns-then-not-stays_within c =
    let s = c.args.store.now in
    let externs = c.args.externs.now in
    let m = c.args.module.now in
    let n = c.in_ok-imported.imported in
    let made = c.as_slice-3.ensures ∙ made_globals_are s externs m c.in_ok-globals.globals c.as_slice.result.now c.as_slice-2.result.now c.as_slice.ensures (c.as_slice-2.ensures ∙ c.in_ok-imported.ensures.globals) c.in_ok-globals.ensures in (
      c.in-None.ensures,
      sym (fit_is s m externs n c.as_slice-3.result.now c.in_ok-imported.ensures made) ∙ sym c.segments_fit.ensures ∙ c.if-not-segments_fit.false,
      sym (limits_are c.args.policy.now s m externs) ∙ sym c.stays_within.ensures ∙ c.if-not-stays_within.true,
    )

pub returns : goal.returns
returns c =
    let s = c.args.store.now in
    let externs = c.args.externs.now in
    let m = c.args.module.now in
    let n = c.in_ok-imported.imported in
    let mine = made_globals_are s externs m c.in_ok-globals.globals c.as_slice.result.now c.as_slice-2.result.now c.as_slice.ensures (c.as_slice-2.ensures ∙ c.in_ok-imported.ensures.globals) c.in_ok-globals.ensures in
    let made = c.as_slice-3.ensures ∙ mine in
    record {
      matching = c.in-None.ensures;
      in_bounds = sym (fit_is s m externs n c.as_slice-3.result.now c.in_ok-imported.ensures made) ∙ sym c.segments_fit.ensures ∙ c.if-not-segments_fit.false;
      within = sym (limits_are c.args.policy.now s m externs) ∙ sym c.stays_within.ensures ∙ c.if-not-stays_within.false;
      parts = parts_are s m externs n c.in_ok-globals.globals c.in_ok-imported.ensures mine c.in_ok-make_parts.field-0 c.in_ok-make_parts.ensures;
    }
