use Rattle.std.proofs.Common.{List, sym, ap, ◌∙◌, arith, get_or}
use Rattle.std.specs.Prelude.{slice_set}
use Rattle.escape_analysis.specs.declared.stability.Stability.{Stability}
use Rattle.escape_analysis.specs.declared.stability.Stability.TheVariants.{Unstable}
use Rattle.escape_analysis.specs.words.Changing.{exporting}
use Rattle.escape_analysis.proofs.ChangeLemmas.{changed-set, changed-past}
use Rattle.escape_analysis.proofs.globals.export_global.Goals as goal

pub returns-then-number-len : goal.returns-then-number-len
returns-then-number-len c =
    c.set.ensures
    ∙ ap (slice_set c.args.globals.now c.args.number)
    (c.of_exported-exported.ensures ∙ ap (λ (gs : List Stability). exporting (get_or gs c.args.number Unstable)) c.as_slice.ensures)
    ∙ sym (changed-set exporting c.args.number c.args.number 0 Unstable c.args.globals.now (omega arith) (omega (arith, c.len.ensures, c.if-number-len.true)))

pub returns-else-number-len : goal.returns-else-number-len
returns-else-number-len c =
    sym (changed-past exporting c.args.number c.args.number 0 c.args.globals.now (omega arith) (omega (arith, c.len.ensures, c.if-number-len.false)))
