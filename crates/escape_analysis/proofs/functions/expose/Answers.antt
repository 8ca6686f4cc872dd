use Rattle.std.proofs.Common.{false, sym, ◌∙◌, arith}
use Rattle.escape_analysis.specs.words.Changing.{exposing}
use Rattle.escape_analysis.proofs.ChangeLemmas.{changed-set, changed-past}
use Rattle.escape_analysis.proofs.functions.expose.Goals as goal

pub returns-then-number-len : goal.returns-then-number-len
returns-then-number-len c =
    c.set.ensures ∙ sym (changed-set exposing c.args.number c.args.number 0 false c.args.marks.now (omega arith) (omega (arith, c.len.ensures, c.if-number-len.true)))

pub returns-else-number-len : goal.returns-else-number-len
returns-else-number-len c =
    sym (changed-past exposing c.args.number c.args.number 0 c.args.marks.now (omega arith) (omega (arith, c.len.ensures, c.if-number-len.false)))
