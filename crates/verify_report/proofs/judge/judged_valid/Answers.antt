use Rattle.std.proofs.Common.{◌≡◌, true, false}
use Rattle.verify_report.proofs.ReportLaws.{first_made, not_first_said}
use Rattle.verify_report.proofs.judge.judged_valid.Goals as goal

pub returns-then-is_first-clause-made : goal.returns-then-is_first-clause-made
returns-then-is_first-clause-made c =
    first_made c.noted.result c.args.notes.now c.args.module.now c.args.marks.now (c.is_first.ensures.0 c.if-is_first.true) c.noted.ensures.made

pub returns-else-is_first-clause-made : goal.returns-else-is_first-clause-made
returns-else-is_first-clause-made c =
    not_first_said c.fixed.result c.args.notes.now c.args.module.now c.args.marks.now
    (λ h. let yes : c.is_first.result ≡ true = c.is_first.ensures.1 h in let no : c.is_first.result ≡ false = c.if-is_first.false in cc) c.fixed.ensures.made
