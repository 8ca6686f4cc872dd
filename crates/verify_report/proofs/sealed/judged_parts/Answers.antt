use Rattle.verify_report.proofs.SealedLaws.{module_long, notes_long, parts_judged, judged_verdict}
use Rattle.verify_report.proofs.sealed.judged_parts.Goals as goal

pub returns-then-bytes-gt-MODULE_LIMIT-clause-made : goal.returns-then-bytes-gt-MODULE_LIMIT-clause-made
returns-then-bytes-gt-MODULE_LIMIT-clause-made c = module_long c.limited.result c.args.bytes.now c.args.notes.now c.if-bytes-gt-MODULE_LIMIT.true c.limited.ensures.made

pub returns-then-notes-gt-NOTES_LIMIT-clause-made : goal.returns-then-notes-gt-NOTES_LIMIT-clause-made
returns-then-notes-gt-NOTES_LIMIT-clause-made c =
    notes_long c.limited-then-notes-gt-NOTES_LIMIT.result c.args.bytes.now c.args.notes.now c.if-bytes-gt-MODULE_LIMIT.false c.if-notes-gt-NOTES_LIMIT.true c.limited-then-notes-gt-NOTES_LIMIT.ensures.made

pub returns-clause-made : goal.returns-clause-made
returns-clause-made c =
    parts_judged c.judged.result c.args.bytes.now c.args.notes.now c.if-bytes-gt-MODULE_LIMIT.false c.if-notes-gt-NOTES_LIMIT.false c.judged.ensures.made

pub returns-clause-verified : goal.returns-clause-verified
returns-clause-verified c = judged_verdict c.judged.result c.args.bytes.now c.args.notes.now c.judged.ensures.made
