use Rattle.verify_report.specs.Reports.{OfModule, OfFirst}
use Rattle.verify_report.proofs.ReportLaws.{spelled_made, faulted_made}
use Rattle.validity_laws.proofs.MarkLaws.{spelled_marked}
use Rattle.verify_report.proofs.judge.judged.Goals as goal

pub judged_module-requires : goal.judged_module-requires
judged_module-requires c = spelled_marked c.args.bytes.now c.in-Ok.decoded.module c.in-Ok.decoded.marks c.in-Ok.ensures.found.0

pub returns-in-Ok-clause-made : goal.returns-in-Ok-clause-made
returns-in-Ok-clause-made c =
    spelled_made (OfModule (OfFirst c.args.notes.now)) c.judged_module.result c.args.bytes.now c.in-Ok.decoded.module c.in-Ok.decoded.marks c.in-Ok.ensures.found c.judged_module.ensures.made

pub returns-in-Err-clause-made : goal.returns-in-Err-clause-made
returns-in-Err-clause-made c = faulted_made (OfModule (OfFirst c.args.notes.now)) c.faulty.result c.args.bytes.now c.in-Err.fault c.in-Err.ensures.fault c.faulty.ensures.made
