use Rattle.verify_report.specs.Reports.{OfModule, OfBounds}
use Rattle.verify_report.proofs.ReportLaws.{spelled_made, faulted_made}
use Rattle.validity_laws.proofs.MarkLaws.{spelled_marked}
use Rattle.verify_report.proofs.bounds.bounded.Goals as goal

pub bounded_module-requires : goal.bounded_module-requires
bounded_module-requires c = spelled_marked c.args.bytes.now c.in-Ok.decoded.module c.in-Ok.decoded.marks c.in-Ok.ensures.found.0

pub returns-in-Ok-clause-made : goal.returns-in-Ok-clause-made
returns-in-Ok-clause-made c =
    spelled_made (OfModule (λ m k. OfBounds m)) c.bounded_module.result c.args.bytes.now c.in-Ok.decoded.module c.in-Ok.decoded.marks c.in-Ok.ensures.found c.bounded_module.ensures.made

pub returns-in-Err-clause-made : goal.returns-in-Err-clause-made
returns-in-Err-clause-made c = faulted_made (OfModule (λ m k. OfBounds m)) c.faulty.result c.args.bytes.now c.in-Err.fault c.in-Err.ensures.fault c.faulty.ensures.made
