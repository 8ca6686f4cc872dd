use Rattle.std.proofs.Common.{◌≡◌}
use Rattle.verify_report.specs.Reports.{module_listed}
use Rattle.verify_report.proofs.ReportLaws.{spelled_made, faulted_made}
use Rattle.validity_laws.proofs.MarkLaws.{spelled_marked}
use Rattle.verify_report.proofs.stages.shown.Goals as goal

pub shown_module-requires : goal.shown_module-requires
shown_module-requires c = spelled_marked c.args.bytes.now c.in-Ok.decoded.module c.in-Ok.decoded.marks c.in-Ok.ensures.found.0

pub returns-in-Ok-clause-made : goal.returns-in-Ok-clause-made
returns-in-Ok-clause-made c =
    spelled_made (λ m k r. r ≡ module_listed m k) c.shown_module.result c.args.bytes.now c.in-Ok.decoded.module c.in-Ok.decoded.marks c.in-Ok.ensures.found c.shown_module.ensures.made

pub returns-in-Err-clause-made : goal.returns-in-Err-clause-made
returns-in-Err-clause-made c = faulted_made (λ m k r. r ≡ module_listed m k) c.faulty.result c.args.bytes.now c.in-Err.fault c.in-Err.ensures.fault c.faulty.ensures.made
