use Rattle.verify_report.proofs.SealedLaws.{sealed_as_verify}
use Rattle.verify_report.proofs.laws.sealed_answers_as_verify.Goals as goal

pub returns : goal.returns
returns c = sealed_as_verify
