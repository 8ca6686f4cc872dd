use Rattle.verify_report.proofs.AcceptLaws.{SealedAgain, sealed_verified}
use Rattle.verify_report.proofs.laws.what_is_sealed_is_verified.Goals as goal

pub returns : goal.returns
returns c =
    let again : SealedAgain = record { split = c.sealed_files.ensures.split; few = c.sealed_length.ensures } in
    sealed_verified again
