use Rattle.validity_laws.proofs.Modules.{valid_or_fault, never_both}
use Rattle.validity_laws.proofs.laws.valid_or_faulty.Goals as goal

pub returns-clause-one : goal.returns-clause-one
returns-clause-one c = valid_or_fault

pub returns-clause-not_both : goal.returns-clause-not_both
returns-clause-not_both c = never_both
