use Rattle.script_text.proofs.TextLaws as texts
use Rattle.script_text.proofs.laws.script_or_fault.Goals as goal

pub returns-clause-one : goal.returns-clause-one
returns-clause-one c = texts.spelled_or_faulty

pub returns-clause-apart : goal.returns-clause-apart
returns-clause-apart c = texts.not_both

pub returns-clause-fault : goal.returns-clause-fault
returns-clause-fault c = texts.one_fault
