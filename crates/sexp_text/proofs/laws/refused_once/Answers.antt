use Rattle.sexp_text.proofs.RefusalLemmas.{refusal_read, one_refusal}
use Rattle.sexp_text.proofs.laws.refused_once.Goals as goal

pub returns-clause-read : goal.returns-clause-read
returns-clause-read c = refusal_read

pub returns-clause-once : goal.returns-clause-once
returns-clause-once c = one_refusal
