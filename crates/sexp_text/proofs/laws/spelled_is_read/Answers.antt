use Rattle.sexp_text.proofs.CompleteLemmas.{read-spelled}
use Rattle.sexp_text.proofs.WordLemmas.{read_value}
use Rattle.sexp_text.proofs.laws.spelled_is_read.Goals as goal

pub returns-clause-read : goal.returns-clause-read
returns-clause-read c = read-spelled

pub returns-clause-spelled : goal.returns-clause-spelled
returns-clause-spelled c = read_value
