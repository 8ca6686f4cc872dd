use Rattle.sexp_text.proofs.AgainLemmas as again
use Rattle.sexp_text.proofs.laws.printed_again.Goals as goal

pub returns : goal.returns
returns c = again.printed_again
