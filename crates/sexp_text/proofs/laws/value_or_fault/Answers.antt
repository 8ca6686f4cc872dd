use Rattle.sexp_text.proofs.WordLemmas as words
use Rattle.sexp_text.proofs.laws.value_or_fault.Goals as goal

pub returns : goal.returns
returns c = words.value_or_fault
