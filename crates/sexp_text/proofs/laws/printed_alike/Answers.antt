use Rattle.sexp_text.proofs.PrintLemmas as print
use Rattle.sexp_text.proofs.laws.printed_alike.Goals as goal

pub returns : goal.returns
returns c = print.printed_alike
