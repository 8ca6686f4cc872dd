use Rattle.sexp_text.proofs.TextLaws as laws
use Rattle.sexp_text.proofs.laws.one_value.Goals as goal

pub returns : goal.returns
returns c = laws.one_value
