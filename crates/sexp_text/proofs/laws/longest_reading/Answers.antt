use Rattle.sexp_text.proofs.GoOnLemmas.{fault_front, end_of_text, text_cut}
use Rattle.sexp_text.proofs.TextLaws.{fault_stays}
use Rattle.sexp_text.proofs.WordLemmas.{fault_refused}
use Rattle.sexp_text.proofs.laws.longest_reading.Goals as goal

pub returns-clause-before : goal.returns-clause-before
returns-clause-before c = fault_front

pub returns-clause-refused : goal.returns-clause-refused
returns-clause-refused c = fault_refused

pub returns-clause-stays : goal.returns-clause-stays
returns-clause-stays c = fault_stays

pub returns-clause-end : goal.returns-clause-end
returns-clause-end c = end_of_text

pub returns-clause-cut : goal.returns-clause-cut
returns-clause-cut c = text_cut
