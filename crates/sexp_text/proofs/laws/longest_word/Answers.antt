use Rattle.sexp_text.proofs.GoOnLemmas.{word_front}
use Rattle.sexp_text.proofs.NumberLemmas.{word_longest}
use Rattle.sexp_text.proofs.laws.longest_word.Goals as goal

pub returns-clause-word : goal.returns-clause-word
returns-clause-word c = word_front

pub returns-clause-longest : goal.returns-clause-longest
returns-clause-longest c = word_longest
