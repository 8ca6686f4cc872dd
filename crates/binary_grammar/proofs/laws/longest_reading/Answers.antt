use Rattle.binary_grammar.proofs.ReadingLaws.{longest}
use Rattle.binary_grammar.proofs.laws.longest_reading.Goals as goal

pub returns : goal.returns
returns c = λ p q left after stop items others k more f h g e. longest p left items others q after stop k more f h g e
