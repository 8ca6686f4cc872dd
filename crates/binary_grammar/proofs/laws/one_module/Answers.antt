use Rattle.binary_grammar.proofs.UniqueLaws.{one_module}
use Rattle.binary_grammar.proofs.laws.one_module.Goals as goal

pub returns : goal.returns
returns c = one_module
