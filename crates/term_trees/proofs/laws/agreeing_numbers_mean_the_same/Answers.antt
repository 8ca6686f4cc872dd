use Rattle.term_trees.proofs.Agreeing.{value_alike, holds_alike}
use Rattle.term_trees.proofs.laws.agreeing_numbers_mean_the_same.Goals as goal

pub returns-clause-terms : goal.returns-clause-terms
returns-clause-terms c s n m agree t = value_alike s n m agree t

pub returns-clause-formulas : goal.returns-clause-formulas
returns-clause-formulas c s n m agree f = holds_alike s n m agree f
