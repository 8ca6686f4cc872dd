use Rattle.term_trees.proofs.Sameness.{same-is, same_formula-is}
use Rattle.term_trees.proofs.laws.sameness_is_equality.Goals as goal

pub returns-clause-terms : goal.returns-clause-terms
returns-clause-terms c t u = same-is t u

pub returns-clause-formulas : goal.returns-clause-formulas
returns-clause-formulas c f g = same_formula-is f g
