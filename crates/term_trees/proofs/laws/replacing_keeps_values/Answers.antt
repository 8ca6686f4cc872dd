use Rattle.term_trees.proofs.Replacing.{value-replaced, holds-replaced}
use Rattle.term_trees.proofs.laws.replacing_keeps_values.Goals as goal

pub returns-clause-terms : goal.returns-clause-terms
returns-clause-terms c l n m stands t = value-replaced l n m stands t

pub returns-clause-formulas : goal.returns-clause-formulas
returns-clause-formulas c l n m stands f = holds-replaced l n m stands f
