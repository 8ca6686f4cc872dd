use Rattle.term_trees.proofs.GroundLaws.{value-ground, holds-ground}
use Rattle.term_trees.proofs.laws.ground_under_any_numbers.Goals as goal

pub returns-clause-values : goal.returns-clause-values
returns-clause-values c n t z = value-ground n t z

pub returns-clause-truths : goal.returns-clause-truths
returns-clause-truths c n f b = holds-ground n f b
