use Rattle.term_trees.proofs.NormalValue.{normal-value}
use Rattle.term_trees.proofs.laws.normal_form_has_the_value.Goals as goal

pub returns : goal.returns
returns c n t f = normal-value n t f
