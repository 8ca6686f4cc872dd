use Rattle.term_logic.specs.words.Scopes.{scope_of}
use Rattle.term_logic.proofs.table.TermTable.id_in_scope.Goals as goal

pub returns : goal.returns
unfolding scope_of
returns g c = c.test_scope.ensures
