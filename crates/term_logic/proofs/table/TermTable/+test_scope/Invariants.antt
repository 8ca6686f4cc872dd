use Rattle.term_logic.proofs.table.TermTable.+test_scope.Given as goal

abbrev pub decreases-test_scope : goal.decreases-test_scope
decreases-test_scope g l = l.id
