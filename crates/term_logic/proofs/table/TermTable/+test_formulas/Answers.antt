use Rattle.std.proofs.Common.{rules}
use Rattle.term_logic.proofs.Comparisons.{test-true, test-false, test-eq, test-le, test-lt, test-not, test-and, test-or, test-imp}
use Rattle.term_logic.proofs.table.TermTable.+test_formulas.Goals as goal

pub returns-in-True : goal.returns-in-True
returns-in-True t c = rw (test-true _ _ _ c.in-True.is) (search rules)

pub returns-in-False : goal.returns-in-False
returns-in-False t c = rw (test-false _ _ _ c.in-False.is) (search rules)

pub returns-then-same_tree : goal.returns-then-same_tree
returns-then-same_tree t c = rw (test-eq _ _ _ _ _ c.in-Eq.is) (search rules)

pub returns-else-same_tree : goal.returns-else-same_tree
returns-else-same_tree t c = rw (test-eq _ _ _ _ _ c.in-Eq.is) (search rules)

pub returns-in-None : goal.returns-in-None
returns-in-None t c = rw (test-eq _ _ _ _ _ c.in-Eq.is) (search rules)

pub returns-then-same_tree-2 : goal.returns-then-same_tree-2
returns-then-same_tree-2 t c = rw (test-le _ _ _ _ _ c.in-Le.is) (search rules)

pub returns-else-same_tree-2 : goal.returns-else-same_tree-2
returns-else-same_tree-2 t c = rw (test-le _ _ _ _ _ c.in-Le.is) (search rules)

pub returns-in-None-le_of : goal.returns-in-None-le_of
returns-in-None-le_of t c = rw (test-le _ _ _ _ _ c.in-Le.is) (search rules)

pub returns-then-same_tree-3 : goal.returns-then-same_tree-3
returns-then-same_tree-3 t c = rw (test-lt _ _ _ _ _ c.in-Lt.is) (search rules)

pub returns-else-same_tree-3 : goal.returns-else-same_tree-3
returns-else-same_tree-3 t c = rw (test-lt _ _ _ _ _ c.in-Lt.is) (search rules)

pub returns-in-None-lt_of : goal.returns-in-None-lt_of
returns-in-None-lt_of t c = rw (test-lt _ _ _ _ _ c.in-Lt.is) (search rules)

pub returns-in-Some-not_of : goal.returns-in-Some-not_of
returns-in-Some-not_of t c = rw (test-not _ _ _ _ c.in-Not.is) (search rules)

pub returns-in-None-not_of : goal.returns-in-None-not_of
returns-in-None-not_of t c = rw (test-not _ _ _ _ c.in-Not.is) (search rules)

pub returns-then-test_formulas : goal.returns-then-test_formulas
returns-then-test_formulas t c = rw (test-and _ _ _ _ _ c.in-And.is) (search rules)

pub returns-else-test_formulas : goal.returns-else-test_formulas
returns-else-test_formulas t c = rw (test-and _ _ _ _ _ c.in-And.is) (search rules)

pub returns-in-None-and_of : goal.returns-in-None-and_of
returns-in-None-and_of t c = rw (test-and _ _ _ _ _ c.in-And.is) (search rules)

pub returns-then-test_formulas-2 : goal.returns-then-test_formulas-2
returns-then-test_formulas-2 t c = rw (test-or _ _ _ _ _ c.in-Or.is) (search rules)

pub returns-else-test_formulas-2 : goal.returns-else-test_formulas-2
returns-else-test_formulas-2 t c = rw (test-or _ _ _ _ _ c.in-Or.is) (search rules)

pub returns-in-None-or_of : goal.returns-in-None-or_of
returns-in-None-or_of t c = rw (test-or _ _ _ _ _ c.in-Or.is) (search rules)

pub returns-then-test_formulas-3 : goal.returns-then-test_formulas-3
returns-then-test_formulas-3 t c = rw (test-imp _ _ _ _ _ c.in-Imp.is) (search rules)

pub returns-else-test_formulas-3 : goal.returns-else-test_formulas-3
returns-else-test_formulas-3 t c = rw (test-imp _ _ _ _ _ c.in-Imp.is) (search rules)

pub returns-in-None-imp_of : goal.returns-in-None-imp_of
returns-in-None-imp_of t c = rw (test-imp _ _ _ _ _ c.in-Imp.is) (search rules)
