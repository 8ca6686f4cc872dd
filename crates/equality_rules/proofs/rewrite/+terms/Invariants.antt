use Rattle.std.proofs.Common.{ℕ, ◌+◌, ◌*◌, max}
use Rattle.term_logic.specs.declared.table.TermCell.{TermCell}
use Rattle.term_logic.specs.declared.table.TermCell.TheVariants.{Num, Var, Own, At, Add, Sub, Mul, One, Two, Low, Sext, Sgn}
use Rattle.equality_rules.proofs.rewrite.+terms.Given as goal

-- the least number above a cell's parts
abbrev above : TermCell → ℕ
above (Num n) = 0
above (Var k) = 0
above (Own k) = 0
above (At p) = 0
above (Add a b) = max (a + 1) (b + 1)
above (Sub a b) = max (a + 1) (b + 1)
above (Mul a b) = max (a + 1) (b + 1)
above (One op a) = a + 1
above (Two op a b) = max (a + 1) (b + 1)
above (Low k a) = a + 1
above (Sext k n a) = a + 1
above (Sgn n a) = a + 1

abbrev pub decreases-becomes : goal.decreases-becomes
decreases-becomes l = 3 * l.t + 1

abbrev pub decreases-parts_become : goal.decreases-parts_become
decreases-parts_become l = 3 * max l.a l.b + 2

abbrev pub decreases-counted_becomes : goal.decreases-counted_becomes
decreases-counted_becomes l = 3 * l.a + 2

abbrev pub decreases-cell_becomes : goal.decreases-cell_becomes
decreases-cell_becomes l = 3 * above l.cell.now
