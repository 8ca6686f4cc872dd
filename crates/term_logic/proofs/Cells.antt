-- The derived `==` of cells is equality of values.
use Rattle.std.proofs.Common.{◌≡◌, true, ap}
use Rattle.std.proofs.lemmas.Bool.{eqb-true}
use Rattle.std.proofs.lemmas.Bool.Decides.{Decides-int_eq}
use Rattle.term_logic.specs.declared.table.TermCell.{TermCell}
use Rattle.term_logic.specs.declared.table.TermCell.TheVariants.{Num, Var, Own, At, Add, Sub, Mul, One, Two, Low, Sext, Sgn}
use Rattle.term_logic.specs.contracts.table.TermCellPartialEq.TheImpl as cell_eq
use Rattle.term_trees.proofs.Equalities.{exact_place, exact_num_op}
use Rattle.term_trees.proofs.Truths.{both}

pub exact_cell : (x y : TermCell) → (cell_eq.ghosts).eq x y ≡ true → x ≡ y
exact_cell (Num a) (Num b) e = ap Num ((Decides-int_eq a b).0 e)
exact_cell (Var a) (Var b) e = ap Var (eqb-true a b e)
exact_cell (Own a) (Own b) e = ap Own (eqb-true a b e)
exact_cell (At a) (At b) e = ap At (exact_place a b e)
exact_cell (Add a b) (Add c d) e =
    let p = both _ _ e in λ i. Add (eqb-true a c p.0 i) (eqb-true b d p.1 i)
exact_cell (Sub a b) (Sub c d) e =
    let p = both _ _ e in λ i. Sub (eqb-true a c p.0 i) (eqb-true b d p.1 i)
exact_cell (Mul a b) (Mul c d) e =
    let p = both _ _ e in λ i. Mul (eqb-true a c p.0 i) (eqb-true b d p.1 i)
exact_cell (One o a) (One q c) e =
    let p = both _ _ e in λ i. One (exact_num_op o q p.0 i) (eqb-true a c p.1 i)
exact_cell (Two o a b) (Two q c d) e =
    let p = both _ _ e in
    let r = both _ _ p.1 in
    λ i. Two (exact_num_op o q p.0 i) (eqb-true a c r.0 i) (eqb-true b d r.1 i)
exact_cell (Low k a) (Low m c) e =
    let p = both _ _ e in λ i. Low (eqb-true k m p.0 i) (eqb-true a c p.1 i)
exact_cell (Sext k n a) (Sext m q c) e =
    let p = both _ _ e in
    let r = both _ _ p.1 in
    λ i. Sext (eqb-true k m p.0 i) (eqb-true n q r.0 i) (eqb-true a c r.1 i)
exact_cell (Sgn k a) (Sgn m c) e =
    let p = both _ _ e in λ i. Sgn (eqb-true k m p.0 i) (eqb-true a c p.1 i)
exact_cell _ _ e = cc
