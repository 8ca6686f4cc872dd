-- The trees that claims over a table stand for.
use Rattle.std.specs.Prelude.{ℕ, ◌<◌, List}
use Rattle.term_trees.specs.declared.term.Term.{Term}
use Rattle.term_trees.specs.declared.term.Term.TheVariants as term
use Rattle.term_trees.specs.declared.term.Formula.{Formula}
use Rattle.term_trees.specs.declared.term.Formula.TheVariants as formula
use Rattle.term_logic.specs.Table.{tree_at}
use Rattle.wasm_values.specs.declared.number.IntOp.TheVariants.{DivU, RemU}
use Rattle.integer_rules.specs.Rows.{operator}
use Rattle.integer_rules.specs.declared.claim.Side.{Side}
use Rattle.integer_rules.specs.declared.claim.Side.TheVariants as side
use Rattle.integer_rules.specs.declared.claim.Claim.{Claim}
use Rattle.integer_rules.specs.declared.claim.Claim.TheVariants as claim

-- The tree of a side.
abbrev pub side_tree : List Term → Side → Term
side_tree ts (side.Id a) = tree_at ts a
side_tree ts (side.Number k) = term.Num k
side_tree ts (side.Sum a b) = term.Add (tree_at ts a) (tree_at ts b)
side_tree ts (side.Difference a b) = term.Sub (tree_at ts a) (tree_at ts b)
side_tree ts (side.Product a b) = term.Mul (tree_at ts a) (tree_at ts b)
side_tree ts (side.LessNumber a k) = term.Sub (tree_at ts a) (term.Num k)
side_tree ts (side.PlusNumber a k) = term.Add (tree_at ts a) (term.Num k)
side_tree ts (side.SumLess a b k) = term.Sub (term.Add (tree_at ts a) (tree_at ts b)) (term.Num k)
side_tree ts (side.DifferencePlus a b k) = term.Add (term.Sub (tree_at ts a) (tree_at ts b)) (term.Num k)
side_tree ts (side.Division v a b) = term.Add (term.Mul (tree_at ts b) (term.Two (operator v DivU) (tree_at ts a) (tree_at ts b))) (term.Two (operator v RemU) (tree_at ts a) (tree_at ts b))
side_tree ts (side.One o a) = term.One o (tree_at ts a)
side_tree ts (side.Two o a b) = term.Two o (tree_at ts a) (tree_at ts b)
side_tree ts (side.TwoNumber o a k) = term.Two o (tree_at ts a) (term.Num k)
side_tree ts (side.Low k a) = term.Low k (tree_at ts a)
side_tree ts (side.Sext k n a) = term.Sext k n (tree_at ts a)
side_tree ts (side.Sgn n a) = term.Sgn n (tree_at ts a)

-- The positions of a side are below n.
abbrev pub SideWithin : ℕ → Side → Type 0
SideWithin n (side.Id a) = a < n
SideWithin n (side.Number k) = Unit {0}
SideWithin n (side.Sum a b) = (a < n) × (b < n)
SideWithin n (side.Difference a b) = (a < n) × (b < n)
SideWithin n (side.Product a b) = (a < n) × (b < n)
SideWithin n (side.LessNumber a k) = a < n
SideWithin n (side.PlusNumber a k) = a < n
SideWithin n (side.SumLess a b k) = (a < n) × (b < n)
SideWithin n (side.DifferencePlus a b k) = (a < n) × (b < n)
SideWithin n (side.Division v a b) = (a < n) × (b < n)
SideWithin n (side.One o a) = a < n
SideWithin n (side.Two o a b) = (a < n) × (b < n)
SideWithin n (side.TwoNumber o a k) = a < n
SideWithin n (side.Low k a) = a < n
SideWithin n (side.Sext k m a) = a < n
SideWithin n (side.Sgn m a) = a < n

-- The formula of a claim.
abbrev pub claim_formula : List Term → Claim → Formula
claim_formula ts (claim.Eq a b) = formula.Eq (side_tree ts a) (side_tree ts b)
claim_formula ts (claim.Ne a b) = formula.Not (formula.Eq (side_tree ts a) (side_tree ts b))
claim_formula ts (claim.Le a b) = formula.Le (side_tree ts a) (side_tree ts b)
claim_formula ts (claim.Lt a b) = formula.Lt (side_tree ts a) (side_tree ts b)

-- The positions of a claim are below n.
abbrev pub ClaimWithin : ℕ → Claim → Type 0
ClaimWithin n (claim.Eq a b) = SideWithin n a × SideWithin n b
ClaimWithin n (claim.Ne a b) = SideWithin n a × SideWithin n b
ClaimWithin n (claim.Le a b) = SideWithin n a × SideWithin n b
ClaimWithin n (claim.Lt a b) = SideWithin n a × SideWithin n b
