-- What a term is: its nodes, its parts, and when it is well formed.
use Rattle.std.specs.Prelude.{ℕ, ◌+◌, Bool, true, ◌&&◌, ◌||◌, ◌==◌, List, [], ◌∷◌, ◌++◌}
use Rattle.wasm_values.specs.Operators.{num_operands}
use Rattle.term_trees.specs.declared.term.Term.{Term, fold-Term, roll-Term, map-Term}
use Rattle.term_trees.specs.declared.term.Term.TheOpen.{Term-F, Num, Var, Own, At, Add, Sub, Mul, One, Two, Low, Sext, Sgn}

-- the nodes of one layer, from those of its parts
abbrev pub nodes_here : Term-F ℕ → ℕ
nodes_here (Num n) = 1
nodes_here (Var k) = 1
nodes_here (Own k) = 1
nodes_here (At p) = 1
nodes_here (Add a b) = 1 + a + b
nodes_here (Sub a b) = 1 + a + b
nodes_here (Mul a b) = 1 + a + b
nodes_here (One op a) = 1 + a
nodes_here (Two op a b) = 1 + a + b
nodes_here (Low k a) = 1 + a
nodes_here (Sext k n a) = 1 + a
nodes_here (Sgn n a) = 1 + a

-- How many nodes the tree of a term has: each term in it is one node.
abbrev pub node_count : Term → ℕ
node_count t = fold-Term ℕ nodes_here t

-- the numbers of bits that a `Low` may keep
abbrev pub is_low_width : ℕ → Bool
is_low_width k = (k == 8 || k == 16) || k == 32

-- the pairs of widths of a `Sext`
abbrev pub is_sext_pair : ℕ → ℕ → Bool
is_sext_pair k n = (n == 32 && (k == 8 || k == 16)) || (n == 64 && is_low_width k)

-- the widths of a `Sgn`
abbrev pub is_sgn_width : ℕ → Bool
is_sgn_width n = n == 32 || n == 64

-- whether one layer is well formed, from whether its parts are
abbrev pub well_formed_here : Term-F Bool → Bool
well_formed_here (Num n) = true
well_formed_here (Var k) = true
well_formed_here (Own k) = true
well_formed_here (At p) = true
well_formed_here (Add a b) = a && b
well_formed_here (Sub a b) = a && b
well_formed_here (Mul a b) = a && b
well_formed_here (One op a) = num_operands op == 1 && a
well_formed_here (Two op a b) = num_operands op == 2 && (a && b)
well_formed_here (Low k a) = is_low_width k && a
well_formed_here (Sext k n a) = is_sext_pair k n && a
well_formed_here (Sgn n a) = is_sgn_width n && a

-- Whether a term is well formed: each operator has as many operands as it takes, and each width is one of those that
-- the texts of terms know.
abbrev pub well_formed : Term → Bool
well_formed t = fold-Term Bool well_formed_here t

-- the lists of the parts, one after another
abbrev pub joined_here : {X : Type 0} → Term-F (List X) → List X
joined_here (Num n) = []
joined_here (Var k) = []
joined_here (Own k) = []
joined_here (At p) = []
joined_here (Add a b) = a ++ b
joined_here (Sub a b) = a ++ b
joined_here (Mul a b) = a ++ b
joined_here (One op a) = a
joined_here (Two op a b) = a ++ b
joined_here (Low k a) = a
joined_here (Sext k n a) = a
joined_here (Sgn n a) = a

-- one layer as a term, beside the list of its subterms
abbrev pub subterms_here : Term-F (Term × List Term) → Term × List Term
subterms_here l =
    let t = roll-Term (map-Term (Term × List Term) Term (λ p. p.0) l) in
    (t, t ∷ joined_here (map-Term (Term × List Term) (List Term) (λ p. p.1) l))

-- The subterms of a term: the term itself, and then those of its parts.
abbrev pub subterms : Term → List Term
subterms t = (fold-Term (Term × List Term) subterms_here t).1
