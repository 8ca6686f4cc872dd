-- How the trees of a table follow from its cells.
use Rattle.std.proofs.Common.{◌≡◌, ℕ, Bool, true, zero, suc, ◌+◌, ◌<◌, ◌≤◌, List, [], ◌∷◌, ◌++◌, length, length-append, refl, sym, ap, ◌∙◌, arith}
use Rattle.std.proofs.lemmas.List.{get_or_append_left}
use Rattle.std.proofs.Math.Seq.{get_or-append_seam}
use Rattle.term_trees.specs.declared.term.Term.{Term, roll-Term, out-Term, out-roll-Term, map-Term, fold-Term, fold-roll-Term}
use Rattle.term_trees.specs.declared.term.Term.TheOpen.{Term-F}
use Rattle.term_trees.specs.declared.term.Term.TheOpen as layer
use Rattle.term_trees.specs.declared.term.Term.TheVariants as term
use Rattle.term_trees.specs.declared.term.Term.TheVariants.{rolls-Num, rolls-Var, rolls-Own, rolls-At, rolls-Add, rolls-Sub, rolls-Mul, rolls-One, rolls-Two, rolls-Low, rolls-Sext, rolls-Sgn}
use Rattle.term_trees.specs.declared.term.Place.{Place}
use Rattle.wasm_values.specs.declared.number.NumOp.{NumOp}
use Rattle.std.specs.Prelude.{ℤ}
use Rattle.term_logic.specs.declared.table.TermCell.{TermCell}
use Rattle.term_logic.specs.declared.table.TermCell.TheVariants.{Num, Var, Own, At, Add, Sub, Mul, One, Two, Low, Sext, Sgn}
use Rattle.term_trees.specs.Terms.{nodes_here, node_count, well_formed_here, well_formed}
use Rattle.term_logic.specs.Table.{cell_layer, CellWithin, no_term, tree_at, tree_here, trees_after, cell_at, cell_nodes, well_formed_cell, AllApart}

-- a cell that is added last stands for its tree over the trees before it
pub trees_after-push : (ts : List Term) (cs : List TermCell) (c : TermCell) → trees_after ts (cs ++ c ∷ []) ≡ trees_after ts cs ++ tree_here (trees_after ts cs) c ∷ []
trees_after-push ts [] c = refl
trees_after-push ts (d ∷ cs) c = trees_after-push (ts ++ tree_here ts d ∷ []) cs c

length-push : (ts : List Term) (t : Term) → length (ts ++ t ∷ []) ≡ length ts + 1
length-push ts t = length-append ts (t ∷ [])

pub length-trees_after : (ts : List Term) (cs : List TermCell) → length (trees_after ts cs) ≡ length ts + length cs
length-trees_after ts [] = omega arith
length-trees_after ts (c ∷ cs) =
    omega (arith, length-trees_after (ts ++ tree_here ts c ∷ []) cs, length-push ts (tree_here ts c))

-- later cells leave the trees before them
pub trees_after-kept : (ts : List Term) (cs : List TermCell) (i : ℕ) → i < length ts → tree_at (trees_after ts cs) i ≡ tree_at ts i
trees_after-kept ts [] i h = refl
trees_after-kept ts (c ∷ cs) i h =
    trees_after-kept (ts ++ tree_here ts c ∷ []) cs i (omega (arith, length-push ts (tree_here ts c)))
    ∙ get_or_append_left ts (tree_here ts c ∷ []) no_term i h

-- a cell's tree is the same over any list that agrees below its parts
pub tree_here-same : (us ts : List Term) (n : ℕ) (c : TermCell) → CellWithin n c → ((i : ℕ) → i < n → tree_at us i ≡ tree_at ts i) → tree_here us c ≡ tree_here ts c
unfolding tree_here
tree_here-same us ts n (Num k) w same = refl
tree_here-same us ts n (Var k) w same = refl
tree_here-same us ts n (Own k) w same = refl
tree_here-same us ts n (At p) w same = refl
tree_here-same us ts n (Add a b) w same = λ j. roll-Term (layer.Add (same a w.0 j) (same b w.1 j))
tree_here-same us ts n (Sub a b) w same = λ j. roll-Term (layer.Sub (same a w.0 j) (same b w.1 j))
tree_here-same us ts n (Mul a b) w same = λ j. roll-Term (layer.Mul (same a w.0 j) (same b w.1 j))
tree_here-same us ts n (One op a) w same = λ j. roll-Term (layer.One op (same a w j))
tree_here-same us ts n (Two op a b) w same = λ j. roll-Term (layer.Two op (same a w.0 j) (same b w.1 j))
tree_here-same us ts n (Low k a) w same = λ j. roll-Term (layer.Low k (same a w j))
tree_here-same us ts n (Sext k m a) w same = λ j. roll-Term (layer.Sext k m (same a w j))
tree_here-same us ts n (Sgn m a) w same = λ j. roll-Term (layer.Sgn m (same a w j))

-- each cell's tree stands at its position
pub trees_after-at : (ts : List Term) (cs : List TermCell) (i n : ℕ) → n ≡ length ts + i → i < length cs → CellWithin n (cell_at cs i) → tree_at (trees_after ts cs) n ≡ tree_here (trees_after ts cs) (cell_at cs i)
trees_after-at ts [] i n e h w = absurd (omega arith)
trees_after-at ts (c ∷ cs) zero n e h w =
    let t = tree_here ts c in
    let at : n ≡ length ts = omega arith in
    trees_after-kept (ts ++ t ∷ []) cs n (omega (arith, length-push ts t))
    ∙ ap (λ k. tree_at (ts ++ t ∷ []) k) at ∙ get_or-append_seam ts t [] no_term
    ∙ sym (tree_here-same (trees_after ts (c ∷ cs)) ts n c w (λ i h. trees_after-kept ts (c ∷ cs) i (omega arith)))
trees_after-at ts (c ∷ cs) (suc i) n e h w =
    let t = tree_here ts c in
    trees_after-at (ts ++ t ∷ []) cs i n (omega (arith, length-push ts t)) (omega arith) w

-- ---- one layer

map_map : {X Y Z : Type 0} (g : X → Y) (h : Y → Z) (l : Term-F X) → map-Term Y Z h (map-Term X Y g l) ≡ map-Term X Z (λ x. h (g x)) l
map_map g h (layer.Num n) = refl
map_map g h (layer.Var k) = refl
map_map g h (layer.Own k) = refl
map_map g h (layer.At p) = refl
map_map g h (layer.Add a b) = refl
map_map g h (layer.Sub a b) = refl
map_map g h (layer.Mul a b) = refl
map_map g h (layer.One op a) = refl
map_map g h (layer.Two op a b) = refl
map_map g h (layer.Low k a) = refl
map_map g h (layer.Sext k n a) = refl
map_map g h (layer.Sgn n a) = refl

-- a fold of a cell's tree, from the folds of its parts
pub fold-tree_here : (A : Type 0) (step : Term-F A → A) (ts : List Term) (c : TermCell) → fold-Term A step (tree_here ts c) ≡ step (map-Term ℕ A (λ i. fold-Term A step (tree_at ts i)) (cell_layer c))
unfolding tree_here
fold-tree_here A step ts c =
    fold-roll-Term A step (map-Term ℕ Term (tree_at ts) (cell_layer c))
    ∙ ap step (map_map (tree_at ts) (fold-Term A step) (cell_layer c))

-- what a cell's tree opens to
pub out-tree_here : (ts : List Term) (c : TermCell) → out-Term (tree_here ts c) ≡ map-Term ℕ Term (tree_at ts) (cell_layer c)
unfolding tree_here
out-tree_here ts c = out-roll-Term (map-Term ℕ Term (tree_at ts) (cell_layer c))

module _ (ts : List Term) (apart : AllApart ts) where
  same_layer : (c d : TermCell) → CellWithin (length ts) c → CellWithin (length ts) d
      → map-Term ℕ Term (tree_at ts) (cell_layer c) ≡ map-Term ℕ Term (tree_at ts) (cell_layer d) → c ≡ d
  same_layer (Num a) (Num b) v w e = cc
  same_layer (Var a) (Var b) v w e = cc
  same_layer (Own a) (Own b) v w e = cc
  same_layer (At a) (At b) v w e = cc
  same_layer (Add a b) (Add c d) v w e = cc (apart a c v.0 w.0 (cc), apart b d v.1 w.1 (cc))
  same_layer (Sub a b) (Sub c d) v w e = cc (apart a c v.0 w.0 (cc), apart b d v.1 w.1 (cc))
  same_layer (Mul a b) (Mul c d) v w e = cc (apart a c v.0 w.0 (cc), apart b d v.1 w.1 (cc))
  same_layer (One o a) (One q c) v w e = cc (apart a c v w (cc))
  same_layer (Two o a b) (Two q c d) v w e = cc (apart a c v.0 w.0 (cc), apart b d v.1 w.1 (cc))
  same_layer (Low k a) (Low m c) v w e = cc (apart a c v w (cc))
  same_layer (Sext k n a) (Sext m q c) v w e = cc (apart a c v w (cc))
  same_layer (Sgn n a) (Sgn m c) v w e = cc (apart a c v w (cc))
  same_layer _ _ v w e = cc

  -- over trees that differ, cells of one tree are one cell
  pub tree_here-one : (c d : TermCell) → CellWithin (length ts) c → CellWithin (length ts) d → tree_here ts c ≡ tree_here ts d → c ≡ d
  tree_here-one c d v w e = same_layer c d v w (sym (out-tree_here ts c) ∙ ap out-Term e ∙ out-tree_here ts d)

pub CellWithin-more : (m n : ℕ) (c : TermCell) → m ≤ n → CellWithin m c → CellWithin n c
CellWithin-more m n (Num k) h w = tt
CellWithin-more m n (Var k) h w = tt
CellWithin-more m n (Own k) h w = tt
CellWithin-more m n (At p) h w = tt
CellWithin-more m n (Add a b) h w = (omega arith, omega arith)
CellWithin-more m n (Sub a b) h w = (omega arith, omega arith)
CellWithin-more m n (Mul a b) h w = (omega arith, omega arith)
CellWithin-more m n (One op a) h w = omega arith
CellWithin-more m n (Two op a b) h w = (omega arith, omega arith)
CellWithin-more m n (Low k a) h w = omega arith
CellWithin-more m n (Sext k q a) h w = omega arith
CellWithin-more m n (Sgn q a) h w = omega arith

pub node_count_tree_here : (ts : List Term) (c : TermCell) → node_count (tree_here ts c) ≡ cell_nodes ts c
node_count_tree_here ts c = fold-tree_here ℕ nodes_here ts c

-- where the parts are well formed, a cell's tree is exactly where the cell is
module _ (ts : List Term) (n : ℕ) (parts : (i : ℕ) → i < n → well_formed (tree_at ts i) ≡ true) where
  well_formed_layer : (c : TermCell) → CellWithin n c → well_formed_here (map-Term ℕ Bool (λ i. well_formed (tree_at ts i)) (cell_layer c)) ≡ well_formed_cell c
  well_formed_layer (Num k) w = refl
  well_formed_layer (Var k) w = refl
  well_formed_layer (Own k) w = refl
  well_formed_layer (At p) w = refl
  well_formed_layer (Add a b) w = λ j. well_formed_here (layer.Add (parts a w.0 j) (parts b w.1 j))
  well_formed_layer (Sub a b) w = λ j. well_formed_here (layer.Sub (parts a w.0 j) (parts b w.1 j))
  well_formed_layer (Mul a b) w = λ j. well_formed_here (layer.Mul (parts a w.0 j) (parts b w.1 j))
  well_formed_layer (One op a) w = λ j. well_formed_here (layer.One op (parts a w j))
  well_formed_layer (Two op a b) w = λ j. well_formed_here (layer.Two op (parts a w.0 j) (parts b w.1 j))
  well_formed_layer (Low k a) w = λ j. well_formed_here (layer.Low k (parts a w j))
  well_formed_layer (Sext k m a) w = λ j. well_formed_here (layer.Sext k m (parts a w j))
  well_formed_layer (Sgn m a) w = λ j. well_formed_here (layer.Sgn m (parts a w j))

  pub well_formed_tree_here : (c : TermCell) → CellWithin n c → well_formed (tree_here ts c) ≡ well_formed_cell c
  well_formed_tree_here c w = fold-tree_here Bool well_formed_here ts c ∙ well_formed_layer c w

-- what each cell stands for
module _ (ts : List Term) where
  pub tree_here_num : (n : ℤ) → tree_here ts (Num n) ≡ term.Num n
  unfolding tree_here
  tree_here_num n = rolls-Num n

  pub tree_here_var : (k : ℕ) → tree_here ts (Var k) ≡ term.Var k
  unfolding tree_here
  tree_here_var k = rolls-Var k

  pub tree_here_own : (k : ℕ) → tree_here ts (Own k) ≡ term.Own k
  unfolding tree_here
  tree_here_own k = rolls-Own k

  pub tree_here_at : (p : Place) → tree_here ts (At p) ≡ term.At p
  unfolding tree_here
  tree_here_at p = rolls-At p

  pub tree_here_add : (a b : ℕ) → tree_here ts (Add a b) ≡ term.Add (tree_at ts a) (tree_at ts b)
  unfolding tree_here
  tree_here_add a b = rolls-Add _ _

  pub tree_here_sub : (a b : ℕ) → tree_here ts (Sub a b) ≡ term.Sub (tree_at ts a) (tree_at ts b)
  unfolding tree_here
  tree_here_sub a b = rolls-Sub _ _

  pub tree_here_mul : (a b : ℕ) → tree_here ts (Mul a b) ≡ term.Mul (tree_at ts a) (tree_at ts b)
  unfolding tree_here
  tree_here_mul a b = rolls-Mul _ _

  pub tree_here_one : (op : NumOp) (a : ℕ) → tree_here ts (One op a) ≡ term.One op (tree_at ts a)
  unfolding tree_here
  tree_here_one op a = rolls-One _ _

  pub tree_here_two : (op : NumOp) (a b : ℕ) → tree_here ts (Two op a b) ≡ term.Two op (tree_at ts a) (tree_at ts b)
  unfolding tree_here
  tree_here_two op a b = rolls-Two _ _ _

  pub tree_here_low : (k a : ℕ) → tree_here ts (Low k a) ≡ term.Low k (tree_at ts a)
  unfolding tree_here
  tree_here_low k a = rolls-Low _ _

  pub tree_here_sext : (k n a : ℕ) → tree_here ts (Sext k n a) ≡ term.Sext k n (tree_at ts a)
  unfolding tree_here
  tree_here_sext k n a = rolls-Sext _ _ _

  pub tree_here_sgn : (n a : ℕ) → tree_here ts (Sgn n a) ≡ term.Sgn n (tree_at ts a)
  unfolding tree_here
  tree_here_sgn n a = rolls-Sgn _ _

pub ruleset cell_trees = (tree_here_num, tree_here_var, tree_here_own, tree_here_at, tree_here_add, tree_here_sub, tree_here_mul, tree_here_one, tree_here_two, tree_here_low, tree_here_sext, tree_here_sgn)
