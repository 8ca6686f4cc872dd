-- The trees that the cells of a table stand for.
use Rattle.std.specs.Prelude.{◌≡◌, ℕ, ◌<◌, ◌≤◌, pos, Bool, true, List, [], ◌∷◌, ◌++◌, length, slice_index_or}
use Rattle.term_trees.specs.declared.term.Term.{Term, roll-Term, map-Term}
use Rattle.term_trees.specs.Terms.{nodes_here, node_count, well_formed_here, well_formed}
use Rattle.term_trees.specs.declared.term.Term.TheOpen.{Term-F}
use Rattle.term_trees.specs.declared.term.Term.TheOpen as layer
use Rattle.term_logic.specs.declared.table.TermCell.{TermCell}
use Rattle.term_logic.specs.declared.table.TermCell.TheVariants.{Num, Var, Own, At, Add, Sub, Mul, One, Two, Low, Sext, Sgn}

-- a cell as a layer of a term whose parts are positions
abbrev pub cell_layer : TermCell → Term-F ℕ
cell_layer (Num n) = layer.Num n
cell_layer (Var k) = layer.Var k
cell_layer (Own k) = layer.Own k
cell_layer (At p) = layer.At p
cell_layer (Add a b) = layer.Add a b
cell_layer (Sub a b) = layer.Sub a b
cell_layer (Mul a b) = layer.Mul a b
cell_layer (One op a) = layer.One op a
cell_layer (Two op a b) = layer.Two op a b
cell_layer (Low k a) = layer.Low k a
cell_layer (Sext k n a) = layer.Sext k n a
cell_layer (Sgn n a) = layer.Sgn n a

-- the cell's parts are positions below n
abbrev pub CellWithin : ℕ → TermCell → Type 0
CellWithin n (Add a b) = (a < n) × (b < n)
CellWithin n (Sub a b) = (a < n) × (b < n)
CellWithin n (Mul a b) = (a < n) × (b < n)
CellWithin n (One op a) = a < n
CellWithin n (Two op a b) = (a < n) × (b < n)
CellWithin n (Low k a) = a < n
CellWithin n (Sext k m a) = a < n
CellWithin n (Sgn m a) = a < n
CellWithin n _ = Unit {0}

-- some term, for the positions that a table lacks
unfoldable pub no_term : Term
no_term = roll-Term (layer.Num (pos 0))

-- The tree at a position.
abbrev pub tree_at : List Term → ℕ → Term
tree_at ts i = slice_index_or ts i no_term

-- The tree of a cell whose parts are among the trees.
unfoldable pub tree_here : List Term → TermCell → Term
tree_here ts c = roll-Term (map-Term ℕ Term (tree_at ts) (cell_layer c))

-- the trees ts, and then those of the cells in turn
abbrev pub trees_after : List Term → List TermCell → List Term
trees_after ts [] = ts
trees_after ts (c ∷ cs) = trees_after (ts ++ tree_here ts c ∷ []) cs

-- The trees of all cells, which a table is seen as.
abbrev pub trees : List TermCell → List Term
trees cs = trees_after [] cs

-- How many nodes the tree of a cell has.
abbrev pub cell_nodes : List Term → TermCell → ℕ
cell_nodes ts c = nodes_here (map-Term ℕ ℕ (λ i. node_count (tree_at ts i)) (cell_layer c))

-- whether the cell itself is well formed: its operator has so many operands, its widths are known
abbrev pub well_formed_cell : TermCell → Bool
well_formed_cell c = well_formed_here (map-Term ℕ Bool (λ _. true) (cell_layer c))

-- some cell, for the positions that a table lacks
abbrev pub no_cell : TermCell
no_cell = Num (pos 0)

-- the cell at a position
abbrev pub cell_at : List TermCell → ℕ → TermCell
cell_at cs i = slice_index_or cs i no_cell

-- each tree stands once
abbrev pub AllApart : List Term → Type 0
AllApart ts = (i j : ℕ) → i < length ts → j < length ts → tree_at ts i ≡ tree_at ts j → i ≡ j

-- the cells, each with its count of nodes, are a table: they are well formed and refer to earlier ones, and no tree
-- stands twice
pub record IsTable (cs : List TermCell) (counts : List ℕ) : Type 0 where
  pub earlier : (i : ℕ) → i < length cs → CellWithin i (cell_at cs i)
  pub counted : (i : ℕ) → i < length cs → slice_index_or counts i 0 ≡ node_count (tree_at (trees cs) i)
  pub small : (i : ℕ) → i < length cs → slice_index_or counts i 0 ≤ 4096
  pub sound : (i : ℕ) → i < length cs → well_formed (tree_at (trees cs) i) ≡ true
  pub apart : AllApart (trees cs)
