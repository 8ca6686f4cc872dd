-- Putting a term by its outermost layer.
use Rattle.std.proofs.Common.{◌≡◌, ℕ, Bool, true, ◌&&◌, ◌+◌, ◌<◌, ◌≤◌, List, [], ◌∷◌, map, take, length, Some, None, IfSome, refl, sym, ap, subst, ◌∙◌, arith}
use Rattle.std.specs.Option.{option_map}
use Rattle.std.specs.Prelude.{unwrap_or}
use Rattle.term_trees.specs.declared.term.Term.{Term, roll-Term, out-Term, map-Term, fold-roll-Term, fold_out-Term}
use Rattle.term_trees.specs.declared.term.Term.TheOpen.{Term-F, Num, Var, Own, At, Add, Sub, Mul, One, Two, Low, Sext, Sgn}
use Rattle.term_trees.specs.declared.term.Term.TheVariants as term
use Rattle.term_trees.specs.Terms.{nodes_here, node_count, well_formed_here, well_formed}
use Rattle.term_trees.specs.Leaves.{Leaves, replaced_here, replaced}
use Rattle.term_trees.proofs.Truths.{both, and_true}
use Rattle.term_logic.specs.declared.table.TermCell.{TermCell}
use Rattle.term_logic.specs.declared.table.TermCell.TheVariants as cell
use Rattle.term_logic.specs.declared.leaves.LeafIds.{LeafIds}
use Rattle.term_logic.specs.Table.{cell_layer, CellWithin, tree_at, tree_here, cell_nodes, well_formed_cell}
use Rattle.term_logic.specs.Leaves.{leaves_of, LeavesWithin}
use Rattle.term_logic.specs.words.Parts.{parts_here, with_parts, given_here, given_id}
use Rattle.term_logic.proofs.Trees.{node_count_tree_here}

abbrev pub sum : List ℕ → ℕ
sum [] = 0
sum (n ∷ ns) = n + sum ns

abbrev pub AllTrue : List Bool → Type 0
AllTrue [] = Unit {0}
AllTrue (b ∷ bs) = (b ≡ true) × AllTrue bs

abbrev pub Below : ℕ → List ℕ → Type 0
Below n [] = Unit {0}
Below n (i ∷ is) = (i < n) × Below n is

-- ---- one layer

parts-map : {X Y : Type 0} (g : X → Y) (k : Term-F X) → parts_here (map-Term X Y g k) ≡ map g (parts_here k)
parts-map g (Num n) = refl
parts-map g (Var k) = refl
parts-map g (Own k) = refl
parts-map g (At p) = refl
parts-map g (Add a b) = refl
parts-map g (Sub a b) = refl
parts-map g (Mul a b) = refl
parts-map g (One op a) = refl
parts-map g (Two op a b) = refl
parts-map g (Low k a) = refl
parts-map g (Sext k n a) = refl
parts-map g (Sgn n a) = refl

parts-with : {X Y : Type 0} (i j : Y) (k : Term-F X) → parts_here (with_parts i j k) ≡ take (length (parts_here k)) (i ∷ j ∷ [])
parts-with i j (Num n) = refl
parts-with i j (Var k) = refl
parts-with i j (Own k) = refl
parts-with i j (At p) = refl
parts-with i j (Add a b) = refl
parts-with i j (Sub a b) = refl
parts-with i j (Mul a b) = refl
parts-with i j (One op a) = refl
parts-with i j (Two op a b) = refl
parts-with i j (Low k a) = refl
parts-with i j (Sext k n a) = refl
parts-with i j (Sgn n a) = refl

nodes-parts : (k : Term-F ℕ) → nodes_here k ≡ 1 + sum (parts_here k)
nodes-parts (Num n) = refl
nodes-parts (Var k) = refl
nodes-parts (Own k) = refl
nodes-parts (At p) = refl
nodes-parts (Add a b) = omega arith
nodes-parts (Sub a b) = omega arith
nodes-parts (Mul a b) = omega arith
nodes-parts (One op a) = omega arith
nodes-parts (Two op a b) = omega arith
nodes-parts (Low k a) = omega arith
nodes-parts (Sext k n a) = omega arith
nodes-parts (Sgn n a) = omega arith

-- a well-formed layer has well-formed parts, and is well formed over any such
sound-parts : (k : Term-F Bool) → well_formed_here k ≡ true → AllTrue (parts_here k) × (well_formed_here (with_parts true true k) ≡ true)
sound-parts (Num n) e = (tt, refl)
sound-parts (Var k) e = (tt, refl)
sound-parts (Own k) e = (tt, refl)
sound-parts (At p) e = (tt, refl)
sound-parts (Add a b) e = let p = both a b e in ((p.0, (p.1, tt)), refl)
sound-parts (Sub a b) e = let p = both a b e in ((p.0, (p.1, tt)), refl)
sound-parts (Mul a b) e = let p = both a b e in ((p.0, (p.1, tt)), refl)
sound-parts (One op a) e = let p = both _ a e in ((p.1, tt), and_true _ _ p.0 refl)
sound-parts (Two op a b) e = let p = both _ (a && b) e in let q = both a b p.1 in ((q.0, (q.1, tt)), and_true _ _ p.0 refl)
sound-parts (Low k a) e = let p = both _ a e in ((p.1, tt), and_true _ _ p.0 refl)
sound-parts (Sext k n a) e = let p = both _ a e in ((p.1, tt), and_true _ _ p.0 refl)
sound-parts (Sgn n a) e = let p = both _ a e in ((p.1, tt), and_true _ _ p.0 refl)

with-map : {X Y Z W : Type 0} (g : X → Y) (h : Z → W) (i j : Z) (k : Term-F X) → map-Term Z W h (with_parts i j k) ≡ with_parts (h i) (h j) (map-Term X Y g k)
with-map g h i j (Num n) = refl
with-map g h i j (Var k) = refl
with-map g h i j (Own k) = refl
with-map g h i j (At p) = refl
with-map g h i j (Add a b) = refl
with-map g h i j (Sub a b) = refl
with-map g h i j (Mul a b) = refl
with-map g h i j (One op a) = refl
with-map g h i j (Two op a b) = refl
with-map g h i j (Low k a) = refl
with-map g h i j (Sext k n a) = refl
with-map g h i j (Sgn n a) = refl

-- over equal parts a layer is equal
same-parts : {X : Type 0} (i j : X) (k : Term-F X) → take (length (parts_here k)) (i ∷ j ∷ []) ≡ parts_here k → with_parts i j k ≡ k
same-parts i j (Num n) e = refl
same-parts i j (Var k) e = refl
same-parts i j (Own k) e = refl
same-parts i j (At p) e = refl
same-parts i j (Add a b) e = cc
same-parts i j (Sub a b) e = cc
same-parts i j (Mul a b) e = cc
same-parts i j (One op a) e = cc
same-parts i j (Two op a b) e = cc
same-parts i j (Low k a) e = cc
same-parts i j (Sext k n a) e = cc
same-parts i j (Sgn n a) e = cc

within-parts : (n : ℕ) (c : TermCell) → Below n (parts_here (cell_layer c)) → CellWithin n c
within-parts n (cell.Num k) w = tt
within-parts n (cell.Var k) w = tt
within-parts n (cell.Own k) w = tt
within-parts n (cell.At p) w = tt
within-parts n (cell.Add a b) w = (w.0, w.1.0)
within-parts n (cell.Sub a b) w = (w.0, w.1.0)
within-parts n (cell.Mul a b) w = (w.0, w.1.0)
within-parts n (cell.One op a) w = w.0
within-parts n (cell.Two op a b) w = (w.0, w.1.0)
within-parts n (cell.Low k a) w = w.0
within-parts n (cell.Sext k m a) w = w.0
within-parts n (cell.Sgn m a) w = w.0

-- ---- a leaf that is given a position

module _ (ts : List Term) (l : LeafIds) where
  given-map : {X Y : Type 0} (g : X → Y) (k : Term-F X) → given_here l (map-Term X Y g k) ≡ given_here l k
  given-map g (Num n) = refl
  given-map g (Var k) = refl
  given-map g (Own k) = refl
  given-map g (At p) = refl
  given-map g (Add a b) = refl
  given-map g (Sub a b) = refl
  given-map g (Mul a b) = refl
  given-map g (One op a) = refl
  given-map g (Two op a b) = refl
  given-map g (Low k a) = refl
  given-map g (Sext k n a) = refl
  given-map g (Sgn n a) = refl

  given-layer : (k : Term-F Term) (id : ℕ) → given_here l k ≡ Some id → replaced_here (leaves_of ts l) k ≡ tree_at ts id
  given-layer (Var k) id e = ap (λ o. unwrap_or (option_map (tree_at ts) o) (term.Var k)) e
  given-layer (Own k) id e = ap (λ o. unwrap_or (option_map (tree_at ts) o) (term.Own k)) e
  given-layer (At p) id e = ap (λ o. unwrap_or (option_map (tree_at ts) o) (term.At p)) e
  given-layer (Num n) id e = cc
  given-layer (Add a b) id e = cc
  given-layer (Sub a b) id e = cc
  given-layer (Mul a b) id e = cc
  given-layer (One op a) id e = cc
  given-layer (Two op a b) id e = cc
  given-layer (Low k a) id e = cc
  given-layer (Sext k n a) id e = cc
  given-layer (Sgn n a) id e = cc

  stays-layer : (k : Term-F Term) → given_here l k ≡ None → replaced_here (leaves_of ts l) k ≡ roll-Term k
  stays-layer (Var k) e = ap (λ o. unwrap_or (option_map (tree_at ts) o) (term.Var k)) e ∙ sym (term.rolls-Var k)
  stays-layer (Own k) e = ap (λ o. unwrap_or (option_map (tree_at ts) o) (term.Own k)) e ∙ sym (term.rolls-Own k)
  stays-layer (At p) e = ap (λ o. unwrap_or (option_map (tree_at ts) o) (term.At p)) e ∙ sym (term.rolls-At p)
  stays-layer (Num n) e = sym (term.rolls-Num n)
  stays-layer (Add a b) e = sym (term.rolls-Add a b)
  stays-layer (Sub a b) e = sym (term.rolls-Sub a b)
  stays-layer (Mul a b) e = sym (term.rolls-Mul a b)
  stays-layer (One op a) e = sym (term.rolls-One op a)
  stays-layer (Two op a b) e = sym (term.rolls-Two op a b)
  stays-layer (Low k a) e = sym (term.rolls-Low k a)
  stays-layer (Sext k n a) e = sym (term.rolls-Sext k n a)
  stays-layer (Sgn n a) e = sym (term.rolls-Sgn n a)

  within-layer : (n : ℕ) → LeavesWithin n l → (k : Term-F Term) (id : ℕ) → given_here l k ≡ Some id → id < n
  within-layer n w (Var k) id e = subst (λ o. IfSome o (λ id. id < n)) e (w.variables k)
  within-layer n w (Own k) id e = subst (λ o. IfSome o (λ id. id < n)) e (w.own k)
  within-layer n w (At p) id e = subst (λ o. IfSome o (λ id. id < n)) e (w.places p)
  within-layer n w (Num m) id e = cc
  within-layer n w (Add a b) id e = cc
  within-layer n w (Sub a b) id e = cc
  within-layer n w (Mul a b) id e = cc
  within-layer n w (One op a) id e = cc
  within-layer n w (Two op a b) id e = cc
  within-layer n w (Low k a) id e = cc
  within-layer n w (Sext k m a) id e = cc
  within-layer n w (Sgn m a) id e = cc

  module _ (t : Term) where
    abbrev below : Term-F Term
    below = map-Term Term Term (replaced (leaves_of ts l)) (out-Term t)

    opens : replaced (leaves_of ts l) t ≡ replaced_here (leaves_of ts l) below
    opens = fold_out-Term Term (replaced_here (leaves_of ts l)) t

    -- the term is a leaf that has a position
    pub given-tree : (id : ℕ) → given_id l t ≡ Some id → tree_at ts id ≡ replaced (leaves_of ts l) t
    given-tree id e = sym (opens ∙ given-layer below id (given-map (replaced (leaves_of ts l)) (out-Term t) ∙ e))

    pub given-within : LeavesWithin (length ts) l → (id : ℕ) → given_id l t ≡ Some id → id < length ts
    given-within w id e = within-layer (length ts) w (out-Term t) id e

    -- the term is no such leaf
    pub stays : given_id l t ≡ None → replaced (leaves_of ts l) t ≡ roll-Term below
    stays e = opens ∙ stays-layer below (given-map (replaced (leaves_of ts l)) (out-Term t) ∙ e)

-- ---- a term over its parts

module _ (t : Term) (qs : List Term) (parts : parts_here (out-Term t) ≡ qs) where
  -- the nodes of a term are one more than those of its parts
  pub nodes-over : node_count t ≡ 1 + sum (map node_count qs)
  nodes-over =
      fold_out-Term ℕ nodes_here t ∙ nodes-parts (map-Term Term ℕ node_count (out-Term t))
      ∙ ap (λ ns. 1 + sum ns) (parts-map node_count (out-Term t) ∙ ap (map node_count) parts)

  -- the same of the term once its leaves are replaced
  pub nodes-replaced : (ls : Leaves) → replaced ls t ≡ roll-Term (map-Term Term Term (replaced ls) (out-Term t)) → node_count (replaced ls t) ≡ 1 + sum (map node_count (map (replaced ls) qs))
  nodes-replaced ls stays =
      let k = map-Term Term Term (replaced ls) (out-Term t) in
      ap node_count stays ∙ fold-roll-Term ℕ nodes_here k ∙ nodes-parts (map-Term Term ℕ node_count k)
      ∙ ap (λ ns. 1 + sum ns) (parts-map node_count k ∙ ap (map node_count) (parts-map (replaced ls) (out-Term t) ∙ ap (map (replaced ls)) parts))

  sound-layer : well_formed t ≡ true → well_formed_here (map-Term Term Bool well_formed (out-Term t)) ≡ true
  sound-layer e = sym (fold_out-Term Bool well_formed_here t) ∙ e

  -- the parts of a well-formed term are well formed
  pub sound-over : well_formed t ≡ true → AllTrue (map well_formed qs)
  sound-over e =
      subst AllTrue (parts-map well_formed (out-Term t) ∙ ap (map well_formed) parts) (sound-parts _ (sound-layer e)).0

  -- a cell of the term's outermost node, over the positions i and j
  module _ (c : TermCell) (i j : ℕ) (is : cell_layer c ≡ with_parts i j (out-Term t)) where
    abbrev at : List ℕ
    at = take (length qs) (i ∷ j ∷ [])

    at-parts : parts_here (cell_layer c) ≡ at
    at-parts = ap parts_here is ∙ parts-with i j (out-Term t) ∙ ap (λ ps. take (length ps) (i ∷ j ∷ [])) parts

    pub cell-within : (n : ℕ) → Below n at → CellWithin n c
    cell-within n w = within-parts n c (subst (Below n) (sym at-parts) w)

    pub cell-sound : well_formed t ≡ true → well_formed_cell c ≡ true
    cell-sound e =
        ap (λ k. well_formed_here (map-Term ℕ Bool (λ _. true) k)) is
        ∙ ap well_formed_here (with-map well_formed (λ (_ : ℕ). true) i j (out-Term t))
        ∙ (sound-parts (map-Term Term Bool well_formed (out-Term t)) (sound-layer e)).1

    module _ (ls : Leaves) (stays : replaced ls t ≡ roll-Term (map-Term Term Term (replaced ls) (out-Term t))) (ts : List Term) (trees : take (length (map (replaced ls) qs)) (tree_at ts i ∷ tree_at ts j ∷ []) ≡ map (replaced ls) qs) where
      layer : map-Term ℕ Term (tree_at ts) (cell_layer c) ≡ map-Term Term Term (replaced ls) (out-Term t)
      layer =
          let k = map-Term Term Term (replaced ls) (out-Term t) in
          ap (map-Term ℕ Term (tree_at ts)) is ∙ with-map (replaced ls) (tree_at ts) i j (out-Term t)
          ∙ same-parts (tree_at ts i) (tree_at ts j) k
          (subst (λ ps. take (length ps) (tree_at ts i ∷ tree_at ts j ∷ []) ≡ ps) (sym (parts-map (replaced ls) (out-Term t) ∙ ap (map (replaced ls)) parts)) trees)

      pub cell-tree : tree_here ts c ≡ replaced ls t
      unfolding tree_here
      cell-tree = ap roll-Term layer ∙ sym stays

      pub cell-small : node_count (replaced ls t) ≤ 4096 → cell_nodes ts c ≤ 4096
      cell-small h = subst (λ n. n ≤ 4096) (ap node_count (sym cell-tree) ∙ node_count_tree_here ts c) h
