-- A table stays one when a new cell is added.
use Rattle.std.proofs.Common.{◌≡◌, ℕ, true, ◌+◌, ◌<◌, ◌≤◌, List, [], ◌∷◌, ◌++◌, length, get_or, length-append, refl, sym, ap, subst, ◌∙◌, arith, below_more, slice_get, Some}
use Rattle.std.proofs.lemmas.List.{get_or_append_left, get_or_default}
use Rattle.std.proofs.lemmas.Option.{get_or_from_slice_get}
use Rattle.std.proofs.Math.Seq.{get_or-append_seam}
use Rattle.term_trees.specs.declared.term.Term.{Term}
use Rattle.term_logic.specs.declared.table.TermCell.{TermCell}
use Rattle.term_trees.specs.Terms.{node_count, well_formed}
use Rattle.term_logic.specs.Table.{CellWithin, no_term, tree_at, tree_here, trees, no_cell, cell_at, well_formed_cell, IsTable}
use Rattle.term_logic.proofs.Trees.{trees_after-push, trees_after-at, length-trees_after, tree_here-one, CellWithin-more, well_formed_tree_here}

pub length-trees : (cs : List TermCell) → length (trees cs) ≡ length cs
length-trees cs = omega (arith, length-trees_after [] cs)

module _ (cs : List TermCell) (c : TermCell) where
  pub trees-push : trees (cs ++ c ∷ []) ≡ trees cs ++ tree_here (trees cs) c ∷ []
  trees-push = trees_after-push [] cs c

  pub tree_at-push_old : (i : ℕ) → i < length cs → tree_at (trees (cs ++ c ∷ [])) i ≡ tree_at (trees cs) i
  tree_at-push_old i h =
      ap (λ ts. tree_at ts i) trees-push ∙ get_or_append_left (trees cs) (tree_here (trees cs) c ∷ []) no_term i (omega (arith, length-trees cs))

  pub tree_at-push_new : tree_at (trees (cs ++ c ∷ [])) (length cs) ≡ tree_here (trees cs) c
  tree_at-push_new =
      ap (λ n. tree_at (trees (cs ++ c ∷ [])) n) (sym (length-trees cs))
      ∙ ap (λ ts. tree_at ts (length (trees cs))) trees-push
      ∙ get_or-append_seam (trees cs) (tree_here (trees cs) c) [] no_term

module _ (cs : List TermCell) (counts : List ℕ) (t : IsTable cs counts) where
  -- a cell's tree stands at its position
  pub tree_at-cell : (i : ℕ) → i < length cs → tree_at (trees cs) i ≡ tree_here (trees cs) (cell_at cs i)
  tree_at-cell i h = trees_after-at [] cs i i (omega arith) h (t.earlier i h)

  -- a cell over the table stands for a well-formed tree exactly where it is well formed itself
  pub well_formed-cell : (n : ℕ) (c : TermCell) → n ≤ length cs → CellWithin n c → well_formed (tree_here (trees cs) c) ≡ well_formed_cell c
  well_formed-cell n c low within = well_formed_tree_here (trees cs) n (λ i h. t.sound i (omega arith)) c within

  module _ (c : TermCell) (within : CellWithin (length cs) c) (sound : well_formed_cell c ≡ true) (absent : (i : ℕ) → i < length cs → cell_at cs i ≡ c → ⊥)
      (lengths : length counts ≡ length cs) where
    fresh : (i : ℕ) → i < length cs → tree_at (trees cs) i ≡ tree_here (trees cs) c → ⊥
    fresh i h e =
        let here : CellWithin (length (trees cs)) (cell_at cs i) = CellWithin-more i (length (trees cs)) (cell_at cs i) (omega (arith, length-trees cs)) (t.earlier i h) in
        let there : CellWithin (length (trees cs)) c = subst (λ n. CellWithin n c) (sym (length-trees cs)) within in
        absent i h (tree_here-one (trees cs) t.apart (cell_at cs i) c here there (sym (tree_at-cell i h) ∙ e))

    earlier_after : (i : ℕ) → i < length cs + 1 → CellWithin i (cell_at (cs ++ c ∷ []) i)
    earlier_after = below_more _ _
        (λ i h. subst (CellWithin i) (sym (get_or_append_left cs (c ∷ []) no_cell i h)) (t.earlier i h))
        (subst (CellWithin (length cs)) (sym (get_or-append_seam cs c [] no_cell)) within)

    abbrev more : List Term
    more = trees (cs ++ c ∷ [])

    abbrev pub counts_after : List ℕ
    counts_after = counts ++ node_count (tree_here (trees cs) c) ∷ []

    small_after : node_count (tree_here (trees cs) c) ≤ 4096 → (i : ℕ) → i < length cs + 1 → get_or counts_after i 0 ≤ 4096
    small_after low = below_more _ _
        (λ i h. subst (λ n. n ≤ 4096) (sym (get_or_append_left counts _ 0 i (omega arith))) (t.small i h))
        (subst (λ n. n ≤ 4096) (sym (ap (λ n. get_or counts_after n 0) (sym lengths) ∙ get_or-append_seam counts _ [] 0)) low)

    counted_after : (i : ℕ) → i < length cs + 1 → get_or counts_after i 0 ≡ node_count (tree_at (trees (cs ++ c ∷ [])) i)
    counted_after = below_more _ _
        (λ i h. get_or_append_left counts _ 0 i (omega arith) ∙ t.counted i h ∙ ap node_count (sym (tree_at-push_old cs c i h)))
        (ap (λ n. get_or counts_after n 0) (sym lengths) ∙ get_or-append_seam counts _ [] 0 ∙ ap node_count (sym (tree_at-push_new cs c)))

    sound_after : (i : ℕ) → i < length cs + 1 → well_formed (tree_at more i) ≡ true
    sound_after = below_more _ _
        (λ i h. ap well_formed (tree_at-push_old cs c i h) ∙ t.sound i h)
        (ap well_formed (tree_at-push_new cs c) ∙ well_formed-cell (length cs) c (omega arith) within ∙ sound)

    apart_after : (i j : ℕ) → i < length cs + 1 → j < length cs + 1 → tree_at (trees (cs ++ c ∷ [])) i ≡ tree_at (trees (cs ++ c ∷ [])) j → i ≡ j
    apart_after i j hi hj = below_more (λ i. (j : ℕ) → j < length cs + 1 → tree_at more i ≡ tree_at more j → i ≡ j) _
        (λ i h. below_more (λ j. tree_at more i ≡ tree_at more j → i ≡ j) _
        (λ j k e. t.apart i j (omega (arith, length-trees cs)) (omega (arith, length-trees cs)) (sym (tree_at-push_old cs c i h) ∙ e ∙ tree_at-push_old cs c j k))
        (λ e. absurd (fresh i h (sym (tree_at-push_old cs c i h) ∙ e ∙ tree_at-push_new cs c))))
        (below_more (λ j. tree_at more (length cs) ≡ tree_at more j → length cs ≡ j) _
        (λ j k e. absurd (fresh j k (sym (tree_at-push_old cs c j k) ∙ sym e ∙ tree_at-push_new cs c)))
        (λ _. refl))
        i hi j hj

    -- the cells with c at the end are a table
    pub IsTable-push : node_count (tree_here (trees cs) c) ≤ 4096 → IsTable (cs ++ c ∷ []) counts_after
    IsTable-push low = record {
      earlier = λ i h. earlier_after i (subst (λ n. i < n) (length-append cs (c ∷ [])) h);
      counted = λ i h. counted_after i (subst (λ n. i < n) (length-append cs (c ∷ [])) h);
      small = λ i h. small_after low i (subst (λ n. i < n) (length-append cs (c ∷ [])) h);
      sound = λ i h. sound_after i (subst (λ n. i < n) (length-append cs (c ∷ [])) h);
      apart = λ i j h k. apart_after i j (subst (λ n. i < n) trees_longer h) (subst (λ n. j < n) trees_longer k);
    }
      where
        trees_longer : length more ≡ length cs + 1
        trees_longer = length-trees (cs ++ c ∷ []) ∙ length-append cs (c ∷ [])

pub IsTable-empty : IsTable [] []
IsTable-empty = record {
  earlier = λ i h. absurd (omega arith);
  counted = λ i h. absurd (omega arith);
  small = λ i h. absurd (omega arith);
  sound = λ i h. absurd (omega arith);
  apart = λ i j h k. absurd (omega arith);
}

-- what a table's methods read, by the trees ts that the table is seen as
module _ (cs : List TermCell) (counts : List ℕ) (t : IsTable cs counts) (ts : List Term) (seen : trees cs ≡ ts) (i : ℕ) (h : i < length ts) where
  pub seen-within : i < length cs
  seen-within = omega (arith, ap length seen, length-trees cs)

  pub seen-cell : (c : TermCell) → c ≡ get_or cs i c → tree_here ts c ≡ tree_at ts i
  seen-cell c e =
      let is : c ≡ cell_at cs i = e ∙ get_or_default cs i c no_cell seen-within in
      let at : tree_at (trees cs) i ≡ tree_here (trees cs) (cell_at cs i) = tree_at-cell cs counts t i seen-within in
      cc

  pub seen-earlier : (c : TermCell) → c ≡ get_or cs i c → CellWithin i c
  seen-earlier c e =
      subst (CellWithin i) (sym (e ∙ get_or_default cs i c no_cell seen-within)) (t.earlier i seen-within)

  pub seen-sound : (c : TermCell) → c ≡ get_or cs i c → well_formed_cell c ≡ true
  seen-sound c e =
      let at : tree_at (trees cs) i ≡ tree_here (trees cs) c =
      tree_at-cell cs counts t i seen-within ∙ ap (tree_here (trees cs)) (sym (e ∙ get_or_default cs i c no_cell seen-within)) in
      sym (well_formed-cell cs counts t i c (omega (arith, seen-within)) (seen-earlier c e)) ∙ ap well_formed (sym at) ∙ t.sound i seen-within

  pub seen-well_formed : well_formed (tree_at ts i) ≡ true
  seen-well_formed = ap (λ us. well_formed (tree_at us i)) (sym seen) ∙ t.sound i seen-within

  pub seen-count : (n : ℕ) → slice_get counts i ≡ Some n → n ≡ node_count (tree_at ts i)
  seen-count n e =
      sym (get_or_from_slice_get counts i n 0 e) ∙ t.counted i seen-within ∙ ap (λ us. node_count (tree_at us i)) seen

  pub seen-small : (n : ℕ) → slice_get counts i ≡ Some n → n ≤ 4096
  seen-small n e = subst (λ k. k ≤ 4096) (get_or_from_slice_get counts i n 0 e) (t.small i seen-within)
