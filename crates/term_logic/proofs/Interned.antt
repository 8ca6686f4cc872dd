-- What a look-up and an insert in a table's map say of its trees.
use Rattle.std.proofs.Common.{◌≡◌, ℕ, Bool, true, ◌+◌, ◌<◌, ◌≤◌, List, [], ◌∷◌, ◌++◌, length, length-append, refl, sym, ap, subst, ◌∙◌, arith, true≢false, Option, Some, None, false, is_some, IsSome, position, Contains}
use Rattle.std.proofs.lemmas.List.{map-append}
use Rattle.std.proofs.lemmas.List.Elements.{Contains-get_or}
use Rattle.std.proofs.lemmas.List.Quantifiers.{position-Some}
use Rattle.std.proofs.lemmas.Map.Entries.{length-keys_of, length-values_of}
use Rattle.std.proofs.lemmas.Map.Views.{IsSome-lookup_from_Contains}
use Rattle.std.specs.Map.{keys_of, values_of}
use Rattle.std.specs.Cmp.{IsEquivalence}
use Rattle.indexmap.specs.IndexMap.{IndexMap, keys, values, get, insert_entry}
use Rattle.indexmap.proofs.CallerLemmas.{insert_entry-new}
use Rattle.term_trees.specs.declared.term.Term.{Term}
use Rattle.term_logic.specs.declared.table.TermCell.{TermCell}
use Rattle.term_logic.specs.contracts.table.TermCellPartialEq.TheImpl as cell_eq
use Rattle.term_logic.specs.contracts.table.TermCellEq.TheImpl.Laws as cell_laws
use Rattle.term_trees.specs.Terms.{node_count}
use Rattle.term_logic.specs.Table.{CellWithin, no_cell, tree_at, tree_here, trees, cell_at, cell_nodes, well_formed_cell, IsTable}
use Rattle.term_logic.specs.Extends.{Extends}
use Rattle.term_logic.proofs.Formulas.{extended}
use Rattle.term_logic.proofs.Cells.{exact_cell}
use Rattle.term_logic.proofs.Trees.{node_count_tree_here}
use Rattle.term_logic.proofs.Tables.{length-trees, tree_at-push_old, tree_at-push_new, tree_at-cell, IsTable-push}

abbrev pub eq : TermCell → TermCell → Bool
eq = (cell_eq.ghosts).eq

equivalence : IsEquivalence eq
equivalence = cell_laws.laws-law

pub none_of : {A : Type 0} (o : Option A) → is_some o ≡ false → o ≡ None
none_of None e = refl
none_of (Some x) e = absurd (true≢false e)

-- the cell that a look-up finds stands for the tree of the cell that was sought
pub found : (cs : List TermCell) (counts : List ℕ) (t : IsTable cs counts) (ts : List Term) (seen : trees cs ≡ ts) (c : TermCell) (i : ℕ)
    → position (eq c) cs ≡ Some i → (i < length ts) × (tree_at ts i ≡ tree_here ts c)
found cs counts t ts seen c i e =
    let p = position-Some (eq c) cs i no_cell e in
    let same : c ≡ cell_at cs i = exact_cell c (cell_at cs i) p.1 in
    (omega (arith, p.0, ap length seen, length-trees cs), subst (λ us. tree_at us i ≡ tree_here us c) seen (tree_at-cell cs counts t i p.0 ∙ ap (tree_here (trees cs)) (sym same)))

module _ {S : Type 0} (m n : IndexMap TermCell ℕ S) (c : TermCell) (k : ℕ) (t : IsTable (keys m) (values m)) (ts : List Term) (seen : trees (keys m) ≡ ts)
    (none : get eq m c ≡ None) (put : n.entries ≡ insert_entry eq m.entries c k) (within : CellWithin (length ts) c) (counted : k ≡ cell_nodes ts c) (small : cell_nodes ts c ≤ 4096) (sound : well_formed_cell c ≡ true) where
  added : n.entries ≡ m.entries ++ (c, k) ∷ []
  added = put ∙ insert_entry-new eq m c k none

  keys_after : keys n ≡ keys m ++ c ∷ []
  keys_after = ap keys_of added ∙ map-append (λ e. e.0) m.entries ((c, k) ∷ [])

  values_after : values n ≡ values m ++ k ∷ []
  values_after = ap values_of added ∙ map-append (λ e. e.1) m.entries ((c, k) ∷ [])

  absent : (i : ℕ) → i < length (keys m) → cell_at (keys m) i ≡ c → ⊥
  absent i h e =
      let there = IsSome-lookup_from_Contains equivalence c m.entries (subst (Contains (keys m)) e (Contains-get_or (keys m) i no_cell h)) in
      true≢false (sym (subst IsSome none there))

  lengths : length (values m) ≡ length (keys m)
  lengths = length-values_of m.entries ∙ sym (length-keys_of m.entries)

  within_cells : CellWithin (length (keys m)) c
  within_cells = subst (λ n. CellWithin n c) (ap length (sym seen) ∙ length-trees (keys m)) within

  -- the map is a table again
  pub table_after : IsTable (keys n) (values n)
  table_after =
      let low : node_count (tree_here (trees (keys m)) c) ≤ 4096 = subst (λ n. n ≤ 4096) (sym (node_count_tree_here ts c) ∙ ap (λ us. node_count (tree_here us c)) (sym seen)) small in
      let stored : values n ≡ values m ++ node_count (tree_here (trees (keys m)) c) ∷ [] =
      values_after ∙ ap (λ q. values m ++ q ∷ []) (counted ∙ sym (node_count_tree_here ts c) ∙ ap (λ us. node_count (tree_here us c)) (sym seen)) in
      subst (λ cs. IsTable cs (values n)) (sym keys_after) (subst (IsTable (keys m ++ c ∷ [])) (sym stored) (IsTable-push (keys m) (values m) t c within_cells sound absent lengths low))

  at_old : (i : ℕ) → i < length (keys m) → tree_at (trees (keys n)) i ≡ tree_at ts i
  at_old i h = ap (λ cs. tree_at (trees cs) i) keys_after ∙ tree_at-push_old (keys m) c i h ∙ ap (λ us. tree_at us i) seen

  length_after : length (trees (keys n)) ≡ length ts + 1
  length_after = omega (arith, length-trees (keys n), ap length keys_after, length-append (keys m) (c ∷ []), length-trees (keys m), ap length seen)

  -- the new tree stands at the end
  pub new_within : (at : ℕ) → at ≡ length m.entries → at < length (trees (keys n))
  new_within at e = omega (arith, length_after, ap length seen, length-trees (keys m), length-keys_of m.entries)

  pub new_tree : (at : ℕ) → at ≡ length m.entries → tree_at (trees (keys n)) at ≡ tree_here ts c
  new_tree at e =
      ap (λ cs. tree_at (trees cs) at) keys_after ∙ ap (λ i. tree_at (trees (keys m ++ c ∷ [])) i) (e ∙ sym (length-keys_of m.entries))
      ∙ tree_at-push_new (keys m) c ∙ ap (λ us. tree_here us c) seen

  -- earlier positions keep their trees
  pub extends : Extends ts (trees (keys n))
  extends = extended ts (trees (keys n)) (omega (arith, length_after)) (λ i h. at_old i (omega (arith, ap length seen, length-trees (keys m))))
